use Rattle.std.proofs.Common.{◌≡◌, length, arith}
use Rattle.std.proofs.lemmas.Bool.Decides.{nat_tests}
use Rattle.hunt_search.proofs.Making.{asleep}
use Rattle.hunt_search.proofs.walking.is_ended.Goals as goal

pub returns : goal.returns
returns c over = c.is_over.ensures over (let none : length c.args.awake.now ≡ 0 = grind (arith, nat_tests) in asleep c.args.awake.now c.args.machine.now none c.requires)
