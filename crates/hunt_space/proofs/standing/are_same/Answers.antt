use Rattle.std.proofs.Common.{◌≡◌, length, arith}
use Rattle.std.proofs.lemmas.Bool.Decides.{nat_tests}
use Rattle.hunt_space.proofs.Stands.{same-turns}
use Rattle.hunt_space.proofs.standing.are_same.Goals as goal

pub returns : goal.returns
returns c same =
    let count : length c.args.turns.now ≡ length c.args.others.now = grind (arith, nat_tests) in
    same-turns c.args.turns.now c.args.others.now count (λ i less. c.places.invariant i (omega (arith, less)))
