use Rattle.std.proofs.Common.{◌∙◌, length, rules, arith}
use Rattle.evm_ready.proofs.Following.{all_follow}
use Rattle.evm_ready.proofs.turns.Turns.copy_from.Goals as goal

pub returns-clause-turns : goal.returns-clause-turns
returns-clause-turns c =
    all_follow c.loop-t.self.turns c.args.other.now.turns c.loop-t.t (search rules) (search rules) (search rules)
