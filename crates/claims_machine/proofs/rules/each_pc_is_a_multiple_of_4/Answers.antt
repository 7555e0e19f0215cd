use Rattle.claims_machine.proofs.Reached.{good}
use Rattle.claims_machine.proofs.rules.each_pc_is_a_multiple_of_4.Goals as goal

pub returns : goal.returns
returns g boot s t hart reached e = (good g.rules_hold.ensures.booted g.rules_hold.ensures.loaded boot s reached).good.aligned t hart e
