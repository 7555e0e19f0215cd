use Rattle.claims_machine.proofs.Reached.{good}
use Rattle.claims_machine.proofs.objects.each_flag_group_is_within_its_bound.Goals as goal

pub returns-clause-few : goal.returns-clause-few
returns-clause-few g boot s reached = (good g.rules_hold.ensures.booted g.rules_hold.ensures.loaded boot s reached).flags.few

pub returns-clause-bounded : goal.returns-clause-bounded
returns-clause-bounded g boot s group word reached there = (good g.rules_hold.ensures.booted g.rules_hold.ensures.loaded boot s reached).flags.bounded group word there
