use Rattle.claims_machine.proofs.Reached.{good}
use Rattle.claims_machine.proofs.notices.notices_are_few.Goals as goal

pub returns : goal.returns
returns g boot s reached = let rules = good g.rules_hold.ensures.booted g.rules_hold.ensures.loaded boot s reached in (rules.notices.kept, rules.notices.total)
