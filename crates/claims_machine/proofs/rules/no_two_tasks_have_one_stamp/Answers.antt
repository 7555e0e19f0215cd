use Rattle.claims_machine.proofs.Reached.{good}
use Rattle.claims_machine.proofs.rules.no_two_tasks_have_one_stamp.Goals as goal

pub returns-clause-differ : goal.returns-clause-differ
returns-clause-differ g boot s t u task other reached e f same = (good g.rules_hold.ensures.booted g.rules_hold.ensures.loaded boot s reached).good.stamps_differ t u task other e f same

pub returns-clause-below : goal.returns-clause-below
returns-clause-below g boot s t task reached e = (good g.rules_hold.ensures.booted g.rules_hold.ensures.loaded boot s reached).good.stamps_below t task e
