use Rattle.claims_machine.proofs.Reached.{good}
use Rattle.claims_machine.proofs.Waiting.{not_waiting}
use Rattle.claims_machine.proofs.objects.a_task_that_does_not_wait_has_no_deadline.Goals as goal

pub returns : goal.returns
returns g boot s t task reached there ready = (good g.rules_hold.ensures.booted g.rules_hold.ensures.loaded boot s reached).good.deadlines t task there (not_waiting task.state ready)
