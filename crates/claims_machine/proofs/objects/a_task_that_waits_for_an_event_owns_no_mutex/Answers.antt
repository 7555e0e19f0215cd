use Rattle.std.proofs.Common.{slice_get, ap, ◌∙◌}
use Rattle.evm_model.specs.Mutexes.{owner_of}
use Rattle.claims_machine.proofs.Reached.{good}
use Rattle.claims_machine.proofs.Waiting.{named_is, waits_at}
use Rattle.claims_machine.proofs.objects.a_task_that_waits_for_an_event_owns_no_mutex.Goals as goal

pub returns-clause-few : goal.returns-clause-few
returns-clause-few g boot s reached = (good g.rules_hold.ensures.booted g.rules_hold.ensures.loaded boot s reached).few_events

pub returns-clause-named : goal.returns-clause-named
returns-clause-named g boot s t e task reached there is =
    named_is (slice_get s.board.parts.events e) s.board.parts.mutexes ((good g.rules_hold.ensures.booted g.rules_hold.ensures.loaded boot s reached).good.events.bound t e (waits_at t e task s.board.parts.tasks there is))

pub returns-clause-idle : goal.returns-clause-idle
returns-clause-idle g boot s t e m task mutex reached there is at own =
    (good g.rules_hold.ensures.booted g.rules_hold.ensures.loaded boot s reached).good.events.idle t e m (waits_at t e task s.board.parts.tasks there is) (ap owner_of at ∙ own)
