use Rattle.std.proofs.Common.{[], ◌∷◌, subst, sym}
use Rattle.hunt_search.proofs.Making.{attempted-if, not-accepted}
use Rattle.evm_model.specs.Event.{Event, short_event}
use Rattle.evm_model.specs.State.{State}
use Rattle.hunt_failures.specs.Failures.{FailsAsWanted}
use Rattle.hunt_schedules.specs.Walks.{HasPassed}
use Rattle.hunt_search.proofs.walking.attempt.Goals as goal

pub returns-in-Ok-clause-passes : goal.returns-in-Ok-clause-passes
returns-in-Ok-clause-passes c = let event : Event = short_event c.args.event in attempted-if c.args.wanted.now c.args.machine.now c.advance.new.machine event c.in-Ok.seen c.in-Ok.ensures.seen

pub returns-in-Err-clause-passes : goal.returns-in-Err-clause-passes
returns-in-Err-clause-passes c =
    let event : Event = short_event c.args.event in
    subst (λ (s : State). HasPassed (FailsAsWanted c.args.wanted.now) c.args.machine.now (event ∷ []) s) (sym c.in-Err.ensures.unchanged)
    (not-accepted c.args.wanted.now c.args.machine.now event c.in-Err.field-0 c.in-Err.ensures.refused)
