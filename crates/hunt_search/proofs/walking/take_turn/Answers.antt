use Rattle.std.proofs.Common.{[], ◌∷◌, replicate, subst}
use Rattle.hunt_search.proofs.Making.{if-none}
use Rattle.evm_model.specs.Event.{Event, short_event}
use Rattle.evm_model.specs.declared.event.Event.TheVariants.{Step}
use Rattle.hunt_failures.specs.Failures.{FailsAsWanted}
use Rattle.hunt_schedules.proofs.Walking.{passed-append}
use Rattle.hunt_schedules.specs.Branches.{event_of_choice, turn_events}
use Rattle.hunt_schedules.specs.Walks.{HasPassed}
use Rattle.hunt_search.proofs.walking.take_turn.Goals as goal

pub returns-clause-passes : goal.returns-clause-passes
returns-clause-passes c =
    let steps = replicate c.args.turn.now.steps (let event : Event = Step c.args.turn.now.cpu in event) in
    let last = event_of_choice c.args.turn.now.choice ∷ [] in
    let P : Type 0 = HasPassed (FailsAsWanted c.args.wanted.now) c.take_steps.new.machine (short_event c.event.result ∷ []) c.attempt.new.machine in
    let Q : Type 0 = HasPassed (FailsAsWanted c.args.wanted.now) c.args.machine.now (turn_events c.args.turn.now) c.attempt.new.machine in
    if-none c.attempt.result P Q
    (λ h. passed-append (FailsAsWanted c.args.wanted.now) c.args.machine.now c.take_steps.new.machine c.attempt.new.machine steps last c.in-None.ensures.passes
    (subst (λ (event : Event). HasPassed (FailsAsWanted c.args.wanted.now) c.take_steps.new.machine (event ∷ []) c.attempt.new.machine) c.event.ensures h))
    c.attempt.ensures.passes
