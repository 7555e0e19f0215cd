use Rattle.std.proofs.Common.{◌∷◌, [], replicate}
use Rattle.evm_model.specs.Event.{Event}
use Rattle.evm_model.specs.declared.event.Event.TheVariants.{Step}
use Rattle.hunt_schedules.specs.Branches.{event_of_choice}
use Rattle.hunt_space.proofs.Reaching.{two-replays}
use Rattle.hunt_space.proofs.replaying.repeat_turn.Goals as goal

pub returns-clause-repeats : goal.returns-clause-repeats
returns-clause-repeats c =
    let step : Event = Step c.args.turn.now.cpu in
    two-replays c.args.machine.now c.repeat_steps.new.machine c.repeat_choice.new.machine (replicate c.args.turn.now.steps step) (event_of_choice c.args.turn.now.choice ∷ []) c.repeat_steps.ensures.repeats c.repeat_choice.ensures.repeats
