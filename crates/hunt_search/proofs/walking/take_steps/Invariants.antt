use Rattle.std.proofs.Common.{ℕ, replicate}
use Rattle.evm_model.specs.Replay.{IsReplayOf}
use Rattle.evm_model.specs.State.{State}
use Rattle.evm_model.specs.declared.event.Event.TheVariants.{Step}
use Rattle.hunt_failures.specs.Failures.{FailsAsWanted}
use Rattle.hunt_schedules.specs.Walks.{HasPassed}
use Rattle.hunt_search.proofs.walking.take_steps.Given as goal

abbrev pub invariant-steps : goal.invariant-steps
invariant-steps l = HasPassed (FailsAsWanted l.wanted) l.initial.machine (replicate l._i (Step l.cpu)) l.machine × ((first : State) → IsReplayOf first l.initial.machine → IsReplayOf first l.machine)
