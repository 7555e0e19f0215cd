use Rattle.std.proofs.Common.{◌≡◌, ℕ, ◌++◌, replicate}
use Rattle.evm_model.specs.Replay.{IsReplayOf}
use Rattle.evm_model.specs.State.{State}
use Rattle.evm_model.specs.declared.event.Event.TheVariants.{Step}
use Rattle.gdb_driving.specs.Kept.{KeepsJournal}
use Rattle.gdb_tape.specs.Tape.{IsSince}
use Rattle.gdb_tape.proofs.since.follow_steps.Given as goal

-- the Steps that were made, and those that are left
abbrev pub invariant-steps : goal.invariant-steps
invariant-steps l = record {
  made : l.machine.journal ++ replicate l.left (Step l.c) ≡ l.fn.machine.journal ++ replicate l.count (Step l.c);
  kept : KeepsJournal l.fn.machine l.machine;
  since : (first : State) → IsReplayOf first l.fn.machine → IsSince l.task first l.fn.machine.journal l.fn.since → IsSince l.task first l.machine.journal l.latest;
}

abbrev pub decreases-steps : goal.decreases-steps
decreases-steps l = l.left
