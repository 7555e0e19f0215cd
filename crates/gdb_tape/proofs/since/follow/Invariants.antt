use Rattle.std.proofs.Common.{◌≡◌, take}
use Rattle.evm_model.specs.Replay.{IsReplayOf}
use Rattle.evm_model.specs.State.{State}
use Rattle.gdb_driving.specs.Kept.{KeepsJournal}
use Rattle.gdb_driving.specs.evm_debug.evm_history.Runs.{all_events, runs}
use Rattle.gdb_tape.specs.Tape.{IsSince}
use Rattle.gdb_tape.proofs.since.follow.Given as goal

-- the events of the first lines are made, as many as are wanted
abbrev pub invariant-loop-i : goal.invariant-loop-i
invariant-loop-i l = record {
  made : l.machine.journal ≡ take l.place (all_events (take l.i (runs l.end.journal)));
  kept : KeepsJournal l.fn.machine l.machine;
  since : (first : State) → IsReplayOf first l.fn.machine → IsSince l.task first l.machine.journal l.since;
}
