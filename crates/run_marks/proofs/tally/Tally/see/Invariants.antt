use Rattle.std.proofs.Common.{◌≡◌, ℕ, ◌<◌, Some, slice_get}
use Rattle.evm_model.specs.Pipes.{Pipe}
use Rattle.run_marks.proofs.tally.Tally.see.Given as goal

-- the rows of the processors below c have their counts
abbrev pub invariant-loop-c : goal.invariant-loop-c
invariant-loop-c g l = (d : ℕ) (pipe : Pipe) → d < l.c → slice_get l.machine.board.parts.pipes d ≡ Some pipe → slice_get l.self.rows d ≡ Some pipe.counts
