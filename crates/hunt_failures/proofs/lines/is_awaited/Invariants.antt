use Rattle.std.specs.Prelude.{◌≡◌, ℕ, ◌<◌, false, slice_get}
use Rattle.evm_model.specs.Waits.{awaits_line}
use Rattle.hunt_failures.proofs.lines.is_awaited.Given as goal

-- none of the tasks so far waits for the line
abbrev pub invariant-loop-t : goal.invariant-loop-t
invariant-loop-t l = (k : ℕ) → k < l.t → awaits_line l.c l.line (slice_get l.machine.board.parts.tasks k) ≡ false
