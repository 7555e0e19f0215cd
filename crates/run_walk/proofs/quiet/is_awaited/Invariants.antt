use Rattle.std.proofs.Common.{◌≡◌, ◌<◌, ℕ, false}
use Rattle.evm_model.specs.Ranks.{may_run_in_band}
use Rattle.run_walk.proofs.quiet.is_awaited.Given as goal

-- none of those below t may
abbrev pub invariant-loop-t : goal.invariant-loop-t
invariant-loop-t g l = (u : ℕ) → u < l.t → may_run_in_band l.c l.machine.board.parts.tasks u ≡ false
