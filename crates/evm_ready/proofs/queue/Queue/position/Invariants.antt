use Rattle.std.proofs.Common.{◌≡◌, ◌<◌, ℕ, Some}
use Rattle.std.specs.Prelude.{slice_get}
use Rattle.evm_ready.proofs.queue.Queue.position.Given as goal

-- it is at no place so far
abbrev pub invariant-loop-i : goal.invariant-loop-i
invariant-loop-i l = (k u : ℕ) → k < l.i → slice_get l.self k ≡ Some u → u ≡ l.t → ⊥
