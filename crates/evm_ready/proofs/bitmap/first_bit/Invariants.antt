use Rattle.std.proofs.Common.{◌≡◌, ◌*◌, ◌<◌, ◌≤◌, ℕ}
use Rattle.evm_ready.specs.Queues.{bit_of}
use Rattle.evm_ready.proofs.bitmap.first_bit.Given as goal

-- none is set so far
abbrev pub invariant-loop-w : goal.invariant-loop-w
invariant-loop-w l = (p : ℕ) → l.from * 64 ≤ p → p < l.w * 64 → bit_of l.words p ≡ 0
