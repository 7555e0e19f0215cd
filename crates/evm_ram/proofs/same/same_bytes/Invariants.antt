-- the vectors are the same so far
use Rattle.std.proofs.Common.{◌≡◌, ◌<◌, ◌*◌, ℕ, slice_index_or}
use Rattle.evm_ram.proofs.same.same_bytes.Given as goal

abbrev pub invariant-vectors : goal.invariant-vectors
invariant-vectors l = (k : ℕ) → k < l.vector * 64 → slice_index_or l.a k 0 ≡ slice_index_or l.b k 0
