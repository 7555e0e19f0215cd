-- the blocks so far are the same
use Rattle.std.proofs.Common.{◌≡◌, ◌<◌, ◌/◌, ◌^◌, ℕ, length, slice_index_or}
use Rattle.evm_ram.proofs.same.same_written.Given as goal

abbrev pub invariant-blocks-2 : goal.invariant-blocks-2
invariant-blocks-2 l = (i : ℕ) → i < length l.a → i / 2 ^ l.blocks.shift < l.block → slice_index_or l.a i 0 ≡ slice_index_or l.b i 0
