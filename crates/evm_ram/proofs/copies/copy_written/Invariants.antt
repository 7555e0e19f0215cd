-- the blocks so far are those of the other, and the rest is as it was
use Rattle.std.proofs.Common.{◌≡◌, ◌≤◌, ◌<◌, ◌/◌, ◌^◌, ℕ, length, slice_index_or}
use Rattle.evm_ram.proofs.copies.copy_written.Given as goal

abbrev pub invariant-blocks-2 : goal.invariant-blocks-2
invariant-blocks-2 l =
    (length l.bytes ≡ length l.other)
    × ((i : ℕ) → i < length l.bytes → i / 2 ^ l.blocks.shift < l.block → slice_index_or l.bytes i 0 ≡ slice_index_or l.other i 0)
    × ((i : ℕ) → l.block ≤ i / 2 ^ l.blocks.shift → slice_index_or l.bytes i 0 ≡ slice_index_or l.initial.bytes i 0)
