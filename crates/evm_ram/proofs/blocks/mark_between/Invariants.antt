-- the blocks so far are marked, and those that were
use Rattle.std.proofs.Common.{◌≡◌, ◌≤◌, ◌<◌, ℕ, true, false, length, slice_index_or}
use Rattle.evm_ram.proofs.blocks.mark_between.Given as goal

abbrev pub invariant-blocks-2 : goal.invariant-blocks-2
invariant-blocks-2 l =
    (length l.written ≡ 64)
    × ((b : ℕ) → l.fn.first ≤ b → b < l.block → slice_index_or l.written b false ≡ true)
    × ((b : ℕ) → slice_index_or l.initial.written b false ≡ true → slice_index_or l.written b false ≡ true)
