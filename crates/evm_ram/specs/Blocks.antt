-- RAM is divided into 64 blocks, and it is known which of them were written. Block b is the bytes whose places have the quotient b by 2 ^ shift.
use Rattle.std.specs.Prelude.{◌≡◌, ◌≤◌, ◌*◌, ◌/◌, ◌^◌, ℕ, Bool, false, List, slice_index_or}

-- blocks of 2 ^ shift bytes cover RAM of this size
abbrev pub Cover : ℕ → ℕ → Type 0
Cover shift size = (3 ≤ shift) × (shift ≤ 18) × (size ≤ 64 * 2 ^ shift)

-- bytes of a block that wasn't written are zero
unfoldable pub IsZeroElsewhere : List ℕ → List Bool → ℕ → Type 0
IsZeroElsewhere bytes written shift =
    (i : ℕ) → slice_index_or written (i / 2 ^ shift) false ≡ false → slice_index_or bytes i 0 ≡ 0
