-- Numbers of a file: little-endian, and a byte past its end counts as zero.
use Rattle.std.specs.Prelude.{ℕ, List, drop}
use Rattle.byteorder.specs.Endian.{little_number}

-- the number in the n bytes at an offset
unfoldable pub field_at : ℕ → ℕ → List ℕ → ℕ
field_at n at file = little_number n (drop at file)
