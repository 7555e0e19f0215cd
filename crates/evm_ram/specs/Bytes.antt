-- Numbers as bytes, the lowest byte first.
use Rattle.std.specs.Prelude.{ℕ, zero, suc, ◌+◌, ◌*◌, ◌/◌, ◌%◌, List, [], ◌∷◌}

-- the number that bytes stand for: the first byte, and 256 times the number of the others
abbrev pub little_endian : List ℕ → ℕ
little_endian [] = 0
little_endian (byte ∷ rest) = byte + 256 * little_endian rest

-- the lowest `count` bytes of a number, the lowest of them first
abbrev pub low_bytes : ℕ → ℕ → List ℕ
low_bytes zero number = []
low_bytes (suc count) number = number % 256 ∷ low_bytes count (number / 256)
