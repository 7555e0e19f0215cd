-- Bytes from pairs of hexadecimal digits.
use Rattle.std.specs.Prelude.{◌≡◌, ℕ, ◌+◌, ◌*◌, Bool, true, false, List, [], ◌∷◌, ◌++◌, Option, Some, None, nat_lt, if◌then◌else◌}
use Rattle.evm_text.specs.Reading.{worth}

-- 0 to 9, and a to f
abbrev pub is_hexadecimal : ℕ → Bool
is_hexadecimal character = nat_lt (worth character) 16

-- the bytes go on with those of the digits
unfoldable pub bytes_on : List ℕ → List ℕ → Option (List ℕ)
bytes_on so_far [] = Some so_far
bytes_on so_far (high ∷ []) = None
bytes_on so_far (high ∷ low ∷ digits) =
    if nat_lt (worth high) 16
    then (if nat_lt (worth low) 16 then bytes_on (so_far ++ (worth high * 16 + worth low) ∷ []) digits else None)
    else None

-- the bytes whose pairs of digits these are
abbrev pub bytes_of_digits : List ℕ → Option (List ℕ)
bytes_of_digits digits = bytes_on [] digits

-- What a function read: whether there are such bytes, and which.
abbrev pub Reads : Option (List ℕ) → Bool → List ℕ → Type 0
Reads read true bytes = read ≡ Some bytes
Reads read false bytes = read ≡ None
