-- Numbers and bytes as characters, by the characters' ASCII codes.
use Rattle.std.specs.Prelude.{ℕ, zero, suc, ◌+◌, ◌/◌, ◌%◌, List, [], ◌∷◌, ◌++◌, nat_lt, if◌then◌else◌}

-- the character of a digit: 0 to 9, and a to f from ten on
abbrev pub character : ℕ → ℕ
character d = if nat_lt d 10 then 48 + d else 87 + d

-- A number in a base, by division: below the base it is one digit, from there on the digits of the quotient and
-- then that of the remainder. At most n divisions are made, which is enough for n + 1 digits.
unfoldable pub numeral : ℕ → ℕ → ℕ → List ℕ
numeral base zero n = character n ∷ []
numeral base (suc divisions) n = if nat_lt n base then character n ∷ [] else numeral base divisions (n / base) ++ character (n % base) ∷ []

-- numbers below 2 ^ 64 have at most 20 decimal digits
abbrev pub decimal : ℕ → List ℕ
decimal n = numeral 10 19 n

-- and at most 16 hexadecimal ones
abbrev pub hexadecimal : ℕ → List ℕ
hexadecimal n = numeral 16 15 n

-- the last n hexadecimal digits of a number, with zeros in front where it is shorter
unfoldable pub hexadecimal_padded : ℕ → ℕ → List ℕ
hexadecimal_padded zero n = []
hexadecimal_padded (suc count) n = hexadecimal_padded count (n / 16) ++ character (n % 16) ∷ []

-- two hexadecimal digits for each byte
unfoldable pub pairs : List ℕ → List ℕ
pairs [] = []
pairs (byte ∷ bytes) = character (byte / 16) ∷ character (byte % 16) ∷ pairs bytes

-- words with one blank between them
abbrev pub spaced : List (List ℕ) → List ℕ
spaced [] = []
spaced (word ∷ []) = word
spaced (word ∷ next ∷ words) = word ++ 32 ∷ spaced (next ∷ words)
