-- What is read is what was written, and nothing else is read.
use Rattle.std.specs.Prelude.{◌≡◌, ◌↔◌, ℕ, ◌/◌, ◌%◌, ◌<◌, ◌≤◌, ◌^◌, false, List, [], ◌∷◌, ◌++◌, length, replicate, Some, nat_lt, if◌then◌else◌}
use Rattle.std.specs.List.{AllByRecursion}
use Rattle.evm_text.specs.Written.{character, decimal, hexadecimal, hexadecimal_padded, pairs}
use Rattle.evm_text.specs.declared.reading.TheConstants.{BLOCK_LIMIT}
use Rattle.evm_text.specs.Reading.{begins_with_digit, decimal_at, hexadecimal_at, pairs_at, after_word}

-- the bytes are a text, and behind it a rest that doesn't go on with a digit of the base
pub record Splits (base : ℕ) (text rest bytes : List ℕ) : Type 0 where
  pub whole : bytes ≡ text ++ rest
  pub apart : begins_with_digit base rest ≡ false

-- 1 to 64 bytes
pub record IsBlock (block : List ℕ) : Type 0 where
  pub some : 0 < length block
  pub most : length block ≤ BLOCK_LIMIT
  pub each : AllByRecursion (λ byte. byte < 256) block

abbrev pub ReadsDecimals : Type 0
ReadsDecimals = (n : ℕ) (rest bytes : List ℕ) → (decimal_at bytes ≡ Some (n, rest)) ↔ (Splits 10 (decimal n) rest bytes × (n < 2 ^ 64))

abbrev pub ReadsHexadecimals : Type 0
ReadsHexadecimals = (n : ℕ) (rest bytes : List ℕ) → (hexadecimal_at bytes ≡ Some (n, rest)) ↔ (Splits 16 (hexadecimal n) rest bytes × (n < 2 ^ 64))

abbrev pub ReadsPairs : Type 0
ReadsPairs = (block rest bytes : List ℕ) → (pairs_at bytes ≡ Some (block, rest)) ↔ (Splits 16 (pairs block) rest bytes × IsBlock block)

abbrev pub ReadsWords : Type 0
ReadsWords = (word rest bytes : List ℕ) → (after_word word bytes ≡ Some rest) ↔ (bytes ≡ word ++ rest)

-- a number's digits are its quotient's and then its remainder's, as long as there is a quotient
abbrev pub DividesDecimals : Type 0
DividesDecimals = (n : ℕ) → n < 2 ^ 64 → decimal n ≡ (if nat_lt n 10 then character n ∷ [] else decimal (n / 10) ++ character (n % 10) ∷ [])

abbrev pub DividesHexadecimals : Type 0
DividesHexadecimals = (n : ℕ) → n < 2 ^ 64 → hexadecimal n ≡ (if nat_lt n 16 then character n ∷ [] else hexadecimal (n / 16) ++ character (n % 16) ∷ [])

-- the number itself stands behind zeros
abbrev pub PadsWithZeros : Type 0
PadsWithZeros = (count n : ℕ) → 0 < count → n < 16 ^ count → n < 2 ^ 64 → (zeros : ℕ) × (hexadecimal_padded count n ≡ replicate zeros 48 ++ hexadecimal n)

abbrev pub PadsToCount : Type 0
PadsToCount = (count n : ℕ) → length (hexadecimal_padded count n) ≡ count
