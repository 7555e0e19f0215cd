-- Reading from the front of some bytes: what stands there, and the bytes behind it.
use Rattle.std.specs.Prelude.{◌≡◌, ℕ, ◌+◌, ◌-◌, ◌*◌, ◌^◌, Bool, false, ◌&&◌, List, [], ◌∷◌, ◌++◌, length, Option, Some, None, nat_lt, ◌==◌, if◌then◌else◌}
use Rattle.evm_text.specs.declared.reading.TheConstants.{BLOCK_LIMIT}

-- what was read goes on to the next step
infixl 10 ◌>>=◌
abbrev pub ◌>>=◌ : {A B : Type 0} → Option A → (A → Option B) → Option B
(Some x) >>= f = f x
None >>= f = None

-- what a function answered, seen so, is what is read
abbrev pub ReadsAs : {X Y : Type 0} → (X → Y) → Option X → Option Y → Type 0
ReadsAs view (Some x) read = read ≡ Some (view x)
ReadsAs view None read = read ≡ None

-- what a character is worth as a digit: 0 to 9, ten to fifteen for a to f, and sixteen for any other character
unfoldable pub worth : ℕ → ℕ
worth b = if nat_lt b 48 then 16 else (if nat_lt b 58 then b - 48 else (if nat_lt b 97 then 16 else (if nat_lt b 103 then b - 87 else 16)))

abbrev pub begins_with_digit : ℕ → List ℕ → Bool
begins_with_digit base [] = false
begins_with_digit base (b ∷ bytes) = nat_lt (worth b) base

-- a number goes on with the digits at the front, up to another character, and stays below 2 ^ 64
unfoldable pub number_on : ℕ → ℕ → List ℕ → Option (ℕ × List ℕ)
number_on base so_far [] = Some (so_far, [])
number_on base so_far (b ∷ bytes) =
    if nat_lt (worth b) base
    then (if nat_lt (so_far * base + worth b) (2 ^ 64) then number_on base (so_far * base + worth b) bytes else None)
    else Some (so_far, b ∷ bytes)

-- a number has a digit, and no zero before another digit
unfoldable pub number_at : ℕ → List ℕ → Option (ℕ × List ℕ)
number_at base [] = None
number_at base (b ∷ bytes) =
    if nat_lt (worth b) base
    then (if worth b == 0 && begins_with_digit base bytes then None else number_on base (worth b) bytes)
    else None

abbrev pub decimal_at : List ℕ → Option (ℕ × List ℕ)
decimal_at bytes = number_at 10 bytes

abbrev pub hexadecimal_at : List ℕ → Option (ℕ × List ℕ)
hexadecimal_at bytes = number_at 16 bytes

-- bytes go on with the pairs of hexadecimal digits at the front, up to another character, and are no more than the limit
unfoldable pub pairs_on : List ℕ → List ℕ → Option (List ℕ × List ℕ)
pairs_on so_far [] = Some (so_far, [])
pairs_on so_far (high ∷ []) = if nat_lt (worth high) 16 then None else Some (so_far, high ∷ [])
pairs_on so_far (high ∷ low ∷ bytes) =
    if nat_lt (worth high) 16
    then (if nat_lt (worth low) 16
    then (if nat_lt (length so_far) BLOCK_LIMIT then pairs_on (so_far ++ (worth high * 16 + worth low) ∷ []) bytes else None)
    else None)
    else Some (so_far, high ∷ low ∷ bytes)

-- 1 to 64 bytes
unfoldable pub pairs_at : List ℕ → Option (List ℕ × List ℕ)
pairs_at bytes = pairs_on [] bytes >>= λ x. if length x.0 == 0 then None else Some x

-- the bytes behind a word that stands at the front
unfoldable pub after_word : List ℕ → List ℕ → Option (List ℕ)
after_word [] bytes = Some bytes
after_word (c ∷ word) [] = None
after_word (c ∷ word) (b ∷ bytes) = if b == c then after_word word bytes else None
