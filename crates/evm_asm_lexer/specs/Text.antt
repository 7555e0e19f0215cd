-- Characters, the words of a line, and what stands between its commas. A text is the list of its bytes.
use Rattle.std.specs.Prelude.{ℕ, ◌+◌, ◌-◌, ◌*◌, ◌^◌, Bool, true, false, not, ◌&&◌, ◌||◌, ◌==◌, nat_le, nat_lt, if◌then◌else◌, List, [], ◌∷◌, length, take, drop, Option, Some, None, is_some, option_and_then, codes}
use Rattle.std.specs.List.{position}
use Rattle.std.specs.Option.{unwrap_or}
use Rattle.std.specs.Str.{bytes_eq}
use Rattle.evm_asm_lexer.specs.Characters.{tab, carriage_return, blank, dollar, left_parenthesis, right_parenthesis, comma, minus, dot, digit_0, digit_9, colon, capital_a, capital_f, capital_z, underscore, small_a, small_f, small_z}

abbrev pub within : ℕ → ℕ → ℕ → Bool
within low high b = nat_le low b && nat_le b high

-- '0' to '9'
abbrev pub is_digit : ℕ → Bool
is_digit b = within digit_0 digit_9 b

-- a letter, '_', '.' or '$'
abbrev pub is_name_start : ℕ → Bool
is_name_start b = within small_a small_z b || within capital_a capital_z b || b == underscore || b == dot || b == dollar

abbrev pub is_word_byte : ℕ → Bool
is_word_byte b = is_name_start b || is_digit b

-- a blank, a tab or a carriage return
abbrev pub is_white : ℕ → Bool
is_white b = b == blank || b == tab || b == carriage_return

-- ',' '(' ')' ':'
abbrev pub is_mark : ℕ → Bool
is_mark b = b == comma || b == left_parenthesis || b == right_parenthesis || b == colon

-- the first place at which p passes, or the length
abbrev pub place_by : (ℕ → Bool) → List ℕ → ℕ
place_by p text = unwrap_or (position p text) (length text)

abbrev pub tail : List ℕ → List ℕ
tail [] = []
tail (b ∷ bs) = bs

-- The text before the first byte c, which is the whole text where there is none, and the text behind it.
unfoldable pub before : ℕ → List ℕ → List ℕ
before c text = take (place_by (λ b. b == c) text) text

unfoldable pub after : ℕ → List ℕ → List ℕ
after c text = tail (drop (place_by (λ b. b == c) text) text)

abbrev pub has_byte : ℕ → List ℕ → Bool
has_byte c text = is_some (position (λ b. b == c) text)

-- the text from its first byte on that isn't blank
unfoldable pub skip_blanks : List ℕ → List ℕ
skip_blanks text = drop (place_by (λ b. not (is_white b)) text) text

abbrev pub is_empty : List ℕ → Bool
is_empty text = length text == 0

-- the longest word at the front, and what follows it
unfoldable pub first_word : List ℕ → List ℕ
first_word text = take (place_by (λ b. not (is_word_byte b)) text) text

unfoldable pub behind_word : List ℕ → List ℕ
behind_word text = drop (place_by (λ b. not (is_word_byte b)) text) text

abbrev pub starts_with : (ℕ → Bool) → List ℕ → Bool
starts_with p [] = false
starts_with p (b ∷ bs) = p b

-- What a digit stands for: '0' to '9', and 'a' to 'f' in either case.
abbrev pub digit : ℕ → Option ℕ
digit b =
    if is_digit b then Some (b - digit_0)
    else (if within small_a small_f b then Some (b - small_a + 10)
    else (if within capital_a capital_f b then Some (b - capital_a + 10)
    else None))

-- The number that n becomes with one more digit of the base; none of 2 ^ 64 or above.
unfoldable pub with_digit : ℕ → ℕ → ℕ → Option ℕ
with_digit base n b =
    option_and_then (λ d. if nat_lt d base && nat_lt (n * base + d) (2 ^ 64) then Some (n * base + d) else None) (digit b)

-- the number that n becomes with these digits behind it
unfoldable pub with_digits : ℕ → ℕ → List ℕ → Option ℕ
with_digits base n [] = Some n
with_digits base n (b ∷ bs) = option_and_then (λ more. with_digits base more bs) (with_digit base n b)

-- The number of at least one digit.
unfoldable pub digits : ℕ → List ℕ → Option ℕ
digits base text = if is_empty text then None else with_digits base 0 text

-- The size of a number: `0x` and hexadecimal digits, or decimal ones.
unfoldable pub size : List ℕ → Option ℕ
size text = if bytes_eq (take 2 text) (codes "0x") then digits 16 (drop 2 text) else digits 10 text

-- A word is a name, or it begins with a digit and is a number.
abbrev pub is_name_or_number : List ℕ → Bool
is_name_or_number text = if starts_with is_digit text then is_some (size text) else true

-- Whether a text may begin so: a word is a name or a number, where it isn't the rest of one; a '-' has a digit
-- behind it; else there is a blank or a mark.
unfoldable pub begins_well : Bool → List ℕ → Bool
begins_well inside [] = true
begins_well inside (b ∷ bs) =
    if is_word_byte b then inside || is_name_or_number (first_word (b ∷ bs))
    else (if b == minus then starts_with is_digit bs
    else is_white b || is_mark b)

-- the text from its first token on that isn't sound, if there is one
unfoldable pub bad_token : Bool → List ℕ → Option (List ℕ)
bad_token inside [] = None
bad_token inside (b ∷ bs) = if begins_well inside (b ∷ bs) then bad_token (is_word_byte b) bs else Some (b ∷ bs)

-- Whether all tokens of a text are sound; `inside` where the text goes on with a word that began before it.
unfoldable pub is_sound : Bool → List ℕ → Bool
is_sound inside [] = true
is_sound inside (b ∷ bs) = if begins_well inside (b ∷ bs) then is_sound (is_word_byte b) bs else false
