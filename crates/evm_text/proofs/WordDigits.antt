-- Hexadecimal digits, two for each byte.
use Rattle.std.proofs.Common.{◌≡◌, ℕ, zero, suc, ◌+◌, ◌-◌, ◌*◌, ◌/◌, ◌%◌, ◌<◌, ◌≤◌, Bool, true, false, ◌&&◌, eqb, List, [], ◌∷◌, ◌++◌, length, take, drop, get_or, refl, ap, ◌∙◌, append_assoc, arith, inl, inr}
use Rattle.std.proofs.lemmas.Bool.{cases_lt, eqb-true, lt-ltb, le-ltb}
use Rattle.std.proofs.lemmas.List.{take_all}
use Rattle.std.proofs.lemmas.Str.Ascii.{IsAscii-nil, IsAscii-push}
use Rattle.std.specs.Str.{IsAscii}
use Rattle.evm_text.proofs.RoundTrips.{pads_to_count}
use Rattle.evm_text.specs.Written.{character, hexadecimal_padded}
use Rattle.evm_text.specs.declared.hexadecimal.TheConstants.{PAIRS}

-- ---- the table

abbrev is_pair : ℕ → Bool
is_pair byte = eqb (get_or PAIRS.now (byte * 2) 0) (character (byte / 16)) && eqb (get_or PAIRS.now (byte * 2 + 1) 0) (character (byte % 16))

abbrev are_pairs : ℕ → Bool
are_pairs zero = true
are_pairs (suc byte) = is_pair byte && are_pairs byte

both : (a b : Bool) → (a && b) ≡ true → (a ≡ true) × (b ≡ true)
both true b e = (refl, e)
both false b e = absurd cc

below : (count byte : ℕ) → are_pairs count ≡ true → byte < count → is_pair byte ≡ true
below zero byte all lt = absurd (omega arith)
below (suc count) byte all lt =
    let parts = both (is_pair count) (are_pairs count) all in
    elim (cases_lt byte count) [
      | inl earlier ↦ below count byte parts.1 earlier
      | inr last ↦ let same : byte ≡ count = omega (arith, last, lt) in rw same parts.0
    ]

pub pair_at : (byte : ℕ) → byte < 256 → (get_or PAIRS.now (byte * 2) 0 ≡ character (byte / 16)) × (get_or PAIRS.now (byte * 2 + 1) 0 ≡ character (byte % 16))
pair_at byte lt =
    let is = both (eqb (get_or PAIRS.now (byte * 2) 0) (character (byte / 16))) (eqb (get_or PAIRS.now (byte * 2 + 1) 0) (character (byte % 16))) (below 256 byte refl lt) in
    (eqb-true _ _ is.0, eqb-true _ _ is.1)

-- ---- a word

abbrev pub pair : ℕ → List ℕ
pair n = character (n % 256 / 16) ∷ character (n % 256 % 16) ∷ []

padded_pair : (count n : ℕ) → hexadecimal_padded (suc (suc count)) n ≡ hexadecimal_padded count (n / 256) ++ pair n
unfolding hexadecimal_padded
padded_pair count n =
    let quotient : n / 16 / 16 ≡ n / 256 = omega arith in
    let high : n / 16 % 16 ≡ n % 256 / 16 = omega arith in
    let low : n % 16 ≡ n % 256 % 16 = omega arith in
    rw (quotient, high, low) (append_assoc (hexadecimal_padded count (n / 256)) (character (n % 256 / 16) ∷ []) (character (n % 256 % 16) ∷ []))

abbrev pub digit_pairs : ℕ → ℕ → List ℕ
digit_pairs zero n = []
digit_pairs (suc count) n = digit_pairs count (n / 256) ++ pair n

abbrev twice : ℕ → ℕ
twice zero = zero
twice (suc count) = suc (suc (twice count))

padded_pairs : (count n : ℕ) → hexadecimal_padded (twice count) n ≡ digit_pairs count n
padded_pairs zero n = unfold hexadecimal_padded in refl
padded_pairs (suc count) n = padded_pair (twice count) n ∙ ap (λ (text : List ℕ). text ++ pair n) (padded_pairs count (n / 256))

pub word_digits : (n : ℕ) → hexadecimal_padded 16 n ≡ digit_pairs 8 n
word_digits n = padded_pairs 8 n

-- ---- the last digits of a word

drop_all : (xs : List ℕ) (n : ℕ) → length xs ≡ n → drop n xs ≡ []
drop_all [] zero e = refl
drop_all [] (suc n) e = refl
drop_all (x ∷ xs) zero e = absurd (omega (arith, e))
drop_all (x ∷ xs) (suc n) e = drop_all xs n (omega (arith, e))

drop_front : (n : ℕ) (xs ys : List ℕ) → n ≤ length xs → drop n (xs ++ ys) ≡ drop n xs ++ ys
drop_front zero xs ys le = refl
drop_front (suc n) [] ys le = absurd (omega (arith, le))
drop_front (suc n) (x ∷ xs) ys le = drop_front n xs ys (omega (arith, le))

abbrev after : ℕ → ℕ → ℕ
after more zero = more
after more (suc count) = suc (after more count)

after_sum : (more count : ℕ) → after more count ≡ count + more
after_sum more zero = omega arith
after_sum more (suc count) = omega (arith, after_sum more count)

last_of : (more count n : ℕ) → drop more (hexadecimal_padded (after more count) n) ≡ hexadecimal_padded count n
unfolding hexadecimal_padded
last_of more zero n = drop_all (hexadecimal_padded more n) more (pads_to_count more n)
last_of more (suc count) n =
    drop_front more (hexadecimal_padded (after more count) (n / 16)) (character (n % 16) ∷ []) (omega (arith, pads_to_count (after more count) (n / 16), after_sum more count))
    ∙ ap (λ (text : List ℕ). text ++ character (n % 16) ∷ []) (last_of more count (n / 16))

last_drop : (count n : ℕ) → count ≤ 16 → drop (16 - count) (hexadecimal_padded 16 n) ≡ hexadecimal_padded count n
last_drop count n le =
    let all : 16 ≡ after (16 - count) count = omega (arith, le, after_sum (16 - count) count) in
    ap (λ (k : ℕ). drop (16 - count) (hexadecimal_padded k n)) all ∙ last_of (16 - count) count n

pub last_digits : (count n : ℕ) → count ≤ 16 → take (16 - (16 - count)) (drop (16 - count) (hexadecimal_padded 16 n)) ≡ hexadecimal_padded count n
last_digits count n le =
    let rest = last_drop count n le in
    rw rest (take_all (16 - (16 - count)) (hexadecimal_padded count n) (omega (arith, le, pads_to_count count n)))

-- ---- digits are ASCII

character_low : (d : ℕ) → d < 16 → character d < 128
character_low d lt =
    elim (cases_lt d 10) [
      | inl small ↦ let e = lt-ltb d 10 small in rw e (omega (arith, lt))
      | inr large ↦ let e = le-ltb d 10 large in rw e (omega (arith, lt))
    ]

pub ascii_digits : (count n : ℕ) → IsAscii (hexadecimal_padded count n)
unfolding hexadecimal_padded
ascii_digits zero n = IsAscii-nil
ascii_digits (suc count) n = IsAscii-push (hexadecimal_padded count (n / 16)) (character (n % 16)) (ascii_digits count (n / 16)) (character_low (n % 16) (omega arith))
