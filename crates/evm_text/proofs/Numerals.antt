-- Numerals: which digits they have, and that they are the only spelling of a number.
use Rattle.std.proofs.Common.{◌≡◌, ℕ, zero, suc, ◌+◌, ◌*◌, ◌/◌, ◌%◌, ◌^◌, ◌<◌, ◌≤◌, cond, ltb, List, [], ◌∷◌, ◌++◌, refl, sym, ap, ◌∙◌, append_assoc, arith, inl, inr}
use Rattle.std.proofs.Math.Nat.{pow-zero, pow-suc, div-mul-le_self, le-mul_of_pos_right}
use Rattle.std.proofs.lemmas.Nat.{le-div, div_below, div-mul-add, mod-mul-add, div-add-mod', mod_below}
use Rattle.std.proofs.lemmas.List.{append-nil}
use Rattle.std.proofs.lemmas.Bool.{cases_lt, lt-ltb, le-ltb}
use Rattle.evm_text.specs.Written.{character, numeral}
use Rattle.evm_text.specs.Reading.{worth}
use Rattle.evm_text.proofs.Digits.{worth-character, character-worth, value, AreDigits, value-push, AreDigits-push, step_le, value_le}

-- so many divisions bring the number below the base
abbrev pub Fits : ℕ → ℕ → ℕ → Type 0
Fits base zero n = n < base
Fits base (suc divisions) n = Fits base divisions (n / base)

pub Fits_from_power : (base divisions n : ℕ) → 0 < base → n < base ^ suc divisions → Fits base divisions n
Fits_from_power base zero n pos lt =
    let e = rw (pow-zero base) at (pow-suc base 0) in
    omega (arith, e)
Fits_from_power base (suc divisions) n pos lt = Fits_from_power base divisions (n / base) pos (div_below n base (base ^ suc divisions) pos (omega (arith, pow-suc base (suc divisions))))

Fits_le : (base divisions m n : ℕ) → 0 < base → m ≤ n → Fits base divisions n → Fits base divisions m
Fits_le base zero m n pos le fits = omega arith
Fits_le base (suc divisions) m n pos le fits =
    Fits_le base divisions (m / base) (n / base) pos (le-div (m / base) n base pos (omega (arith, div-mul-le_self m base))) fits

pub numeral_stable : (base divisions n : ℕ) → Fits base divisions n → numeral base (suc divisions) n ≡ numeral base divisions n
unfolding numeral
numeral_stable base zero n fits = let small = lt-ltb n base fits in rw small refl
numeral_stable base (suc divisions) n fits =
    ap (λ (front : List ℕ). cond (ltb n base) (character n ∷ []) (front ++ character (n % base) ∷ [])) (numeral_stable base divisions (n / base) fits)

-- a base that the digits serve
pub record IsBase (base : ℕ) : Type 0 where
  pub low : 0 < base
  pub high : base ≤ 16

-- one digit behind a number
numeral_next : (base divisions so_far b : ℕ) → IsBase base → 0 < so_far → worth b < base → numeral base (suc divisions) (so_far * base + worth b) ≡ numeral base divisions so_far ++ b ∷ []
unfolding numeral
numeral_next base divisions so_far b is pos lt =
    let large = le-ltb (so_far * base + worth b) base (omega (arith, le-mul_of_pos_right {m = so_far} base pos)) in
    let front = div-mul-add so_far base (worth b) lt in
    let last = mod-mul-add so_far base (worth b) lt in
    let back = character-worth b (omega (arith, is.high)) in
    rw (large, front, last, back) refl

numeral_push : (base divisions so_far b : ℕ) → IsBase base → 0 < so_far → worth b < base → Fits base divisions (so_far * base + worth b) → numeral base divisions (so_far * base + worth b) ≡ numeral base divisions so_far ++ b ∷ []
numeral_push base zero so_far b is pos lt fits = absurd (omega (arith, le-mul_of_pos_right {m = so_far} base pos))
numeral_push base (suc divisions) so_far b is pos lt fits =
    let front = div-mul-add so_far base (worth b) lt in
    let fits_front : Fits base divisions so_far = rw front at fits in
    numeral_next base divisions so_far b is pos lt ∙ ap (λ (text : List ℕ). text ++ b ∷ []) (sym (numeral_stable base divisions so_far fits_front))

-- digits behind a number are in its numeral
pub numeral-value : (base divisions so_far : ℕ) (digits : List ℕ) → IsBase base → 0 < so_far → AreDigits base digits → Fits base divisions (value base so_far digits) → numeral base divisions (value base so_far digits) ≡ numeral base divisions so_far ++ digits
numeral-value base divisions so_far [] is pos all fits = sym (append-nil (numeral base divisions so_far))
numeral-value base divisions so_far (b ∷ digits) is pos all fits =
    let next = so_far * base + worth b in
    let grows = step_le base so_far (worth b) is.low in
    let fits_next = Fits_le base divisions next (value base next digits) is.low (value_le base next digits is.low) fits in
    numeral-value base divisions next digits is (omega (arith, grows)) all.1 fits
    ∙ ap (λ (text : List ℕ). text ++ digits) (numeral_push base divisions so_far b is pos all.0 fits_next)
    ∙ append_assoc (numeral base divisions so_far) (b ∷ []) digits

one_digit : (base n : ℕ) → IsBase base → n < base → AreDigits base (character n ∷ []) × (value base 0 (character n ∷ []) ≡ n)
one_digit base n is lt =
    let w = worth-character n (omega (arith, is.high)) in
    ((omega arith, tt), omega arith)

-- a numeral is of digits, and they are worth its number
pub numeral-is : (base divisions n : ℕ) → IsBase base → Fits base divisions n → AreDigits base (numeral base divisions n) × (value base 0 (numeral base divisions n) ≡ n)
unfolding numeral
numeral-is base zero n is fits = one_digit base n is fits
numeral-is base (suc divisions) n is fits =
    elim (cases_lt n base) [
      | inl small ↦ let e = lt-ltb n base small in rw e (one_digit base n is small)
      | inr large ↦
          let e = le-ltb n base large in
          let front = numeral-is base divisions (n / base) is fits in
          let below = mod_below n base is.low in
          let w = worth-character (n % base) (omega (arith, is.high)) in
          let whole = value-push base 0 (numeral base divisions (n / base)) (character (n % base)) in
          rw e (AreDigits-push base (numeral base divisions (n / base)) (character (n % base)) front.0 (omega arith), whole ∙ rw (front.1, w) (div-add-mod' n base))
    ]

-- its first digit is no zero, unless it is the only one
pub record Begins (base n : ℕ) (text : List ℕ) : Type 0 where
  pub first : ℕ
  pub others : List ℕ
  pub whole : text ≡ first ∷ others
  pub zero_alone : worth first ≡ 0 → others ≡ []
  pub zero_only : worth first ≡ 0 → n ≡ 0

one_begins : (base n : ℕ) → IsBase base → n < base → Begins base n (character n ∷ [])
one_begins base n is lt =
    let w = worth-character n (omega (arith, is.high)) in
    record { first = character n; others = []; whole = refl; zero_alone = λ z. refl; zero_only = λ z. omega arith }

pub numeral-begins : (base divisions n : ℕ) → IsBase base → Fits base divisions n → Begins base n (numeral base divisions n)
unfolding numeral
numeral-begins base zero n is fits = one_begins base n is fits
numeral-begins base (suc divisions) n is fits =
    elim (cases_lt n base) [
      | inl small ↦ let e = lt-ltb n base small in rw e (one_begins base n is small)
      | inr large ↦
          let e = le-ltb n base large in
          let front = numeral-begins base divisions (n / base) is fits in
          let some : 1 ≤ n / base = le-div 1 n base is.low (omega arith) in
          rw e (record {
            first = front.first;
            others = front.others ++ character (n % base) ∷ [];
            whole = ap (λ (text : List ℕ). text ++ character (n % base) ∷ []) front.whole;
            zero_alone = λ z. absurd (omega (arith, front.zero_only z));
            zero_only = λ z. absurd (omega (arith, front.zero_only z));
          })
    ]

-- a digit is its own numeral
pub numeral-digit : (base divisions b : ℕ) → IsBase base → worth b < base → numeral base divisions (worth b) ≡ b ∷ []
unfolding numeral
numeral-digit base zero b is lt = let e = character-worth b (omega (arith, is.high)) in rw e refl
numeral-digit base (suc divisions) b is lt =
    let e = character-worth b (omega (arith, is.high)) in
    let small = lt-ltb (worth b) base lt in
    rw (small, e) refl

-- with divisions enough, each number is its quotient's numeral and one digit
pub numeral-divides : (base divisions n : ℕ) → Fits base (suc divisions) n → numeral base (suc divisions) n ≡ cond (ltb n base) (character n ∷ []) (numeral base (suc divisions) (n / base) ++ character (n % base) ∷ [])
unfolding numeral
numeral-divides base divisions n fits =
    ap (λ (front : List ℕ). cond (ltb n base) (character n ∷ []) (front ++ character (n % base) ∷ [])) (sym (numeral_stable base divisions (n / base) fits))
