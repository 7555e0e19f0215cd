-- Decimal digits are a number of JSON, and need no escape.
use Rattle.std.proofs.Common.{◌≡◌, ◌≢◌, ℕ, zero, suc, ◌+◌, ◌/◌, ◌%◌, ◌^◌, ◌<◌, ◌≤◌, cond, false, List, [], ◌∷◌, ◌++◌, length, drop, get_or, Some, flat_map, option_and_then, refl, sym, ap, ap₂, subst, ◌∙◌, arith, ◌==◌, inl, inr}
use Rattle.std.proofs.lemmas.Bool.{ne_eqb, le-leb, and_from, cases_eq, cases_lt, lt-ltb, le-ltb}
use Rattle.std.proofs.lemmas.Nat.{mod_below}
use Rattle.std.proofs.lemmas.List.{drop_all}
use Rattle.std.specs.List.{prefix_len}
use Rattle.std.specs.Char.{is_ascii_digit}
use Rattle.json.specs.Word.{head, after_whole, after_fraction, after_exponent, after_number}
use Rattle.json.specs.Print.{escape, escape_byte, IsNumber}
use Rattle.json.proofs.Printed.Strings.{escape_byte_plain}
use Rattle.evm_text.specs.Written.{character, numeral, decimal}
use Rattle.evm_text.specs.Reading.{worth}
use Rattle.evm_text.proofs.Digits.{worth-character}
use Rattle.evm_text.proofs.Numerals.{Fits, Fits_from_power, IsBase, Begins, numeral-begins}

-- the bytes are figures
abbrev AreFigures : List ℕ → Type 0
AreFigures [] = Unit {0}
AreFigures (d ∷ ds) = (48 ≤ d) × (d ≤ 57) × AreFigures ds

figures-push : (ds : List ℕ) (d : ℕ) → AreFigures ds → 48 ≤ d → d ≤ 57 → AreFigures (ds ++ d ∷ [])
figures-push [] d all low high = (low, high, tt)
figures-push (c ∷ ds) d all low high = (all.0, all.1, figures-push ds d all.2 low high)

figure : (d : ℕ) → d < 10 → character d ≡ 48 + d
figure d lt = let e = lt-ltb d 10 lt in rw e refl

one_figure : (n : ℕ) → n < 10 → AreFigures (character n ∷ [])
one_figure n lt = (omega (arith, figure n lt), omega (arith, figure n lt), tt)

figures-numeral : (divisions n : ℕ) → Fits 10 divisions n → AreFigures (numeral 10 divisions n)
unfolding numeral
figures-numeral zero n fits = one_figure n fits
figures-numeral (suc divisions) n fits =
    elim (cases_lt n 10) [
      | inl small ↦
          let e = lt-ltb n 10 small in
          let one : numeral 10 (suc divisions) n ≡ character n ∷ [] = rw e refl in
          subst AreFigures (sym one) (one_figure n small)
      | inr large ↦
          let e = le-ltb n 10 large in
          let last = mod_below n 10 (omega arith) in
          let more : numeral 10 (suc divisions) n ≡ numeral 10 divisions (n / 10) ++ character (n % 10) ∷ [] = rw e refl in
          let digit = figure (n % 10) last in
          subst AreFigures (sym more) (figures-push (numeral 10 divisions (n / 10)) (character (n % 10)) (figures-numeral divisions (n / 10) fits) (omega (arith, digit)) (omega (arith, digit)))
    ]

all_figures : (ds : List ℕ) → AreFigures ds → prefix_len is_ascii_digit ds ≡ length ds
all_figures [] all = refl
all_figures (d ∷ ds) all =
    ap (λ b. cond b (1 + prefix_len is_ascii_digit ds) 0) (and_from _ _ (le-leb 48 d all.0) (le-leb d 57 all.1)) ∙ omega (arith, all_figures ds all.2)

-- the bytes need no escape
abbrev ArePlain : List ℕ → Type 0
ArePlain [] = Unit {0}
ArePlain (d ∷ ds) = (48 ≤ d) × (d ≢ 92) × ArePlain ds

plain-push : (ds : List ℕ) (d : ℕ) → ArePlain ds → 48 ≤ d → d ≢ 92 → ArePlain (ds ++ d ∷ [])
plain-push [] d all low other = (low, other, tt)
plain-push (c ∷ ds) d all low other = (all.0, all.1, plain-push ds d all.2 low other)

plain_character : (d : ℕ) → (48 ≤ character d) × (character d ≢ 92)
plain_character d =
    elim (cases_lt d 10) [
      | inl small ↦ let e = figure d small in (omega (arith, e), λ same. omega (arith, e, same))
      | inr large ↦
          let e = le-ltb d 10 large in
          let letter : character d ≡ 87 + d = rw e refl in
          (omega (arith, letter), λ same. omega (arith, letter, same))
    ]

plain-numeral : (divisions n : ℕ) → ArePlain (numeral 10 divisions n)
unfolding numeral
plain-numeral zero n = let is = plain_character n in (is.0, is.1, tt)
plain-numeral (suc divisions) n =
    elim (cases_lt n 10) [
      | inl small ↦
          let e = lt-ltb n 10 small in
          let one : numeral 10 (suc divisions) n ≡ character n ∷ [] = rw e refl in
          let is = plain_character n in
          subst ArePlain (sym one) (is.0, is.1, tt)
      | inr large ↦
          let e = le-ltb n 10 large in
          let more : numeral 10 (suc divisions) n ≡ numeral 10 divisions (n / 10) ++ character (n % 10) ∷ [] = rw e refl in
          let is = plain_character (n % 10) in
          subst ArePlain (sym more) (plain-push (numeral 10 divisions (n / 10)) (character (n % 10)) (plain-numeral divisions (n / 10)) is.0 is.1)
    ]

escape-plain : (ds : List ℕ) → ArePlain ds → escape ds ≡ ds
escape-plain [] all = refl
escape-plain (d ∷ ds) all =
    ap₂ (λ (xs ys : List ℕ). xs ++ ys) (escape_byte_plain d (λ e. omega arith) all.1 (omega arith)) (escape-plain ds all.2)

-- A number of figures: a lone 0, or a first figure that is none.
figures_number : (d : ℕ) (ds : List ℕ) → AreFigures (d ∷ ds) → (d ≡ 48 → ds ≡ []) → IsNumber (d ∷ ds)
unfolding after_number
figures_number d ds all alone =
    let minus : (head (d ∷ ds) == 45) ≡ false = ne_eqb d 45 (λ e. omega arith) in
    let whole : after_whole (d ∷ ds) ≡ Some [] =
    elim (cases_eq d 48) [
      | inl nought ↦ let none = alone nought in rw (nought, none) refl
      | inr other ↦
          let size = all_figures (d ∷ ds) all in
          let some : (length (d ∷ ds) == 0) ≡ false = ne_eqb (length (d ∷ ds)) 0 (λ e. omega arith) in
          rw (ne_eqb d 48 other, size, some) (ap Some (drop_all (length (d ∷ ds)) (d ∷ ds) (omega arith)))
    ]
    in
    ap (λ o. option_and_then after_exponent (option_and_then after_fraction o))
    (ap (λ b. after_whole (cond b (drop 1 (d ∷ ds)) (d ∷ ds))) minus ∙ whole)

worth_zero : (d : ℕ) → d ≡ 48 → worth d ≡ 0
unfolding worth
worth_zero d e = rw e refl

number : (n : ℕ) → n < 2 ^ 64 → IsNumber (decimal n)
number n lt =
    let base : IsBase 10 = record { low = omega arith; high = omega arith } in
    let fits = Fits_from_power 10 19 n (omega arith) (omega arith) in
    let all = figures-numeral 19 n fits in
    let begins = numeral-begins 10 19 n base fits in
    let figures : AreFigures (begins.first ∷ begins.others) = rw begins.whole at all in
    subst IsNumber (sym begins.whole) (figures_number begins.first begins.others figures (λ e. begins.zero_alone (worth_zero begins.first e)))

pub decimals : (n : ℕ) → (n < 2 ^ 64 → IsNumber (decimal n)) × (escape (decimal n) ≡ decimal n)
decimals n = (number n, escape-plain (decimal n) (plain-numeral 19 n))
