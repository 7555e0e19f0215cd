-- What is read at the front is the number whose numeral stands there.
use Rattle.std.proofs.Common.{◌≡◌, ℕ, ◌+◌, ◌*◌, ◌^◌, ◌<◌, ◌&&◌, false, cond, eqb, ltb, List, [], ◌∷◌, ◌++◌, Some, None, refl, sym, ap, subst, ◌∙◌, arith, inl, inr}
use Rattle.std.proofs.lemmas.Bool.{cases_Bool, cases_lt, eqb-true, lt-ltb, ltb-true}
use Rattle.std.proofs.lemmas.Option.{some_pair_parts}
use Rattle.evm_text.specs.Written.{numeral}
use Rattle.evm_text.specs.Reading.{worth, begins_with_digit, number_on, number_at}
use Rattle.evm_text.proofs.Options.{guard_some, refuse_some}
use Rattle.evm_text.proofs.Digits.{value, AreDigits, value_le}
use Rattle.evm_text.proofs.Numerals.{IsBase, Fits, numeral-value, numeral-is, numeral-begins, numeral-digit}

number_on-ends : (base so_far : ℕ) (rest : List ℕ) → begins_with_digit base rest ≡ false → number_on base so_far rest ≡ Some (so_far, rest)
unfolding number_on
number_on-ends base so_far [] ends = refl
number_on-ends base so_far (b ∷ rest) ends = rw ends refl

-- digits are read to their end
number_on-digits : (base so_far : ℕ) (digits rest : List ℕ) → IsBase base → AreDigits base digits → value base so_far digits < 2 ^ 64 → begins_with_digit base rest ≡ false → number_on base so_far (digits ++ rest) ≡ Some (value base so_far digits, rest)
unfolding number_on
number_on-digits base so_far [] rest is all small ends = number_on-ends base so_far rest ends
number_on-digits base so_far (b ∷ digits) rest is all small ends =
    let next = so_far * base + worth b in
    let digit = lt-ltb (worth b) base all.0 in
    let below = lt-ltb next (2 ^ 64) (omega (arith, value_le base next digits is.low)) in
    rw (digit, below) (number_on-digits base next digits rest is all.1 small ends)

-- what was read
record Takes (base so_far n : ℕ) (bytes rest : List ℕ) : Type 0 where
  digits : List ℕ
  whole : bytes ≡ digits ++ rest
  all : AreDigits base digits
  number : value base so_far digits ≡ n
  below : n < 2 ^ 64
  ends : begins_with_digit base rest ≡ false

number_on-takes : (base so_far n : ℕ) (bytes rest : List ℕ) → so_far < 2 ^ 64 → number_on base so_far bytes ≡ Some (n, rest) → Takes base so_far n bytes rest
unfolding number_on
number_on-takes base so_far n [] rest small read =
    let same = some_pair_parts so_far n [] rest read in
    record { digits = []; whole = same.1; all = tt; number = same.0; below = omega (arith, same.0); ends = subst (λ (t : List ℕ). begins_with_digit base t ≡ false) same.1 refl }
number_on-takes base so_far n (b ∷ bytes) rest small read =
    elim (cases_Bool (ltb (worth b) base)) [
      | inl digit ↦
          let next = so_far * base + worth b in
          let inner = guard_some (ltb next (2 ^ 64)) (number_on base next bytes) (n, rest) (rw digit at read) in
          let more = number_on-takes base next n bytes rest (ltb-true next (2 ^ 64) inner.0) inner.1 in
          record {
            digits = b ∷ more.digits;
            whole = ap (λ (t : List ℕ). b ∷ t) more.whole;
            all = (ltb-true (worth b) base digit, more.all);
            number = more.number;
            below = more.below;
            ends = more.ends;
          }
      | inr other ↦
          let same = some_pair_parts so_far n (b ∷ bytes) rest (rw other at read) in
          record { digits = []; whole = same.1; all = tt; number = same.0; below = omega (arith, same.0); ends = subst (λ (t : List ℕ). begins_with_digit base t ≡ false) same.1 other }
    ]

-- ---- both ways, for numerals of a base

pub record IsNumeralOf (base divisions n : ℕ) (bytes rest : List ℕ) : Type 0 where
  pub whole : bytes ≡ numeral base divisions n ++ rest
  pub below : n < 2 ^ 64
  pub ends : begins_with_digit base rest ≡ false

-- where no digit comes first, none were read
none_read : (base : ℕ) (bytes digits rest : List ℕ) → bytes ≡ digits ++ rest → AreDigits base digits → begins_with_digit base bytes ≡ false → digits ≡ []
none_read base bytes [] rest e all ends = refl
none_read base bytes (d ∷ digits) rest e all ends =
    let digit = lt-ltb (worth d) base all.0 in
    let begins : begins_with_digit base (d ∷ digits ++ rest) ≡ false = rw e at ends in
    absurd cc

zero_then : (base b : ℕ) (bytes digits rest : List ℕ) → (eqb (worth b) 0 && begins_with_digit base bytes) ≡ false → worth b ≡ 0 → bytes ≡ digits ++ rest → AreDigits base digits → digits ≡ []
zero_then base b bytes digits rest guard z e all =
    let alone : begins_with_digit base bytes ≡ false = rw z at guard in
    none_read base bytes digits rest e all alone

pub number_at-takes : (base divisions n : ℕ) (bytes rest : List ℕ) → IsBase base → ((m : ℕ) → m < 2 ^ 64 → Fits base divisions m) → number_at base bytes ≡ Some (n, rest) → IsNumeralOf base divisions n bytes rest
unfolding number_at
number_at-takes base divisions n [] rest is fits read = absurd cc
number_at-takes base divisions n (b ∷ bytes) rest is fits read =
    let outer = guard_some (ltb (worth b) base) (cond (eqb (worth b) 0 && begins_with_digit base bytes) None (number_on base (worth b) bytes)) (n, rest) read in
    let inner = refuse_some (eqb (worth b) 0 && begins_with_digit base bytes) (number_on base (worth b) bytes) (n, rest) outer.1 in
    let digit = ltb-true (worth b) base outer.0 in
    let small : worth b < 2 ^ 64 = omega (arith, is.high) in
    let more = number_on-takes base (worth b) n bytes rest small inner.1 in
    let alone = numeral-digit base divisions b is digit in
    elim (cases_lt 0 (worth b)) [
      | inl pos ↦
          let text = rw (more.number, alone) at (numeral-value base divisions (worth b) more.digits is pos more.all (rw more.number (fits n more.below))) in
          record { whole = ap (λ (t : List ℕ). b ∷ t) more.whole ∙ ap (λ (t : List ℕ). t ++ rest) (sym text); below = more.below; ends = more.ends }
      | inr none ↦
          let empty = zero_then base b bytes more.digits rest inner.0 (omega arith) more.whole more.all in
          let n-is : worth b ≡ n = rw empty at more.number in
          record { whole = ap (λ (t : List ℕ). b ∷ t) (more.whole ∙ ap (λ (t : List ℕ). t ++ rest) empty) ∙ ap (λ (t : List ℕ). t ++ rest) (sym alone ∙ ap (numeral base divisions) n-is); below = more.below; ends = more.ends }
    ]

no_zero_before : (base d : ℕ) (others rest : List ℕ) → (worth d ≡ 0 → others ≡ []) → begins_with_digit base rest ≡ false → (eqb (worth d) 0 && begins_with_digit base (others ++ rest)) ≡ false
no_zero_before base d others rest alone ends =
    elim (cases_Bool (eqb (worth d) 0)) [
      | inl z ↦ let none = alone (eqb-true (worth d) 0 z) in rw (z, none) ends
      | inr some ↦ rw some refl
    ]

pub number_at-again : (base divisions n : ℕ) (rest : List ℕ) → IsBase base → Fits base divisions n → n < 2 ^ 64 → begins_with_digit base rest ≡ false → number_at base (numeral base divisions n ++ rest) ≡ Some (n, rest)
unfolding number_at
number_at-again base divisions n rest is fits below ends =
    let b = numeral-begins base divisions n is fits in
    let all : AreDigits base (b.first ∷ b.others) = rw b.whole at (numeral-is base divisions n is fits).0 in
    let worth_all : value base (0 * base + worth b.first) b.others ≡ n = rw b.whole at (numeral-is base divisions n is fits).1 in
    let first : 0 * base + worth b.first ≡ worth b.first = omega arith in
    let number : value base (worth b.first) b.others ≡ n = rw first at worth_all in
    let digit = lt-ltb (worth b.first) base all.0 in
    let guard = no_zero_before base b.first b.others rest b.zero_alone ends in
    let read = number_on-digits base (worth b.first) b.others rest is all.1 (omega arith) ends in
    rw (b.whole, digit, guard) (read ∙ ap (λ (m : ℕ). Some (m, rest)) number)
