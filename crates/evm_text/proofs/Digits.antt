-- One digit, and what digits are worth together.
use Rattle.std.proofs.Common.{◌≡◌, ℕ, ◌+◌, ◌*◌, ◌-◌, ◌<◌, ◌≤◌, List, [], ◌∷◌, ◌++◌, refl, arith, inl, inr}
use Rattle.std.proofs.Math.Nat.{le-mul_of_pos_right}
use Rattle.std.proofs.lemmas.Bool.{cases_lt, lt-ltb, le-ltb}
use Rattle.evm_text.specs.Written.{character}
use Rattle.evm_text.specs.Reading.{worth}

worth_figure : (b : ℕ) → 48 ≤ b → b < 58 → worth b ≡ b - 48
unfolding worth
worth_figure b low high =
    let e = le-ltb b 48 low in
    let f = lt-ltb b 58 high in
    rw (e, f) refl

worth_letter : (b : ℕ) → 97 ≤ b → b < 103 → worth b ≡ b - 87
unfolding worth
worth_letter b low high =
    let e = le-ltb b 48 (omega arith) in
    let f = le-ltb b 58 (omega arith) in
    let g = le-ltb b 97 low in
    let h = lt-ltb b 103 high in
    rw (e, f, g, h) refl

worth_low : (b : ℕ) → b < 48 → worth b ≡ 16
unfolding worth
worth_low b lt = let e = lt-ltb b 48 lt in rw e refl

worth_middle : (b : ℕ) → 58 ≤ b → b < 97 → worth b ≡ 16
unfolding worth
worth_middle b low high =
    let e = le-ltb b 48 (omega arith) in
    let f = le-ltb b 58 low in
    let g = lt-ltb b 97 high in
    rw (e, f, g) refl

worth_high : (b : ℕ) → 103 ≤ b → worth b ≡ 16
unfolding worth
worth_high b low =
    let e = le-ltb b 48 (omega arith) in
    let f = le-ltb b 58 (omega arith) in
    let g = le-ltb b 97 (omega arith) in
    let h = le-ltb b 103 low in
    rw (e, f, g, h) refl

character_figure : (d : ℕ) → d < 10 → character d ≡ 48 + d
character_figure d lt = let e = lt-ltb d 10 lt in rw e refl

character_letter : (d : ℕ) → 10 ≤ d → character d ≡ 87 + d
character_letter d le = let e = le-ltb d 10 le in rw e refl

pub worth-character : (d : ℕ) → d < 16 → worth (character d) ≡ d
worth-character d lt =
    elim (cases_lt d 10) [
      | inl small ↦ rw (character_figure d small) (omega (arith, worth_figure (48 + d) (omega arith) (omega arith)))
      | inr large ↦ rw (character_letter d large) (omega (arith, worth_letter (87 + d) (omega arith) (omega arith)))
    ]

pub character-worth : (b : ℕ) → worth b < 16 → character (worth b) ≡ b
character-worth b lt =
    elim (cases_lt b 48) [
      | inl low ↦ absurd (omega (arith, worth_low b low))
      | inr from_48 ↦ elim (cases_lt b 58) [
        | inl figure ↦ let e = worth_figure b from_48 figure in rw e (omega (arith, character_figure (b - 48) (omega arith)))
        | inr from_58 ↦ elim (cases_lt b 97) [
          | inl middle ↦ absurd (omega (arith, worth_middle b from_58 middle))
          | inr from_97 ↦ elim (cases_lt b 103) [
            | inl letter ↦ let e = worth_letter b from_97 letter in rw e (omega (arith, character_letter (b - 87) (omega arith)))
            | inr high ↦ absurd (omega (arith, worth_high b high))
          ]
        ]
      ]
    ]

-- what digits are worth behind a number
abbrev pub value : ℕ → ℕ → List ℕ → ℕ
value base so_far [] = so_far
value base so_far (b ∷ digits) = value base (so_far * base + worth b) digits

abbrev pub AreDigits : ℕ → List ℕ → Type 0
AreDigits base [] = Unit {0}
AreDigits base (b ∷ digits) = (worth b < base) × AreDigits base digits

pub value-push : (base so_far : ℕ) (digits : List ℕ) (b : ℕ) → value base so_far (digits ++ b ∷ []) ≡ value base so_far digits * base + worth b
value-push base so_far [] b = refl
value-push base so_far (c ∷ digits) b = value-push base (so_far * base + worth c) digits b

pub AreDigits-push : (base : ℕ) (digits : List ℕ) (b : ℕ) → AreDigits base digits → worth b < base → AreDigits base (digits ++ b ∷ [])
AreDigits-push base [] b all lt = (lt, tt)
AreDigits-push base (c ∷ digits) b all lt = (all.0, AreDigits-push base digits b all.1 lt)

pub step_le : (base so_far digit : ℕ) → 0 < base → so_far ≤ so_far * base + digit
step_le base so_far digit pos = omega (arith, le-mul_of_pos_right {m = base} so_far pos)

pub value_le : (base so_far : ℕ) (digits : List ℕ) → 0 < base → so_far ≤ value base so_far digits
value_le base so_far [] pos = omega arith
value_le base so_far (b ∷ digits) pos =
    let one = step_le base so_far (worth b) pos in
    let more = value_le base (so_far * base + worth b) digits pos in
    omega (arith, one, more)
