-- Whether a watched pin rises, by operations on whole words.
use Rattle.std.proofs.Common.{◌≡◌, ℕ, zero, suc, ◌-◌, ◌^◌, ◌<◌, Bool, true, false, not, ◌||◌, ◌&&◌, nat_eq, bit_and, min, refl, ap, ◌∙◌, arith, inl, inr}
use Rattle.std.proofs.lemmas.Bool.{cases_eq}
use Rattle.std.proofs.lemmas.Bool.Decides.{nat_tests}
use Rattle.std.proofs.lemmas.Nat.Bits.{bit_at_and, bit_at_not, bit_at-lt, bit_at-zero, bit_at-trailing_zeros}
use Rattle.std.specs.Int.{bit_at, bit_not, w64, trailing_zeros}
use Rattle.std.specs.Int.Bits.{and_lt}
use Rattle.evm_dev.specs.Pins.{any_pin, is_rising, rises}

-- a test on a bit of the two words and of the third one's opposite
pub rising-bits : (m b a : ℕ) → m < 2 → b < 2 → a < 2 → (nat_eq m 1 && not (nat_eq b 1) && nat_eq a 1) ≡ nat_eq (min (min m a) (1 - b)) 1
rising-bits zero zero zero h k l = refl
rising-bits zero zero (suc zero) h k l = refl
rising-bits zero (suc zero) zero h k l = refl
rising-bits zero (suc zero) (suc zero) h k l = refl
rising-bits (suc zero) zero zero h k l = refl
rising-bits (suc zero) zero (suc zero) h k l = refl
rising-bits (suc zero) (suc zero) zero h k l = refl
rising-bits (suc zero) (suc zero) (suc zero) h k l = refl
rising-bits (suc (suc m)) b a h k l = absurd (omega arith)
rising-bits m (suc (suc b)) a h k l = absurd (omega arith)
rising-bits m b (suc (suc a)) h k l = absurd (omega arith)

or-true : (b : Bool) → (b || true) ≡ true
or-true true = refl
or-true false = refl

-- a pin that passes the test is found, and none is if no pin passes
any_pin-found : (test : ℕ → Bool) (pins pin : ℕ) → pin < pins → test pin ≡ true → any_pin test pins ≡ true
unfolding any_pin
any_pin-found test zero pin h e = absurd (omega arith)
any_pin-found test (suc pins) pin h e = elim (cases_eq pin pins) [
  | inl same ↦ let last : test pins ≡ true = cc in rw last refl
  | inr other ↦ rw (any_pin-found test pins pin (omega arith) e) (or-true (test pins))
]

any_pin-none : (test : ℕ → Bool) (pins : ℕ) → ((pin : ℕ) → pin < pins → test pin ≡ false) → any_pin test pins ≡ false
unfolding any_pin
any_pin-none test zero none = refl
any_pin-none test (suc pins) none =
    rw (none pins (omega arith), any_pin-none test pins (λ pin h. none pin (omega arith))) refl

-- a test that is that of a word's bits is passed by one of 64 pins if the word isn't 0
any_pin-word : (test : ℕ → Bool) (word : ℕ) → word < 2 ^ 64 → ((pin : ℕ) → pin < 64 → test pin ≡ nat_eq (bit_at word pin) 1)
    → any_pin test 64 ≡ not (nat_eq word 0)
any_pin-word test zero below tests = any_pin-none test 64 (λ pin h. tests pin h ∙ ap (λ n. nat_eq n 1) (bit_at-zero pin))
any_pin-word test (suc word) below tests =
    let first = bit_at-trailing_zeros w64 (suc word) (omega arith) below in
    let found = any_pin-found test 64 (trailing_zeros w64 (suc word)) first.0 (tests _ first.0 ∙ ap (λ n. nat_eq n 1) first.1) in
    let some : nat_eq (suc word) 0 ≡ false = grind (arith, nat_tests) in
    rw some found

pub rises_by_words : (mask before after : ℕ) → before < 2 ^ 64 → mask < 2 ^ 64 → after < 2 ^ 64
    → rises mask before after ≡ not (nat_eq (bit_and (bit_and mask after) (18446744073709551615 - before)) 0)
unfolding rises
rises_by_words mask before after h k l =
    any_pin-word (is_rising mask before after) (bit_and (bit_and mask after) (bit_not w64 before))
    (and_lt 64 (bit_and mask after) (bit_not w64 before) (and_lt 64 mask after k l) (omega arith))
    (λ pin p. rw (bit_at_and (bit_and mask after) (bit_not w64 before) pin, bit_at_and mask after pin, bit_at_not w64 before pin h p)
    (rising-bits (bit_at mask pin) (bit_at before pin) (bit_at after pin) (bit_at-lt mask pin) (bit_at-lt before pin) (bit_at-lt after pin)))
