-- The parts in which `li` and `la` load a number and an address make it again.
use Rattle.std.proofs.Common.{◌≡◌, ◌∙◌, ℕ, zero, suc, ◌+◌, ◌-◌, ◌*◌, ◌/◌, ◌%◌, ◌<◌, ◌≤◌, Bool, true, false, cond, not, ◌==◌, nat_lt, ℤ, pos, negsuc, neg_ℤ, ◌≤ℤ◌, ap, refl, sym, arith}
use Rattle.std.proofs.lemmas.Bool.{ltb-false, ltb-true}
use Rattle.std.proofs.lemmas.Int.{ints}
use Rattle.std.proofs.lemmas.Bool.Decides.{nat_tests}
use Rattle.evm_isa.specs.declared.inst.ImmediateOp.TheVariants.{Addi, Addiw}
use Rattle.evm_isa.specs.declared.inst.Inst.TheVariants.{Lui, Immediate}
use Rattle.evm_asm.specs.declared.item.Expansion.TheVariants.{Single, Double}
use Rattle.evm_asm.specs.Places.{low_part, high_part, low_word, needs_low_part}
use Rattle.evm_asm.specs.Loading.{in_register, left_in_register}

negative : (m : ℕ) → 0 < m → m < 18446744073709551616 → in_register (neg_ℤ (pos m)) ≡ 18446744073709551616 - m
negative zero p h = absurd (omega arith)
negative (suc m) p h = omega arith

upper_is : (q : ℕ) → q < 1048576 → (t : Bool) → nat_lt q 524288 ≡ t
    → in_register (cond t (pos (q * 4096)) (neg_ℤ (pos ((1048576 - q) * 4096)))) ≡ cond t (q * 4096) (18446744069414584320 + q * 4096)
upper_is q h true e = omega (arith, ltb-true q 524288 e)
upper_is q h false e = negative ((1048576 - q) * 4096) (omega arith) (omega arith) ∙ omega (arith, ltb-false q 524288 e)

low_is : (l : ℕ) → l < 4096 → (t : Bool) → nat_lt l 2048 ≡ t
    → in_register (cond t (pos l) (neg_ℤ (pos (4096 - l)))) ≡ cond t l (18446744073709547520 + l)
low_is l h true e = omega arith
low_is l h false e = negative (4096 - l) (omega arith) (omega arith) ∙ omega (arith, ltb-false l 2048 e)

-- the sum of the parts, in 32 bits, is the number
parts : (n q : ℕ) → n < 4294967296 → q ≡ (n + 2048) / 4096 % 1048576 → (s t : Bool) → nat_lt q 524288 ≡ s → nat_lt (n % 4096) 2048 ≡ t
    → (cond s (q * 4096) (18446744069414584320 + q * 4096) + cond t (n % 4096) (18446744073709547520 + n % 4096)) % 4294967296 ≡ n
parts n q h e true true p r = let k = ltb-true _ _ r in omega arith
parts n q h e true false p r = let k = ltb-false _ _ r in omega arith
parts n q h e false true p r = let k = ltb-true _ _ r in omega arith
parts n q h e false false p r = let k = ltb-false _ _ r in omega arith

pub sum_of_parts : (n : ℕ) → n < 4294967296 → (in_register (high_part n) + in_register (low_part n)) % 4294967296 ≡ n
sum_of_parts n h =
    let q : ℕ = (n + 2048) / 4096 % 1048576 in
    ap (λ (a : ℕ). (a + in_register (low_part n)) % 4294967296) (upper_is q (omega arith) (nat_lt q 524288) refl)
    ∙ ap (λ (b : ℕ). (cond (nat_lt q 524288) (q * 4096) (18446744069414584320 + q * 4096) + b) % 4294967296) (low_is (n % 4096) (omega arith) (nat_lt (n % 4096) 2048) refl)
    ∙ parts n q h refl (nat_lt q 524288) (nat_lt (n % 4096) 2048) refl refl

-- and in 64 bits, where the number isn't just below 2 ^ 31
wide : (n q : ℕ) → n < 4294967296 → q ≡ (n + 2048) / 4096 % 1048576 → (s t : Bool) → nat_lt q 524288 ≡ s → nat_lt (n % 4096) 2048 ≡ t
    → (n < 2147481600 → (cond s (q * 4096) (18446744069414584320 + q * 4096) + cond t (n % 4096) (18446744073709547520 + n % 4096)) % 18446744073709551616 ≡ n)
    × (2147483648 ≤ n → (cond s (q * 4096) (18446744069414584320 + q * 4096) + cond t (n % 4096) (18446744073709547520 + n % 4096)) % 18446744073709551616 ≡ n + 18446744069414584320)
wide n q h e true true p r = let k = ltb-true _ _ r in let j = ltb-true _ _ p in ((λ a. omega arith), (λ a. omega arith))
wide n q h e true false p r = let k = ltb-false _ _ r in let j = ltb-true _ _ p in ((λ a. omega arith), (λ a. omega arith))
wide n q h e false true p r = let k = ltb-true _ _ r in let j = ltb-false _ _ p in ((λ a. omega arith), (λ a. omega arith))
wide n q h e false false p r = let k = ltb-false _ _ r in let j = ltb-false _ _ p in ((λ a. omega arith), (λ a. omega arith))

same_sum : (n : ℕ) → n < 4294967296 → (in_register (high_part n) + in_register (low_part n)) % 18446744073709551616
    ≡ (let q : ℕ = (n + 2048) / 4096 % 1048576 in
    (cond (nat_lt q 524288) (q * 4096) (18446744069414584320 + q * 4096) + cond (nat_lt (n % 4096) 2048) (n % 4096) (18446744073709547520 + n % 4096)) % 18446744073709551616)
same_sum n h =
    let q : ℕ = (n + 2048) / 4096 % 1048576 in
    ap (λ (a : ℕ). (a + in_register (low_part n)) % 18446744073709551616) (upper_is q (omega arith) (nat_lt q 524288) refl)
    ∙ ap (λ (b : ℕ). (cond (nat_lt q 524288) (q * 4096) (18446744069414584320 + q * 4096) + b) % 18446744073709551616) (low_is (n % 4096) (omega arith) (nat_lt (n % 4096) 2048) refl)

pub sum_ahead : (n : ℕ) → n < 2147481600 → (in_register (high_part n) + in_register (low_part n)) % 18446744073709551616 ≡ n
sum_ahead n h =
    same_sum n (omega arith) ∙ (wide n ((n + 2048) / 4096 % 1048576) (omega arith) refl (nat_lt ((n + 2048) / 4096 % 1048576) 524288) (nat_lt (n % 4096) 2048) refl refl).0 h

pub sum_behind : (n : ℕ) → n < 4294967296 → 2147483648 ≤ n → (in_register (high_part n) + in_register (low_part n)) % 18446744073709551616 ≡ n + 18446744069414584320
sum_behind n h k =
    same_sum n h ∙ (wide n ((n + 2048) / 4096 % 1048576) h refl (nat_lt ((n + 2048) / 4096 % 1048576) 524288) (nat_lt (n % 4096) 2048) refl refl).1 k

-- sums modulo 2 ^ 64 in either order
regrouped : (at a b s : ℕ) → (a + b) % 18446744073709551616 ≡ s → ((at + a) % 18446744073709551616 + b) % 18446744073709551616 ≡ (at + s) % 18446744073709551616
regrouped at a b s e = omega arith

ahead_or_behind : (at target : ℕ) → at ≤ target + 2147483648 → target < at + 2147481600 → at < 18446744073709551616 → target < 18446744073709551616
    → (n : ℕ) → n ≡ (target + 4294967296 - at) % 4294967296 → (t : Bool) → nat_lt target at ≡ t
    → ((at + in_register (high_part n)) % 18446744073709551616 + in_register (low_part n)) % 18446744073709551616 ≡ target
ahead_or_behind at target p q r s n e true h =
    let k = ltb-true target at h in
    regrouped at (in_register (high_part n)) (in_register (low_part n)) (n + 18446744069414584320) (sum_behind n (omega arith) (omega arith)) ∙ omega arith
ahead_or_behind at target p q r s n e false h =
    let k = ltb-false target at h in
    regrouped at (in_register (high_part n)) (in_register (low_part n)) n (sum_ahead n (omega arith)) ∙ omega arith

pub address_again : (at target : ℕ) → at ≤ target + 2147483648 → target < at + 2147481600 → at < 18446744073709551616 → target < 18446744073709551616
    → (n : ℕ) → n ≡ (target + 4294967296 - at) % 4294967296
    → ((at + in_register (high_part n)) % 18446744073709551616 + in_register (low_part n)) % 18446744073709551616 ≡ target
address_again at target p q r s n e = ahead_or_behind at target p q r s n e (nat_lt target at) refl

by_test : (w r : ℕ) (t : Bool) → nat_lt w 2147483648 ≡ t → (w < 2147483648 → w ≡ r) → (2147483648 ≤ w → w + 18446744069414584320 ≡ r) → cond t w (w + 18446744069414584320) ≡ r
by_test w r true h f g = f (ltb-true w 2147483648 h)
by_test w r false h f g = g (ltb-false w 2147483648 h)

-- a signed number is its low 32 bits, sign-extended
pub word_again : (value : ℤ) → negsuc 2147483647 ≤ℤ value → value ≤ℤ pos 2147483647
    → cond (nat_lt (low_word value) 2147483648) (low_word value) (low_word value + 18446744069414584320) ≡ in_register value
word_again (pos n) p q =
    let small : n ≤ 2147483647 = omega (arith, ints) in
    let is : low_word (pos n) ≡ n = omega (arith, ints) in
    by_test (low_word (pos n)) (in_register (pos n)) _ refl (λ h. omega arith) (λ h. absurd (omega arith))
word_again (negsuc n) p q =
    let small : n ≤ 2147483647 = omega (arith, ints) in
    let is : low_word (negsuc n) ≡ 4294967295 - n = omega (arith, ints) in
    by_test (low_word (negsuc n)) (in_register (negsuc n)) _ refl (λ h. absurd (omega arith)) (λ h. omega arith)

pub fits_register : (value : ℤ) → in_register value < 18446744073709551616
fits_register (pos n) = omega arith
fits_register (negsuc n) = omega arith

no_low_part : (n : ℕ) → n % 4096 ≡ 0 → in_register (low_part n) ≡ 0
no_low_part n e = ap (λ (l : ℕ). in_register (cond (nat_lt l 2048) (pos l) (neg_ℤ (pos (4096 - l))))) e

pub high_alone : (n : ℕ) → n < 4294967296 → n % 4096 ≡ 0 → in_register (high_part n) ≡ cond (nat_lt n 2147483648) n (n + 18446744069414584320)
high_alone n h e =
    let low : in_register (low_part n) ≡ 0 = no_low_part n e in
    let fits : in_register (high_part n) < 18446744073709551616 = fits_register (high_part n) in
    sym (by_test n (in_register (high_part n)) _ refl
    (λ k. sym (sum_ahead n (omega arith)) ∙ ap (λ (l : ℕ). (in_register (high_part n) + l) % 18446744073709551616) low ∙ omega arith)
    (λ k. sym (sum_behind n h k) ∙ ap (λ (l : ℕ). (in_register (high_part n) + l) % 18446744073709551616) low ∙ omega arith))

zero_of : (x : ℕ) → not (x == 0) ≡ false → x ≡ 0
zero_of x h = grind (arith, nat_tests)

pub loaded : (rd at : ℕ) (value : ℤ) → negsuc 2147483647 ≤ℤ value → value ≤ℤ pos 2147483647 → (t u : Bool) → needs_low_part (low_word value) ≡ u
    → left_in_register (cond t (Single (Immediate Addi rd 0 value)) (cond u (Double (Lui rd (high_part (low_word value))) (Immediate Addiw rd rd (low_part (low_word value)))) (Single (Lui rd (high_part (low_word value)))))) at
    ≡ in_register value
loaded rd at value p q true u e = let k = fits_register value in omega arith
loaded rd at value p q false true e =
    ap (λ (m : ℕ). cond (nat_lt m 2147483648) m (m + 18446744069414584320)) (sum_of_parts (low_word value) (omega arith)) ∙ word_again value p q
loaded rd at value p q false false e =
    high_alone (low_word value) (omega arith) (zero_of (low_word value % 4096) e) ∙ word_again value p q
