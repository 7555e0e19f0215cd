-- Bells of a word.
use Rattle.std.proofs.Common.{◌≡◌, ℕ, zero, suc, ◌+◌, ◌^◌, ◌<◌, ◌≤◌, ◌/◌, ◌≢◌, List, [], ◌∷◌, ◌++◌, length, refl, sym, ap, ◌∙◌, arith, ◌-◌, length-append, bit_and}
use Rattle.std.proofs.lemmas.List.{append-nil}
use Rattle.std.proofs.lemmas.Bool.Decides.{nat_tests}
use Rattle.std.proofs.lemmas.Nat.Bits.{shr_and_one}
use Rattle.std.specs.Prelude.{Bool, true, false, ◌==◌, if◌then◌else◌, slice_get, Some, None}
use Rattle.std.specs.Int.{bit_at}
use Rattle.evm_model.specs.Event.{Event}
use Rattle.evm_model.specs.declared.event.Event.TheVariants as event
use Rattle.evm_shared.proofs.Counting.{same_counts, counts_append}
use Rattle.evm_shared.specs.EventCounts.{counts, kind_counts}
use Rattle.evm_shared.specs.Receipts.{bells_below}
use Rattle.evm_shared.specs.declared.event_counts.EventCounts.{EventCounts}

-- the Bell of a line, if its bit is set
abbrev bell_if : Bool → ℕ → ℕ → List Event
bell_if b c n = if b then event.Bell c n ∷ [] else []

bells_one : (c n : ℕ) (b : Bool) → (kind_counts (bell_if b c n) ≡ counts 0 (length (bell_if b c n)) 0) × (length (bell_if b c n) ≤ 1)
bells_one c n true = (refl, omega arith)
bells_one c n false = (refl, omega arith)

pub counts_bells : (c word n : ℕ) → kind_counts (bells_below c word n) ≡ counts 0 (length (bells_below c word n)) 0
unfolding bells_below
counts_bells c word zero = refl
counts_bells c word (suc n) =
    let test = bit_at word n == 1 in
    let last = (bells_one c n test).0 in
    let all = counts_append (bells_below c word n) (bell_if test c n) in
    let rest = counts_bells c word n in
    let long = length-append (bells_below c word n) (bell_if test c n) in
    same_counts _ _
    (omega (arith, ap (λ (x : EventCounts). x.steps) all, ap (λ (x : EventCounts). x.steps) rest, ap (λ (x : EventCounts). x.steps) last))
    (omega (arith, ap (λ (x : EventCounts). x.bells) all, ap (λ (x : EventCounts). x.bells) rest, ap (λ (x : EventCounts). x.bells) last, long))
    (omega (arith, ap (λ (x : EventCounts). x.others) all, ap (λ (x : EventCounts). x.others) rest, ap (λ (x : EventCounts). x.others) last))

pub bells_on : (c word n : ℕ) → bit_and (word / 2 ^ n) 1 ≡ 1 → bells_below c word (n + 1) ≡ bells_below c word n ++ event.Bell c n ∷ []
unfolding bells_below
bells_on c word n on =
    let next : n + 1 ≡ suc n = omega arith in
    let test : (bit_at word n == 1) ≡ true = let b = shr_and_one word n in grind (arith, nat_tests) in
    ap (bells_below c word) next ∙ ap (λ (b : Bool). bells_below c word n ++ bell_if b c n) test

pub bells_off : (c word n : ℕ) → bit_and (word / 2 ^ n) 1 ≢ 1 → bells_below c word (n + 1) ≡ bells_below c word n
unfolding bells_below
bells_off c word n off =
    let next : n + 1 ≡ suc n = omega arith in
    let test : (bit_at word n == 1) ≡ false = let b = shr_and_one word n in grind (arith, nat_tests) in
    ap (bells_below c word) next ∙ ap (λ (b : Bool). bells_below c word n ++ bell_if b c n) test ∙ append-nil (bells_below c word n)

pub few_bells : (c word n : ℕ) → length (bells_below c word n) ≤ n
unfolding bells_below
few_bells c word zero = omega arith
few_bells c word (suc n) = omega (arith, few_bells c word n, (bells_one c n (bit_at word n == 1)).1, length-append (bells_below c word n) (bell_if (bit_at word n == 1) c n))

pub bells_counted : (c word count n : ℕ) (more : EventCounts) → more ≡ counts 0 count 0 → count ≡ length (bells_below c word n) → kind_counts (bells_below c word n) ≡ more
bells_counted c word count n more is long = counts_bells c word n ∙ ap (λ k. counts 0 k 0) (sym long) ∙ sym is

get_behind : (xs : List Event) (x : Event) (ys : List Event) → slice_get (xs ++ x ∷ ys) (length xs) ≡ Some x
get_behind [] x ys = refl
get_behind (y ∷ xs) x ys = get_behind xs x ys

get_front : (xs ys : List Event) (k : ℕ) (x : Event) → slice_get xs k ≡ Some x → slice_get (xs ++ ys) k ≡ Some x
get_front [] ys k x h = cc
get_front (y ∷ xs) ys zero x h = h
get_front (y ∷ xs) ys (suc k) x h = get_front xs ys k x h

-- the Bells of fewer lines come first
pub bell_at : (c word n more : ℕ) → bit_and (word / 2 ^ n) 1 ≡ 1 → slice_get (bells_below c word (n + 1 + more)) (length (bells_below c word n)) ≡ Some (event.Bell c n)
unfolding bells_below
bell_at c word n zero on =
    let next : n + 1 + 0 ≡ n + 1 = omega arith in
    ap (λ k. slice_get (bells_below c word k) (length (bells_below c word n))) next ∙ ap (λ es. slice_get es (length (bells_below c word n))) (bells_on c word n on) ∙ get_behind (bells_below c word n) (event.Bell c n) []
bell_at c word n (suc more) on =
    let rest = bell_at c word n more on in
    let next : n + 1 + suc more ≡ suc (n + 1 + more) = omega arith in
    ap (λ k. slice_get (bells_below c word k) (length (bells_below c word n))) next
    ∙ get_front (bells_below c word (n + 1 + more)) (bell_if (bit_at word (n + 1 + more) == 1) c (n + 1 + more)) (length (bells_below c word n)) (event.Bell c n) rest

-- there is one Bell more
pub one_bell : (c word n count : ℕ) → bit_and (word / 2 ^ n) 1 ≡ 1 → count ≡ length (bells_below c word n) → count + 1 ≡ length (bells_below c word (n + 1))
one_bell c word n count on h = omega (arith, h, ap length (bells_on c word n on), length-append (bells_below c word n) (event.Bell c n ∷ []))

pub no_bell : (c word n count : ℕ) → bit_and (word / 2 ^ n) 1 ≢ 1 → count ≡ length (bells_below c word n) → count ≡ length (bells_below c word (n + 1))
no_bell c word n count off h = h ∙ ap length (sym (bells_off c word n off))

-- the Bell of a line is the one that has so many before it
pub bell_found : (c word n lines number : ℕ) → bit_and (word / 2 ^ n) 1 ≡ 1 → n < lines → number ≡ length (bells_below c word n) → Some (event.Bell c n) ≡ slice_get (bells_below c word lines) number
bell_found c word n lines number on low h =
    let all : n + 1 + (lines - (n + 1)) ≡ lines = omega arith in
    sym (ap (λ k. slice_get (bells_below c word lines) k) h ∙ ap (λ k. slice_get (bells_below c word k) (length (bells_below c word n))) (sym all) ∙ bell_at c word n (lines - (n + 1)) on)

past_end : (xs : List Event) (k : ℕ) → length xs ≤ k → None ≡ slice_get xs k
past_end [] k h = refl
past_end (x ∷ xs) zero h = absurd (omega arith)
past_end (x ∷ xs) (suc k) h = past_end xs k (omega arith)

pub bell_missing : (c word lines number : ℕ) → length (bells_below c word lines) ≤ number → None ≡ slice_get (bells_below c word lines) number
bell_missing c word lines number h = past_end (bells_below c word lines) number h

-- more lines have no fewer Bells
pub bells_grow : (c word n more : ℕ) → length (bells_below c word n) ≤ length (bells_below c word (n + more))
unfolding bells_below
bells_grow c word n zero = let same : n + 0 ≡ n = omega arith in rw same (omega arith)
bells_grow c word n (suc more) =
    let next : n + suc more ≡ suc (n + more) = omega arith in
    rw next (omega (arith, bells_grow c word n more, length-append (bells_below c word (n + more)) (bell_if (bit_at word (n + more) == 1) c (n + more))))
