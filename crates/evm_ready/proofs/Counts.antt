-- How many tasks are ready out-of-band, as entries change.
use Rattle.std.proofs.Common.{◌≡◌, ℕ, zero, suc, ◌+◌, ◌≤◌, List, [], ◌∷◌, ◌++◌, Option, Some, Bool, true, false, length, refl, ap, ◌∙◌, arith}
use Rattle.std.specs.Prelude.{slice_get, slice_set, nat_lt, ◌||◌, if◌then◌else◌}
use Rattle.std.proofs.lemmas.Bool.Decides.{nat_tests}
use Rattle.evm_model.specs.Lists.{change}
use Rattle.evm_ready.specs.Places.{is_oob_place, oob_bit, oob_count, any_oob}
use Rattle.evm_ready.specs.declared.place.Place.{Place}

bit-at : (b : Bool) → (if b then 1 else 0) ≤ 1
bit-at true = omega arith
bit-at false = omega arith

-- one task is one at the most
pub bit-least : (place : Option Place) → oob_bit place ≤ 1
bit-least place = bit-at (is_oob_place place)

-- they are no more than there are tasks
pub count-least : (places : List (Option Place)) → oob_count places ≤ length places
count-least [] = omega arith
count-least (p ∷ places) = omega (arith, bit-least p, count-least places)

-- each is among them
pub count-has : (places : List (Option Place)) (t : ℕ) (old : Option Place) → slice_get places t ≡ Some old → oob_bit old ≤ oob_count places
count-has [] t old e = cc
count-has (p ∷ places) zero old e = let is : p ≡ old = cc in rw is (omega arith)
count-has (p ∷ places) (suc t) old e = omega (arith, count-has places t old e)

-- one entry set
pub count-set : (places : List (Option Place)) (t : ℕ) (old new : Option Place) → slice_get places t ≡ Some old
    → oob_count (slice_set places t new) + oob_bit old ≡ oob_count places + oob_bit new
count-set [] t old new e = cc
count-set (p ∷ places) zero old new e = let is : p ≡ old = cc in rw is (omega arith)
count-set (p ∷ places) (suc t) old new e = omega (arith, count-set places t old new e)

-- an entry that is there, set
pub set-there : {X : Type 0} (xs : List X) (t : ℕ) (old new : X) → slice_get xs t ≡ Some old → slice_set xs t new ≡ change (λ _. new) xs t
set-there xs t old new e = rw e refl

-- one more
pub count-push : (places : List (Option Place)) (p : Option Place) → oob_count (places ++ p ∷ []) ≡ oob_count places + oob_bit p
count-push [] p = omega arith
count-push (q ∷ places) p = omega (arith, count-push places p)

any-step : (b : Bool) (n : ℕ) → (b || nat_lt 0 n) ≡ nat_lt 0 ((if b then 1 else 0) + n)
any-step true n = grind (arith, nat_tests)
any-step false n = grind (arith, nat_tests)

-- some task is ready out-of-band where the count isn't 0
pub count-any : (places : List (Option Place)) → any_oob places ≡ nat_lt 0 (oob_count places)
count-any [] = refl
count-any (p ∷ places) = ap (λ (rest : Bool). is_oob_place p || rest) (count-any places) ∙ any-step (is_oob_place p) (oob_count places)

pub ruleset counts = (bit-least, count-least, count-has, count-set, count-push, count-any)
