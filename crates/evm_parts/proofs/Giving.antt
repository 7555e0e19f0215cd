-- A mutex is given to a task that waits: the task wakes, and has it then.
use Rattle.std.proofs.Common.{◌≡◌, ℕ, zero, suc, ◌<◌, List, Option, Some, None, Bool, true, false, length, refl, ap, ◌∙◌, inl, inr, arith, eq-eqb}
use Rattle.std.specs.Prelude.{if◌then◌else◌, slice_get, slice_set}
use Rattle.std.proofs.Math.Nat.{eq-or-lt_of_le}
use Rattle.evm_model.proofs.Lists.{slice_get-below, slice_get-set_same}
use Rattle.evm_model.specs.Lists.{change}
use Rattle.evm_model.specs.Mutexes.{held_by, owner, owner_of, owns_any, owns_below}
use Rattle.evm_model.specs.State.{Parts, on_mutex}
use Rattle.evm_model.specs.Tasks.{restamp}
use Rattle.evm_model.specs.Waits.{wake}
use Rattle.evm_model.specs.declared.mutex.Mutex.{Mutex}
use Rattle.evm_model.specs.Boosts.{is_number}
use Rattle.evm_parts.specs.Waking.{woken_with}

-- ---- the task owns a mutex then
true-or : (b : Bool) → (if b then true else true) ≡ true
true-or true = refl
true-or false = refl

below-here : (t n : ℕ) (ms : List Mutex) → is_number (owner ms n) t ≡ true → owns_below t ms (suc n) ≡ true
unfolding owns_below
below-here t n ms here = rw here refl

below-more : (t n : ℕ) (ms : List Mutex) → owns_below t ms n ≡ true → owns_below t ms (suc n) ≡ true
unfolding owns_below
below-more t n ms below = rw below (true-or (is_number (owner ms n) t))

below-owns : (t m n : ℕ) (ms : List Mutex) → m < n → is_number (owner ms m) t ≡ true → owns_below t ms n ≡ true
below-owns t m zero ms less here = absurd (omega arith)
below-owns t m (suc n) ms less here = elim (eq-or-lt_of_le {n = m} {m = n} (omega arith)) [
  | inl at ↦ below-here t n ms (rw (← at) here)
  | inr below ↦ below-more t n ms (below-owns t m n ms below here)
]

pub owns-held : (t m : ℕ) (ms : List Mutex) (mutex : Mutex) → slice_get ms m ≡ Some mutex → owns_any t (change (held_by t 1) ms m) ≡ true
owns-held t m ms mutex e =
    let there : slice_get (slice_set ms m (held_by t 1 mutex)) m ≡ Some (held_by t 1 mutex) = slice_get-set_same ms m mutex (held_by t 1 mutex) e in
    let now : List Mutex = change (held_by t 1) ms m in
    let at : slice_get now m ≡ Some (held_by t 1 mutex) = rw e there in
    below-owns t m (length now) now (slice_get-below now m (held_by t 1 mutex) at) (ap (λ (o : Option Mutex). is_number (owner_of o) t) at ∙ eq-eqb t t refl)

pub owns-absent : (t m : ℕ) (ms : List Mutex) → slice_get ms m ≡ None → owns_any t (change (held_by t 1) ms m) ≡ owns_any t ms
owns-absent t m ms e = rw e refl

pub ruleset owners = (owns-held, owns-absent)

-- ---- and all is as if it had it before it woke
pub given : (t m value : ℕ) (p : Parts)
    → on_mutex m (held_by t 1) (woken_with t value (owns_any t (change (held_by t 1) p.mutexes m)) p) ≡ wake t value (on_mutex m (held_by t 1) p)
unfolding wake restamp
given t m value p = refl
