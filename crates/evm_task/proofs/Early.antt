-- How the bound of the deadlines follows the tasks, and that none is due before it.
use Rattle.std.proofs.Common.{◌≡◌, ℕ, zero, suc, ◌+◌, ◌<◌, ◌≤◌, List, [], ◌∷◌, ◌++◌, Option, Some, None, Bool, false, length, refl, ap, ◌∙◌, inl, inr, arith}
use Rattle.std.specs.Prelude.{◌==◌, ◌&&◌, not, nat_le, slice_get, slice_set}
use Rattle.std.proofs.lemmas.Bool.{cases_lt}
use Rattle.std.proofs.lemmas.Bool.Decides.{nat_tests}
use Rattle.evm_model.proofs.Lists.{slice_get-slice_set, slice_get-push, slice_get-below}
use Rattle.evm_model.specs.Deadlines.{deadline, deadline_of, is_due, is_due_task}
use Rattle.evm_model.specs.Ranks.{first}
use Rattle.evm_model.specs.declared.task.Task.{Task}
use Rattle.evm_task.specs.Early.{IsEarly, lowered}

-- ---- the bound with one deadline more
pub lowered-bound : (bound deadline : ℕ) → lowered bound deadline ≤ bound
lowered-bound bound deadline = grind (arith, nat_tests)

pub lowered-deadline : (bound deadline : ℕ) → (deadline ≡ 0 → ⊥) → lowered bound deadline ≤ deadline
lowered-deadline bound deadline h = grind (arith, nat_tests)

-- ---- tasks change
pub early-none : (bound : ℕ) → IsEarly bound []
early-none bound = record { each = λ t task e some. cc }

-- one task set
pub early-set : (tasks : List Task) (bound next t : ℕ) (new : Task) → IsEarly bound tasks → next ≤ bound → ((new.deadline ≡ 0 → ⊥) → next ≤ new.deadline)
    → IsEarly next (slice_set tasks t new)
early-set tasks bound next t new early less here = record {
  each = λ u task e some. elim (slice_get-slice_set tasks t u new task e) [
    | inl h ↦ rw h.1 (here (λ z. some (rw h.1 z)))
    | inr h ↦ let low = early.each u task h.1 some in omega (arith, low, less)
  ];
}

-- .. to one with the same deadline
pub early-kept : (tasks : List Task) (bound t : ℕ) (old new : Task) → IsEarly bound tasks → slice_get tasks t ≡ Some old → new.deadline ≡ old.deadline
    → IsEarly bound (slice_set tasks t new)
early-kept tasks bound t old new early there same = early-set tasks bound bound t new early (omega arith) (λ some. rw same (early.each t old there (λ z. some (same ∙ z))))

-- one more
pub early-push : (tasks : List Task) (bound : ℕ) (new : Task) → IsEarly bound tasks → IsEarly (lowered bound new.deadline) (tasks ++ new ∷ [])
early-push tasks bound new early = record {
  each = λ u task e some. elim (slice_get-push tasks new u task e) [
    | inl h ↦ let low = early.each u task h some in omega (arith, low, lowered-bound bound new.deadline)
    | inr h ↦ rw h.1 (lowered-deadline bound new.deadline (λ z. some (rw h.1 z)))
  ];
}

-- ---- a scan of them
-- no deadline of the tasks below a number is before the bound
pub record IsEarlyBelow (bound n : ℕ) (tasks : List Task) : Type 0 where
  pub each : (t : ℕ) → t < n → (deadline tasks t ≡ 0 → ⊥) → bound ≤ deadline tasks t

pub below-none : (bound : ℕ) (tasks : List Task) → IsEarlyBelow bound 0 tasks
below-none bound tasks = record { each = λ t less some. absurd (omega arith) }

pub below-more : (bound n : ℕ) (tasks : List Task) → IsEarlyBelow bound n tasks → IsEarlyBelow (lowered bound (deadline tasks n)) (n + 1) tasks
below-more bound n tasks early = record {
  each = λ t less some. elim (cases_lt t n) [
    | inl h ↦ let low = early.each t h some in omega (arith, low, lowered-bound bound (deadline tasks n))
    | inr h ↦ let is : t ≡ n = omega (arith, h, less) in rw is (lowered-deadline bound (deadline tasks n) (λ z. some (rw is z)))
  ];
}

pub below-all : (bound : ℕ) (tasks : List Task) → IsEarlyBelow bound (length tasks) tasks → IsEarly bound tasks
below-all bound tasks early = record {
  each = λ t task e some.
      let at : deadline tasks t ≡ task.deadline = ap deadline_of e in
      let low = early.each t (slice_get-below tasks t task e) (λ z. some (rw (← at) z)) in
      rw (← at) low;
}

pub ruleset none = (early-none)

pub ruleset scans = (below-none, below-more, below-all)

-- ---- none is due before the bound
-- no member, no first
pub first-nobody : (member : ℕ → Bool) (rank stamp : ℕ → ℕ) (n : ℕ) → ((t : ℕ) → member t ≡ false) → first member rank stamp n ≡ None
unfolding first
first-nobody member rank stamp zero none = refl
first-nobody member rank stamp (suc t) none = rw (none t) (first-nobody member rank stamp t none)

due-test : (deadline now cpu c : ℕ) → ((deadline ≡ 0 → ⊥) → now < deadline) → (not (deadline == 0) && (nat_le deadline now && cpu == c)) ≡ false
due-test deadline now cpu c late = grind (arith, nat_tests)

due-of : (c now bound : ℕ) (o : Option Task) → now < bound → ((task : Task) → o ≡ Some task → (task.deadline ≡ 0 → ⊥) → bound ≤ task.deadline) → is_due_task c now o ≡ false
due-of c now bound None less early = refl
due-of c now bound (Some task) less early = due-test task.deadline now task.cpu c (λ some. let low = early task refl some in omega (arith, less, low))

pub nobody-due : (c now bound : ℕ) (rank stamp : ℕ → ℕ) (tasks : List Task) → IsEarly bound tasks → now < bound
    → first (is_due c now tasks) rank stamp (length tasks) ≡ None
nobody-due c now bound rank stamp tasks early less =
    first-nobody (is_due c now tasks) rank stamp (length tasks) (λ t. due-of c now bound (slice_get tasks t) less (early.each t))
