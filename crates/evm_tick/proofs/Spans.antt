-- How what is kept of timers follows them.
use Rattle.std.proofs.Common.{◌≡◌, ℕ, ◌+◌, ◌<◌, ◌≤◌, List, [], ◌∷◌, ◌++◌, length, refl, ap, inl, inr, arith}
use Rattle.std.specs.Prelude.{slice_set}
use Rattle.std.proofs.lemmas.Bool.{cases_lt}
use Rattle.std.proofs.lemmas.Bool.Decides.{nat_tests}
use Rattle.evm_model.proofs.Lists.{slice_get-slice_set, slice_get-push, slice_get-below}
use Rattle.evm_model.specs.Timers.{idle_timer, set_timer}
use Rattle.evm_model.specs.declared.limits.TheConstants.{TIMER_SPAN_LIMIT}
use Rattle.evm_model.specs.declared.timer.Timer.{Timer}
use Rattle.evm_tick.specs.Spans.{AreFrom, AreSpans, IsQuiet, IsSpan, due_at, due_of, bound_with_tick}

-- ---- the bound with one more tick
lowered-bound : (bound due : ℕ) → bound_with_tick bound due ≤ bound
lowered-bound bound due = grind (arith, nat_tests)

lowered-due : (bound due : ℕ) → (due ≡ 0 → ⊥) → bound_with_tick bound due ≤ due
lowered-due bound due h = grind (arith, nat_tests)

-- ---- timers change
pub spans-none : (bound : ℕ) → AreSpans bound []
spans-none bound = record { each = λ n timer e. cc; from = record { each = λ n timer e some. cc } }

-- one timer set
pub spans-set : (timers : List Timer) (bound n : ℕ) (new : Timer) → AreSpans bound timers → IsSpan new → AreSpans (bound_with_tick bound new.due) (slice_set timers n new)
spans-set timers bound n new are is = record {
  each = λ m timer e. elim (slice_get-slice_set timers n m new timer e) [
    | inl h ↦ rw h.1 is
    | inr h ↦ are.each m timer h.1
  ];
  from = record {
    each = λ m timer e some. elim (slice_get-slice_set timers n m new timer e) [
      | inl h ↦ rw h.1 (lowered-due bound new.due (λ z. some (rw h.1 z)))
      | inr h ↦ let low = are.from.each m timer h.1 some in omega (arith, low, lowered-bound bound new.due)
    ];
  };
}

-- one more, that is off
pub spans-push : (timers : List Timer) (bound : ℕ) → AreSpans bound timers → AreSpans bound (timers ++ idle_timer ∷ [])
spans-push timers bound are = record {
  each = λ m timer e. elim (slice_get-push timers idle_timer m timer e) [
    | inl h ↦ are.each m timer h
    | inr h ↦ rw h.1 (record { period = omega arith; set = λ some. absurd (some refl) })
  ];
  from = record {
    each = λ m timer e some. elim (slice_get-push timers idle_timer m timer e) [
      | inl h ↦ are.from.each m timer h some
      | inr h ↦ absurd (some (rw h.1 refl))
    ];
  };
}

-- one that is set anew
pub span-fresh : (cpu first period : ℕ) → period ≤ TIMER_SPAN_LIMIT → IsSpan (set_timer cpu first period)
span-fresh cpu first period h = record { period = h; set = λ some. omega arith }

-- ---- a scan of them
-- none of the timers below a number is due before the bound
pub record AreFromBelow (bound n : ℕ) (timers : List Timer) : Type 0 where
  pub each : (m : ℕ) → m < n → (due_at timers m ≡ 0 → ⊥) → bound ≤ due_at timers m

pub below-none : (bound : ℕ) (timers : List Timer) → AreFromBelow bound 0 timers
below-none bound timers = record { each = λ m less some. absurd (omega arith) }

pub below-more : (bound n : ℕ) (timers : List Timer) → AreFromBelow bound n timers → AreFromBelow (bound_with_tick bound (due_at timers n)) (n + 1) timers
below-more bound n timers from = record {
  each = λ m less some. elim (cases_lt m n) [
    | inl h ↦ let low = from.each m h some in omega (arith, low, lowered-bound bound (due_at timers n))
    | inr h ↦ let is : m ≡ n = omega (arith, h, less) in rw is (lowered-due bound (due_at timers n) (λ z. some (rw is z)))
  ];
}

pub below-all : (bound : ℕ) (timers : List Timer) → AreFromBelow bound (length timers) timers → AreFrom bound timers
below-all bound timers from = record {
  each = λ m timer e some.
      let at : due_at timers m ≡ timer.due = ap due_of e in
      let low = from.each m (slice_get-below timers m timer e) (λ z. some (rw (← at) z)) in
      rw (← at) low;
}

-- ---- none is due before the bound
pub quiet-before : (now bound : ℕ) (timers : List Timer) → AreSpans bound timers → now < bound → IsQuiet now timers
quiet-before now bound timers are less = record {
  each = λ n timer e some. let low = are.from.each n timer e some in omega (arith, low, less);
}

pub ruleset none = (spans-none)

pub ruleset fresh = (span-fresh)

pub ruleset scans = (below-none, below-more, below-all)

pub ruleset quiet = (quiet-before)
