-- A Step of a private row catches up by one row, or puts its task ahead by one row more.
use Rattle.std.proofs.Common.{◌≡◌, ℕ, zero, suc, ◌+◌, ◌-◌, ◌<◌, List, true, false, Option, Some, None, length, refl, ap, sym, ◌∙◌, inl, inr, arith, eq-eqb, subst}
use Rattle.std.specs.Prelude.{slice_get, slice_set, ◌==◌, if◌then◌else◌}
use Rattle.std.proofs.lemmas.Bool.Decides.{eqb_tells}
use Rattle.std.proofs.lemmas.List.{length-set}
use Rattle.evm_exec.specs.declared.hart.Hart.{Hart}
use Rattle.evm_model.proofs.Lists.{slice_get-set_same, slice_get-set_other, slice_get-within, slice_get-below}
use Rattle.evm_model.specs.State.{Board}
use Rattle.evm_model.specs.declared.task.Task.{Task}
use Rattle.law_runs.specs.Ahead.{HeadStart, BoardsAhead, text, private_hart, goes, has_ready_state, one_less, one_more, StepsCatchUp, StepsGoAhead}
use Rattle.law_runs.proofs.Alike.AheadChanging.{goes-none}
use Rattle.law_runs.proofs.Alike.AheadReading.{task_count-same, tasks-same}
use Rattle.law_runs.proofs.Alike.AheadPrivate.{with_hart, step-private, fetched}

-- ---- private rows of a hart
next-is : (code : ℕ → Option ℕ) (n : ℕ) (o : Option Hart) (last : Hart) → goes code n o ≡ Some last → (next : Hart) × (o ≡ Some next)
next-is code n None last e = let no : None ≡ Some last = sym (goes-none code n) ∙ e in cc
next-is code n (Some next) last e = (next, refl)

hart-is : (code : ℕ → Option ℕ) (o : Option Hart) (next : Hart) → private_hart code o ≡ Some next → (hart : Hart) × (o ≡ Some hart)
hart-is code None next e = cc
hart-is code (Some hart) next e = (hart, refl)

-- the last row is the one by which it is more
goes-last : (code : ℕ → Option ℕ) (n : ℕ) (o : Option Hart) → goes code (suc n) o ≡ private_hart code (goes code n o)
goes-last code zero o = refl
goes-last code (suc n) o = goes-last code n (private_hart code o)

-- ---- rows less and more
less-here : (t n : ℕ) (rows : ℕ → ℕ) → rows t ≡ suc n → one_less t rows t ≡ n
less-here t n rows e = rw (eq-eqb t t refl, e) (omega arith)

more-here : (t : ℕ) (rows : ℕ → ℕ) → one_more t rows t ≡ suc (rows t)
more-here t rows = rw (eq-eqb t t refl) (omega arith)

elsewhere : (t u : ℕ) (x y : ℕ) → (u == t) ≡ false → (if u == t then x else y) ≡ y
elsewhere t u x y e = rw e refl

task-below : (tasks : List Task) (t : ℕ) → has_ready_state (slice_get tasks t) ≡ true → t < length tasks
task-below tasks t e = elim (slice_get tasks t) as (λ o. slice_get tasks t ≡ o → has_ready_state o ≡ true → t < length tasks) [
  | None ↦ λ f g. cc
  | Some x ↦ λ f g. slice_get-below tasks t x f
] refl e

-- ---- the one that is behind
module _ (lead : HeadStart) (a b : Board) (s : BoardsAhead lead a b) (t n : ℕ) (more : lead.rows t ≡ suc n) where
  last-hart : (hart : Hart) × (slice_get b.parts.harts t ≡ Some hart)
  last-hart =
      let there = task-below a.parts.tasks t (s.parts.ready t n more) in
      slice_get-within b.parts.harts t (omega (arith, there, task_count-same s.parts, s.parts.other_count))

  next-hart : (next : Hart) × (private_hart lead.code (slice_get a.parts.harts t) ≡ Some next)
  next-hart =
      let e : slice_get b.parts.harts t ≡ goes lead.code (suc n) (slice_get a.parts.harts t) = let f = s.parts.ahead t in rw more at f in
      next-is lead.code n (private_hart lead.code (slice_get a.parts.harts t)) last-hart.0 (sym e ∙ last-hart.1)

  caught-here : (hart next : Hart) → slice_get a.parts.harts t ≡ Some hart → private_hart lead.code (Some hart) ≡ Some next
      → slice_get b.parts.harts t ≡ goes lead.code (one_less t lead.rows t) (slice_get (slice_set a.parts.harts t next) t)
  caught-here hart next e f =
      let g : slice_get b.parts.harts t ≡ goes lead.code (suc n) (slice_get a.parts.harts t) = let h = s.parts.ahead t in rw more at h in
      rw (less-here t n lead.rows more, slice_get-set_same a.parts.harts t hart next e) (g ∙ ap (λ o. goes lead.code n (private_hart lead.code o)) e ∙ ap (goes lead.code n) f)

  caught-at : (hart next : Hart) (u : ℕ) → slice_get a.parts.harts t ≡ Some hart → private_hart lead.code (Some hart) ≡ Some next
      → slice_get b.parts.harts u ≡ goes lead.code (one_less t lead.rows u) (slice_get (slice_set a.parts.harts t next) u)
  caught-at hart next u e f = elim (eqb_tells u t) [
    | inl g ↦ rw g.1 (caught-here hart next e f)
    | inr g ↦ rw (elsewhere t u (lead.rows u - 1) (lead.rows u) g.0, slice_get-set_other a.parts.harts t u next g.1) (s.parts.ahead u)
  ]

  less-ready : (u m : ℕ) → one_less t lead.rows u ≡ suc m → has_ready_state (slice_get a.parts.tasks u) ≡ true
  less-ready u m e = elim (eqb_tells u t) [
    | inl g ↦ rw g.1 (s.parts.ready t n more)
    | inr g ↦ s.parts.ready u m (sym (elsewhere t u (lead.rows u - 1) (lead.rows u) g.0) ∙ e)
  ]

  pub caught : (hart next : Hart) → slice_get a.parts.harts t ≡ Some hart → private_hart lead.code (Some hart) ≡ Some next → BoardsAhead (record { code = lead.code; rows = one_less t lead.rows }) (with_hart t next a) b
  caught hart next e f = record {
    memory = s.memory;
    breakpoints = s.breakpoints;
    parts = record {
      same = s.parts.same;
      ahead = λ u. caught-at hart next u e f;
      ready = less-ready;
      count = length-set a.parts.harts t next ∙ s.parts.count;
      other_count = s.parts.other_count;
    };
  }

pub steps_catch_up : StepsCatchUp
steps_catch_up low high rows c t n a b s is more =
    let lead : HeadStart = record { code = text low high a.memory; rows = rows } in
    let next = next-hart lead a b s t n more in let hart = hart-is lead.code (slice_get a.parts.harts t) next.0 next.1 in
    let private : private_hart lead.code (Some hart.0) ≡ Some next.0 = sym (ap (private_hart lead.code) hart.1) ∙ next.1 in
    let goes_on = step-private c t a is hart.0 next.0 (fetched low high a.memory hart.0 next.0 private) hart.1 in
    rw goes_on (caught lead a b s t n more hart.0 next.0 hart.1 private, refl)

-- ---- the one that is ahead
module _ (lead : HeadStart) (a b : Board) (s : BoardsAhead lead a b) (t : ℕ) (hart next : Hart) (at : slice_get b.parts.harts t ≡ Some hart) (private : private_hart lead.code (Some hart) ≡ Some next) (ready : has_ready_state (slice_get b.parts.tasks t) ≡ true) where
  gone-here : slice_get (slice_set b.parts.harts t next) t ≡ goes lead.code (one_more t lead.rows t) (slice_get a.parts.harts t)
  gone-here =
      let last : goes lead.code (suc (lead.rows t)) (slice_get a.parts.harts t) ≡ Some next =
      goes-last lead.code (lead.rows t) (slice_get a.parts.harts t) ∙ ap (private_hart lead.code) (sym (s.parts.ahead t) ∙ at) ∙ private in
      rw (more-here t lead.rows, slice_get-set_same b.parts.harts t hart next at) (sym last)

  gone-at : (u : ℕ) → slice_get (slice_set b.parts.harts t next) u ≡ goes lead.code (one_more t lead.rows u) (slice_get a.parts.harts u)
  gone-at u = elim (eqb_tells u t) [
    | inl g ↦ rw g.1 gone-here
    | inr g ↦ rw (elsewhere t u (lead.rows u + 1) (lead.rows u) g.0, slice_get-set_other b.parts.harts t u next g.1) (s.parts.ahead u)
  ]

  more-ready : (u m : ℕ) → one_more t lead.rows u ≡ suc m → has_ready_state (slice_get a.parts.tasks u) ≡ true
  more-ready u m e = elim (eqb_tells u t) [
    | inl g ↦ rw g.1 (ap (λ tasks. has_ready_state (slice_get tasks t)) (tasks-same s.parts) ∙ ready)
    | inr g ↦ s.parts.ready u m (sym (elsewhere t u (lead.rows u + 1) (lead.rows u) g.0) ∙ e)
  ]

  pub gone : BoardsAhead (record { code = lead.code; rows = one_more t lead.rows }) a (with_hart t next b)
  gone = record {
    memory = s.memory;
    breakpoints = s.breakpoints;
    parts = record {
      same = s.parts.same;
      ahead = gone-at;
      ready = more-ready;
      count = s.parts.count;
      other_count = length-set b.parts.harts t next ∙ s.parts.other_count;
    };
  }

pub steps_go_ahead : StepsGoAhead
steps_go_ahead low high rows c t next a b s is ready e =
    let lead : HeadStart = record { code = text low high a.memory; rows = rows } in
    let hart = hart-is (text low high b.memory) (slice_get b.parts.harts t) next e in
    let private : private_hart (text low high b.memory) (Some hart.0) ≡ Some next = sym (ap (private_hart (text low high b.memory)) hart.1) ∙ e in
    let here : private_hart lead.code (Some hart.0) ≡ Some next = subst (λ m. private_hart (text low high m) (Some hart.0) ≡ Some next) (sym s.memory) private in
    let goes_on = step-private c t b is hart.0 next (fetched low high b.memory hart.0 next private) hart.1 in
    rw goes_on (gone lead a b s t hart.0 next hart.1 here ready, refl)
