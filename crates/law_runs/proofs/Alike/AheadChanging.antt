-- A change that looks at no hart, made of parts that differ in harts alone; and a change of the hart of a task that isn't ahead.
use Rattle.std.proofs.Common.{◌≡◌, ℕ, zero, suc, List, [], Bool, true, false, Option, Some, None, refl, ap, sym, ◌∙◌, inl, inr}
use Rattle.std.specs.Prelude.{slice_get, option_map, if◌then◌else◌}
use Rattle.std.proofs.lemmas.Bool.Decides.{eqb_tells}
use Rattle.evm_exec.specs.declared.hart.Hart.{Hart}
use Rattle.evm_model.proofs.Lists.{change-here, change-elsewhere, length-change}
use Rattle.evm_model.specs.Good.{is_ready}
use Rattle.evm_model.specs.Lists.{change}
use Rattle.evm_model.specs.Pipes.{Pipe}
use Rattle.evm_model.specs.State.{Parts, on_hart, on_task, on_processor, on_pipe, on_mutex, on_watch, on_semaphore, on_event, on_flags, on_timer, on_action}
use Rattle.evm_model.specs.declared.action.Action.{Action}
use Rattle.evm_model.specs.declared.call.Outcome.{Outcome}
use Rattle.evm_model.specs.declared.mutex.Mutex.{Mutex}
use Rattle.evm_model.specs.declared.processor.Processor.{Processor}
use Rattle.evm_model.specs.declared.task.Task.{Task}
use Rattle.evm_model.specs.declared.timer.Timer.{Timer}
use Rattle.law_runs.specs.Ahead.{HeadStart, Ahead, has_ready_state, goes}

-- such parts, with the same outcome
abbrev pub AheadDone : HeadStart → Parts × Outcome → Parts × Outcome → Type 0
AheadDone lead x y = Ahead lead x.0 y.0 × (x.1 ≡ y.1)

-- ---- tests that come out the same
pub ahead_if : {lead : HeadStart} {b c : Bool} {p q x y : Parts} → b ≡ c → Ahead lead p q → Ahead lead x y → Ahead lead (if b then p else x) (if c then q else y)
ahead_if {lead = lead} {b = b} {c = c} {p = p} {q = q} {x = x} {y = y} e a d = rw e (elim c as (λ c. Ahead lead (if c then p else x) (if c then q else y)) [ true ↦ a | false ↦ d ])

pub done_if : {lead : HeadStart} {b c : Bool} {p q x y : Parts × Outcome} → b ≡ c → AheadDone lead p q → AheadDone lead x y → AheadDone lead (if b then p else x) (if c then q else y)
done_if {lead = lead} {b = b} {c = c} {p = p} {q = q} {x = x} {y = y} e a d = rw e (elim c as (λ c. AheadDone lead (if c then p else x) (if c then q else y)) [ true ↦ a | false ↦ d ])

pub ahead_when : {lead : HeadStart} {b c : Bool} {p q x y : Parts} → b ≡ c → (c ≡ true → Ahead lead p q) → Ahead lead x y → Ahead lead (if b then p else x) (if c then q else y)
ahead_when {lead = lead} {b = b} {c = c} {p = p} {q = q} {x = x} {y = y} e a d =
    rw e (elim c as (λ c. (c ≡ true → Ahead lead p q) → Ahead lead (if c then p else x) (if c then q else y)) [ true ↦ λ f. f refl | false ↦ λ f. d ] a)

-- ---- changes
-- one that leaves tasks and harts
pub ahead_by : {lead : HeadStart} {p q : Parts} → Ahead lead p q → (f : Parts → Parts) → ((k : Parts) → record (f k) { harts = [] } ≡ f (record k { harts = [] })) → ((k : Parts) → (f k).tasks ≡ k.tasks) → ((k : Parts) → (f k).harts ≡ k.harts)
    → Ahead lead (f p) (f q)
ahead_by {p = p} {q = q} a f e t h = record {
  same = e p ∙ ap f a.same ∙ sym (e q);
  ahead = rw (h p, h q) a.ahead;
  ready = rw (t p) a.ready;
  count = rw (t p, h p) a.count;
  other_count = rw (t q, h q) a.other_count;
}

module _ {lead : HeadStart} {p q : Parts} (a : Ahead lead p q) where
  pub ahead_processor : (c : ℕ) (f : Processor → Processor) → Ahead lead (on_processor c f p) (on_processor c f q)
  ahead_processor c f = ahead_by a (on_processor c f) (λ k. refl) (λ k. refl) (λ k. refl)

  pub ahead_mutex : (m : ℕ) (f : Mutex → Mutex) → Ahead lead (on_mutex m f p) (on_mutex m f q)
  ahead_mutex m f = ahead_by a (on_mutex m f) (λ k. refl) (λ k. refl) (λ k. refl)

  pub ahead_watch : (c : ℕ) (f : ℕ → ℕ) → Ahead lead (on_watch c f p) (on_watch c f q)
  ahead_watch c f = ahead_by a (on_watch c f) (λ k. refl) (λ k. refl) (λ k. refl)

  pub ahead_semaphore : (s : ℕ) (f : ℕ → ℕ) → Ahead lead (on_semaphore s f p) (on_semaphore s f q)
  ahead_semaphore s f = ahead_by a (on_semaphore s f) (λ k. refl) (λ k. refl) (λ k. refl)

  pub ahead_event : (e : ℕ) (f : Option ℕ → Option ℕ) → Ahead lead (on_event e f p) (on_event e f q)
  ahead_event e f = ahead_by a (on_event e f) (λ k. refl) (λ k. refl) (λ k. refl)

  pub ahead_flags : (g : ℕ) (f : ℕ → ℕ) → Ahead lead (on_flags g f p) (on_flags g f q)
  ahead_flags g f = ahead_by a (on_flags g f) (λ k. refl) (λ k. refl) (λ k. refl)

  pub ahead_timer : (n : ℕ) (f : Timer → Timer) → Ahead lead (on_timer n f p) (on_timer n f q)
  ahead_timer n f = ahead_by a (on_timer n f) (λ k. refl) (λ k. refl) (λ k. refl)

  pub ahead_action : (l : ℕ) (f : Action → Action) → Ahead lead (on_action l f p) (on_action l f q)
  ahead_action l f = ahead_by a (on_action l f) (λ k. refl) (λ k. refl) (λ k. refl)

  pub ahead_pipe : (c : ℕ) (f : Pipe → Pipe) → Ahead lead (on_pipe c f p) (on_pipe c f q)
  ahead_pipe c f = ahead_by a (on_pipe c f) (λ k. refl) (λ k. refl) (λ k. refl)

-- ---- a hart of a task that isn't ahead
pub goes-none : (code : ℕ → Option ℕ) (n : ℕ) → goes code n None ≡ None
goes-none code zero = refl
goes-none code (suc n) = goes-none code n

hart-elsewhere : (lead : HeadStart) (t u : ℕ) (f : Hart → Hart) (xs ys : List Hart) → (u ≡ t → ⊥) → slice_get ys u ≡ goes lead.code (lead.rows u) (slice_get xs u)
    → slice_get (change f ys t) u ≡ goes lead.code (lead.rows u) (slice_get (change f xs t) u)
hart-elsewhere lead t u f xs ys other e = rw (change-elsewhere f ys t u other, change-elsewhere f xs t u other) e

hart-here : (lead : HeadStart) (t : ℕ) (f : Hart → Hart) (xs ys : List Hart) → lead.rows t ≡ 0 → slice_get ys t ≡ goes lead.code (lead.rows t) (slice_get xs t)
    → slice_get (change f ys t) t ≡ goes lead.code (lead.rows t) (slice_get (change f xs t) t)
hart-here lead t f xs ys z e =
    let same : slice_get ys t ≡ slice_get xs t = rw z at e in
    rw (z, change-here f ys t, change-here f xs t, same) refl

hart-changed : (lead : HeadStart) (t u : ℕ) (f : Hart → Hart) (xs ys : List Hart) → lead.rows t ≡ 0 → ((u : ℕ) → slice_get ys u ≡ goes lead.code (lead.rows u) (slice_get xs u))
    → slice_get (change f ys t) u ≡ goes lead.code (lead.rows u) (slice_get (change f xs t) u)
hart-changed lead t u f xs ys z e = elim (eqb_tells u t) [
  | inl g ↦ rw g.1 (hart-here lead t f xs ys z (e t))
  | inr g ↦ hart-elsewhere lead t u f xs ys g.1 (e u)
]

pub ahead_hart : {lead : HeadStart} {p q : Parts} → Ahead lead p q → (t : ℕ) (f : Hart → Hart) → lead.rows t ≡ 0 → Ahead lead (on_hart t f p) (on_hart t f q)
ahead_hart {lead = lead} {p = p} {q = q} a t f z = record {
  same = a.same;
  ahead = λ u. hart-changed lead t u f p.harts q.harts z a.ahead;
  ready = a.ready;
  count = length-change f p.harts t ∙ a.count;
  other_count = length-change f q.harts t ∙ a.other_count;
}

-- ---- a task
-- a change that leaves a ready task ready
abbrev pub StaysReady : (Task → Task) → Type 0
StaysReady f = (x : Task) → is_ready x.state ≡ true → is_ready (f x).state ≡ true

ready-option : (f : Task → Task) (o : Option Task) → StaysReady f → has_ready_state o ≡ true → has_ready_state (option_map f o) ≡ true
ready-option f None s e = cc
ready-option f (Some x) s e = s x e

pub ready-changed : (f : Task → Task) (tasks : List Task) (t u : ℕ) → StaysReady f → has_ready_state (slice_get tasks u) ≡ true → has_ready_state (slice_get (change f tasks t) u) ≡ true
ready-changed f tasks t u s e = elim (eqb_tells u t) [
  | inl g ↦ let here : has_ready_state (slice_get tasks t) ≡ true = rw (← g.1) e in rw (g.1, change-here f tasks t) (ready-option f (slice_get tasks t) s here)
  | inr g ↦ rw (change-elsewhere f tasks t u g.1) e
]

pub ahead_task : {lead : HeadStart} {p q : Parts} → Ahead lead p q → (t : ℕ) (f : Task → Task) → StaysReady f → Ahead lead (on_task t f p) (on_task t f q)
ahead_task {p = p} {q = q} a t f s = record {
  same = ap (on_task t f) a.same;
  ahead = a.ahead;
  ready = λ u n e. ready-changed f p.tasks t u s (a.ready u n e);
  count = a.count ∙ sym (length-change f p.tasks t);
  other_count = a.other_count ∙ sym (length-change f q.tasks t);
}

-- of a task that isn't ahead any change
still-ready : (lead : HeadStart) (f : Task → Task) (tasks : List Task) (t u n : ℕ) → lead.rows t ≡ 0 → lead.rows u ≡ suc n → has_ready_state (slice_get tasks u) ≡ true → has_ready_state (slice_get (change f tasks t) u) ≡ true
still-ready lead f tasks t u n z e r = elim (eqb_tells u t) [
  | inl g ↦ let same : lead.rows t ≡ suc n = rw (← g.1) e in let no : zero ≡ suc n = sym z ∙ same in cc
  | inr g ↦ rw (change-elsewhere f tasks t u g.1) r
]

pub still_task : {lead : HeadStart} {p q : Parts} → Ahead lead p q → (t : ℕ) (f : Task → Task) → lead.rows t ≡ 0 → Ahead lead (on_task t f p) (on_task t f q)
still_task {lead = lead} {p = p} {q = q} a t f z = record {
  same = ap (on_task t f) a.same;
  ahead = a.ahead;
  ready = λ u n e. still-ready lead f p.tasks t u n z e (a.ready u n e);
  count = a.count ∙ sym (length-change f p.tasks t);
  other_count = a.other_count ∙ sym (length-change f q.tasks t);
}
