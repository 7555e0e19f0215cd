-- A change that looks at no stamp, count or console, made of alike parts.
use Rattle.std.proofs.Common.{◌≡◌, ℕ, ◌<◌, List, Bool, true, false, Option, Some, None, length, refl, ap, sym, ◌∙◌, inl, inr}
use Rattle.std.specs.Prelude.{slice_get, option_map, if◌then◌else◌}
use Rattle.std.proofs.lemmas.Bool.Decides.{eqb_tells}
use Rattle.evm_exec.specs.declared.hart.Hart.{Hart}
use Rattle.evm_model.proofs.Lists.{change-here, change-elsewhere, length-change}
use Rattle.evm_model.specs.Lists.{change}
use Rattle.evm_model.specs.Pipes.{Pipe}
use Rattle.evm_model.specs.Ranks.{stamp, stamp_of}
use Rattle.evm_model.specs.State.{Parts, on_hart, on_task, on_processor, on_pipe, on_mutex, on_watch, on_semaphore, on_event, on_flags, on_timer, on_action}
use Rattle.evm_model.specs.declared.action.Action.{Action}
use Rattle.evm_model.specs.declared.call.Outcome.{Outcome}
use Rattle.evm_model.specs.declared.mutex.Mutex.{Mutex}
use Rattle.evm_model.specs.declared.processor.Processor.{Processor}
use Rattle.evm_model.specs.declared.task.Task.{Task}
use Rattle.evm_model.specs.declared.timer.Timer.{Timer}
use Rattle.law_runs.specs.Alike.{unstamped, uncounted, erased, Alike}
use Rattle.law_runs.proofs.Alike.Lists.{map-change}

-- alike parts, with the same outcome
abbrev pub AlikeDone : Parts × Outcome → Parts × Outcome → Type 0
AlikeDone x y = Alike x.0 y.0 × (x.1 ≡ y.1)

-- ---- tests that come out the same
pub alike_if : {b c : Bool} {p q x y : Parts} → b ≡ c → Alike p q → Alike x y → Alike (if b then p else x) (if c then q else y)
alike_if {b = b} {c = c} {p = p} {q = q} {x = x} {y = y} e a d = rw e (elim c as (λ c. Alike (if c then p else x) (if c then q else y)) [ true ↦ a | false ↦ d ])

pub done_if : {b c : Bool} {p q x y : Parts × Outcome} → b ≡ c → AlikeDone p q → AlikeDone x y → AlikeDone (if b then p else x) (if c then q else y)
done_if {b = b} {c = c} {p = p} {q = q} {x = x} {y = y} e a d = rw e (elim c as (λ c. AlikeDone (if c then p else x) (if c then q else y)) [ true ↦ a | false ↦ d ])

-- ---- changes
-- one that leaves tasks and stamps
pub alike_by : {p q : Parts} → Alike p q → (f : Parts → Parts) → ((k : Parts) → erased (f k) ≡ f (erased k)) → ((k : Parts) → (f k).tasks ≡ k.tasks) → ((k : Parts) → (f k).stamps ≡ k.stamps) → Alike (f p) (f q)
alike_by {p = p} {q = q} a f e t s = record {
  same = e p ∙ ap f a.same ∙ sym (e q);
  order = rw (t p, t q) a.order;
  below = rw (t p, s p) a.below;
  other_below = rw (t q, s q) a.other_below;
}

module _ {p q : Parts} (a : Alike p q) where
  pub alike_hart : (t : ℕ) (f : Hart → Hart) → Alike (on_hart t f p) (on_hart t f q)
  alike_hart t f = alike_by a (on_hart t f) (λ k. refl) (λ k. refl) (λ k. refl)

  pub alike_processor : (c : ℕ) (f : Processor → Processor) → Alike (on_processor c f p) (on_processor c f q)
  alike_processor c f = alike_by a (on_processor c f) (λ k. refl) (λ k. refl) (λ k. refl)

  pub alike_mutex : (m : ℕ) (f : Mutex → Mutex) → Alike (on_mutex m f p) (on_mutex m f q)
  alike_mutex m f = alike_by a (on_mutex m f) (λ k. refl) (λ k. refl) (λ k. refl)

  pub alike_watch : (c : ℕ) (f : ℕ → ℕ) → Alike (on_watch c f p) (on_watch c f q)
  alike_watch c f = alike_by a (on_watch c f) (λ k. refl) (λ k. refl) (λ k. refl)

  pub alike_semaphore : (s : ℕ) (f : ℕ → ℕ) → Alike (on_semaphore s f p) (on_semaphore s f q)
  alike_semaphore s f = alike_by a (on_semaphore s f) (λ k. refl) (λ k. refl) (λ k. refl)

  pub alike_event : (e : ℕ) (f : Option ℕ → Option ℕ) → Alike (on_event e f p) (on_event e f q)
  alike_event e f = alike_by a (on_event e f) (λ k. refl) (λ k. refl) (λ k. refl)

  pub alike_flags : (g : ℕ) (f : ℕ → ℕ) → Alike (on_flags g f p) (on_flags g f q)
  alike_flags g f = alike_by a (on_flags g f) (λ k. refl) (λ k. refl) (λ k. refl)

  pub alike_timer : (n : ℕ) (f : Timer → Timer) → Alike (on_timer n f p) (on_timer n f q)
  alike_timer n f = alike_by a (on_timer n f) (λ k. refl) (λ k. refl) (λ k. refl)

  pub alike_action : (l : ℕ) (f : Action → Action) → Alike (on_action l f p) (on_action l f q)
  alike_action l f = alike_by a (on_action l f) (λ k. refl) (λ k. refl) (λ k. refl)

  -- of a pipe, by what looks at no count
  pub alike_pipe : (c : ℕ) (f : Pipe → Pipe) → ((x : Pipe) → uncounted (f x) ≡ f (uncounted x)) → Alike (on_pipe c f p) (on_pipe c f q)
  alike_pipe c f e = alike_by a (on_pipe c f) (λ k. ap (λ pipes. record (erased k) { pipes = pipes }) (map-change uncounted f f k.pipes c e)) (λ k. refl) (λ k. refl)

-- ---- a task, by what looks at no stamp and leaves it
option-stamp : (f : Task → Task) (o : Option Task) → ((x : Task) → (f x).stamp ≡ x.stamp) → stamp_of (option_map f o) ≡ stamp_of o
option-stamp f None e = refl
option-stamp f (Some x) e = e x

change-stamp : (f : Task → Task) (tasks : List Task) (t u : ℕ) → ((x : Task) → (f x).stamp ≡ x.stamp) → stamp (change f tasks t) u ≡ stamp tasks u
change-stamp f tasks t u e = elim (eqb_tells u t) [
  | inl g ↦ rw g.1 (ap stamp_of (change-here f tasks t) ∙ option-stamp f (slice_get tasks t) e)
  | inr g ↦ ap stamp_of (change-elsewhere f tasks t u g.1)
]

below-change : (f : Task → Task) (tasks : List Task) (t : ℕ) (n : ℕ) → ((x : Task) → (f x).stamp ≡ x.stamp) → ((u : ℕ) → u < length tasks → stamp tasks u < n) → (u : ℕ) → u < length (change f tasks t) → stamp (change f tasks t) u < n
below-change f tasks t n e b u h = rw (change-stamp f tasks t u e) (b u (rw (length-change f tasks t) at h))

pub alike_task : {p q : Parts} → Alike p q → (t : ℕ) (f : Task → Task) → ((x : Task) → unstamped (f x) ≡ f (unstamped x)) → ((x : Task) → (f x).stamp ≡ x.stamp) → Alike (on_task t f p) (on_task t f q)
alike_task {p = p} {q = q} a t f e s = record {
  same = commutes p ∙ ap (on_task t f) a.same ∙ sym (commutes q);
  order = λ u v h k. rw (change-stamp f p.tasks t u s, change-stamp f p.tasks t v s, change-stamp f q.tasks t u s, change-stamp f q.tasks t v s)
      (a.order u v (rw (length-change f p.tasks t) at h) (rw (length-change f p.tasks t) at k));
  below = below-change f p.tasks t p.stamps s a.below;
  other_below = below-change f q.tasks t q.stamps s a.other_below;
}
  where
    commutes : (k : Parts) → erased (on_task t f k) ≡ on_task t f (erased k)
    commutes k = ap (λ tasks. record (erased k) { tasks = tasks }) (map-change unstamped f f k.tasks t e)
