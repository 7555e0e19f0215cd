-- All that wait for an event wait for it no more after as many signals as there are tasks.
use Rattle.std.proofs.Common.{◌≡◌, ℕ, zero, suc, ◌+◌, ◌-◌, ◌<◌, ◌≤◌, List, [], ◌∷◌, ◌++◌, Bool, true, false, Option, Some, None, length, ◌⊎◌, inl, inr, refl, ap, sym, ◌∙◌, arith}
use Rattle.std.specs.Prelude.{slice_get, option_map}
use Rattle.std.specs.List.{Contains}
use Rattle.std.proofs.lemmas.Bool.{cases_eq}
use Rattle.std.proofs.lemmas.List.Elements.{Contains-append_left, Contains-push, Contains-push_cases}
use Rattle.evm_model.proofs.Lists.{change-here, change-elsewhere, length-change}
use Rattle.evm_model.specs.Events.{bound, bound_of, reacquire_from, reacquire, signal_to, signal_first, signal_rounds}
use Rattle.evm_model.specs.Lists.{change}
use Rattle.evm_model.specs.Mutexes.{held_by, owner}
use Rattle.evm_model.specs.Ranks.{rank, stamp}
use Rattle.evm_model.specs.State.{Parts, on_mutex}
use Rattle.evm_model.specs.Tasks.{restamp}
use Rattle.evm_model.specs.Waits.{awaits_task, awaits, begin_wait, first_waiter, is_wait_for, ready_on, stage_of_wait, wake, woken_state}
use Rattle.evm_model.specs.declared.stage.Stage.{Stage}
use Rattle.evm_model.specs.declared.stage.Stage.TheVariants.{InBand, OutOfBand}
use Rattle.evm_model.specs.declared.task.Task.{Task}
use Rattle.evm_model.specs.declared.task.TaskState.{TaskState}
use Rattle.evm_model.specs.declared.task.TaskState.TheVariants.{Waits}
use Rattle.evm_model.specs.declared.task.Wait.TheVariants.{Event, Reacquire}
use Rattle.law_rules.proofs.Waiters.{first-member}
use Rattle.law_rules.proofs.Firsts.{first-none}
use Rattle.law_runs.proofs.Sooner.{how_many, few, no_many, one_less}
use Rattle.claims_machine.specs.Waiting.{FirstByFirst, none, next}

-- ---- a task waits for the event no more
record Leaves (e t : ℕ) (k x : Parts) : Type 0 where
  others : (u : ℕ) → (u ≡ t → ⊥) → slice_get x.tasks u ≡ slice_get k.tasks u
  events : x.events ≡ k.events
  size : length x.tasks ≡ length k.tasks
  gone : awaits (Event e) x.tasks t ≡ false

option_gone : (e : ℕ) (f g : Task → Task) (o : Option Task) → ((y : Task) → is_wait_for (Event e) (g (f y)).state ≡ false) → awaits_task (Event e) (option_map g (option_map f o)) ≡ false
option_gone e f g None h = refl
option_gone e f g (Some y) h = h y

changes_gone : (e : ℕ) (f g : Task → Task) (tasks : List Task) (t : ℕ) → ((y : Task) → is_wait_for (Event e) (g (f y)).state ≡ false) → awaits (Event e) (change g (change f tasks t) t) t ≡ false
changes_gone e f g tasks t h = ap (awaits_task (Event e)) (change-here g (change f tasks t) t ∙ ap (option_map g) (change-here f tasks t)) ∙ option_gone e f g (slice_get tasks t) h

on_stage : (e : ℕ) (stage : Stage) (returns : Bool) → is_wait_for (Event e) (ready_on stage returns) ≡ false
on_stage e InBand returns = refl
on_stage e OutOfBand true = refl
on_stage e OutOfBand false = refl

woken_not : (e : ℕ) (returns : Bool) (state : TaskState) → is_wait_for (Event e) (woken_state returns state) ≡ false
woken_not e returns (Waits wait) = on_stage e (stage_of_wait wait) returns
woken_not e returns _ = refl

wakes : (e t m value : ℕ) (k : Parts) → Leaves e t k (wake t value (on_mutex m (held_by t 1) k))
unfolding wake restamp
wakes e t m value k = record {
  others = λ u other. change-elsewhere _ _ t u other ∙ change-elsewhere _ k.tasks t u other;
  events = refl;
  size = length-change _ _ t ∙ length-change _ k.tasks t;
  gone = changes_gone e _ _ k.tasks t (λ y. woken_not e _ y.state);
}

waits_again : (e t m value : ℕ) (k : Parts) → Leaves e t k (begin_wait t (Reacquire m value) 0 k)
unfolding begin_wait restamp
waits_again e t m value k = record {
  others = λ u other. change-elsewhere _ _ t u other ∙ change-elsewhere _ k.tasks t u other;
  events = refl;
  size = length-change _ _ t ∙ length-change _ k.tasks t;
  gone = changes_gone e _ _ k.tasks t (λ y. refl);
}

from_owner : (o : Option ℕ) (e t m value : ℕ) (k : Parts) → Leaves e t k (reacquire_from o t m value k)
from_owner None e t m value k = wakes e t m value k
from_owner (Some u) e t m value k = waits_again e t m value k

leaves_event : (e t m value : ℕ) (k : Parts) → bound e k ≡ Some m → Leaves e t k (reacquire e t value k)
unfolding reacquire
leaves_event e t m value k named = rw named (from_owner (owner k.mutexes m) e t m value k)

-- ---- rounds
pub record Signals (e n : ℕ) (k x : Parts) : Type 0 where
  pub tasks : List ℕ
  pub order : FirstByFirst e k tasks x
  pub events : x.events ≡ k.events
  pub size : length x.tasks ≡ length k.tasks
  pub which : (t : ℕ) → Contains tasks t ⊎ (slice_get x.tasks t ≡ slice_get k.tasks t)
  pub were : (t : ℕ) → Contains tasks t → awaits (Event e) k.tasks t ≡ true
  pub fewer : (t : ℕ) → awaits (Event e) x.tasks t ≡ true → slice_get x.tasks t ≡ slice_get k.tasks t
  pub left : how_many (awaits (Event e) x.tasks) (length k.tasks) ≤ length k.tasks - n

module _ (e m n : ℕ) (k x : Parts) (named : bound e k ≡ Some m) (w : Signals e n k x) where
  none_more : first_waiter (Event e) x ≡ None → Signals e (suc n) k x
  unfolding first_waiter
  none_more nobody =
      let zero_left : how_many (awaits (Event e) x.tasks) (length k.tasks) ≡ 0 =
      no_many (awaits (Event e) x.tasks) (length k.tasks) (λ u low. first-none (awaits (Event e) x.tasks) (rank x.mutexes x.tasks) (stamp x.tasks) (length x.tasks) u nobody (rw w.size low)) in
      record { tasks = w.tasks; order = w.order; events = w.events; size = w.size; which = w.which; were = w.were; fewer = w.fewer; left = omega arith }

  its_first : (t : ℕ) → first_waiter (Event e) x ≡ Some t → (t < length x.tasks) × (awaits (Event e) x.tasks t ≡ true)
  unfolding first_waiter
  its_first t first = first-member (awaits (Event e) x.tasks) (rank x.mutexes x.tasks) (stamp x.tasks) (length x.tasks) t first

  one_more : (t : ℕ) → first_waiter (Event e) x ≡ Some t → Signals e (suc n) k (reacquire e t 0 x)
  one_more t first =
      let y : Parts = reacquire e t 0 x in
      let is = its_first t first in
      let l : Leaves e t x y = leaves_event e t m 0 x (ap (λ events. bound_of (slice_get events e)) w.events ∙ named) in
      let less : how_many (awaits (Event e) x.tasks) (length k.tasks) ≡ how_many (awaits (Event e) y.tasks) (length k.tasks) + 1 =
      one_less (awaits (Event e) x.tasks) (awaits (Event e) y.tasks) (length k.tasks) t (rw (← w.size) is.0) is.1 l.gone (λ u other. ap (awaits_task (Event e)) (l.others u other)) in
      record {
        tasks = w.tasks ++ t ∷ [];
        order = next w.tasks t x w.order first;
        events = l.events ∙ w.events;
        size = l.size ∙ w.size;
        which = λ u. elim (cases_eq u t) [
          | inl same ↦ inl (rw same (Contains-push w.tasks t))
          | inr other ↦ elim (w.which u) [
            | inl before ↦ inl (Contains-append_left w.tasks (t ∷ []) u before)
            | inr stays ↦ inr (l.others u other ∙ stays)
          ]
        ];
        were = λ u h. elim (Contains-push_cases w.tasks t u h) [
          | inl before ↦ w.were u before
          | inr last ↦ ap (awaits (Event e) k.tasks) (sym last) ∙ ap (awaits_task (Event e)) (sym (w.fewer t is.1)) ∙ is.1
        ];
        fewer = λ u on. elim (cases_eq u t) [
          | inl same ↦ let no : true ≡ false = sym on ∙ ap (awaits (Event e) y.tasks) same ∙ l.gone in cc
          | inr other ↦ l.others u other ∙ w.fewer u (ap (awaits_task (Event e)) (sym (l.others u other)) ∙ on)
        ];
        left = omega (arith, w.left, less);
      }

  by_first : (o : Option ℕ) → first_waiter (Event e) x ≡ o → Signals e (suc n) k (signal_to o e x)
  by_first None first = none_more first
  by_first (Some t) first = one_more t first

  one_round : Signals e (suc n) k (signal_first e x)
  unfolding signal_first
  one_round = by_first (first_waiter (Event e) x) refl

pub signals : (e m n : ℕ) (k : Parts) → bound e k ≡ Some m → Signals e n k (signal_rounds e n k)
unfolding signal_rounds
signals e m zero k named = record {
  tasks = [];
  order = none;
  events = refl;
  size = refl;
  which = λ t. inr refl;
  were = λ t h. absurd (omega (arith, h.1));
  fewer = λ t on. refl;
  left = omega (arith, few (awaits (Event e) k.tasks) (length k.tasks));
}
signals e m (suc n) k named = one_round e m n k (signal_rounds e n k) named (signals e m n k named)
