-- What keeps the rules of events and of the tasks that wait for them, and the rule of deadlines.
use Rattle.std.proofs.Common.{◌≡◌, ℕ, ◌≤◌, List, [], ◌∷◌, ◌++◌, true, false, Option, Some, None, length, length-append, refl, ap, sym, ◌∙◌, inl, inr, arith}
use Rattle.std.specs.Prelude.{slice_get, option_map}
use Rattle.std.proofs.lemmas.Bool.{cases_eq}
use Rattle.std.proofs.lemmas.Bool.Decides.{nat_tests}
use Rattle.evm_model.proofs.Lists.{change-here, change-elsewhere, change-cases, length-change, slice_get-push, slice_get-before}
use Rattle.evm_model.specs.Events.{bound_of}
use Rattle.evm_model.specs.Good.{AreEvents, event_of, event_of_task, event_at, is_mutex, is_waiting}
use Rattle.evm_model.specs.Lists.{change}
use Rattle.evm_model.specs.Mutexes.{owner, freed}
use Rattle.evm_model.specs.declared.mutex.Mutex.{Mutex}
use Rattle.evm_model.specs.declared.task.Task.{Task}
use Rattle.law_rules.proofs.Locks.{owner-cases, freed-owner, pushed-owner}

-- ---- tasks change, and none waits for an event that didn't
pub events-fewer : (events : List (Option ℕ)) (mutexes : List Mutex) (tasks new : List Task) → ((t e : ℕ) → event_at new t ≡ Some e → event_at tasks t ≡ Some e) → AreEvents events mutexes tasks → AreEvents events mutexes new
events-fewer events mutexes tasks new h a = record { bound = λ t e w. a.bound t e (h t e w); idle = λ t e m w. a.idle t e m (h t e w) }

option-fewer : (f : Task → Task) (o : Option Task) (e : ℕ) → ((x : Task) (e : ℕ) → event_of (f x).state ≡ Some e → event_of x.state ≡ Some e) → event_of_task (option_map f o) ≡ Some e → event_of_task o ≡ Some e
option-fewer f None e h w = cc
option-fewer f (Some x) e h w = h x e w

pub fewer_events-change : (f : Task → Task) (tasks : List Task) (t : ℕ) → ((x : Task) (e : ℕ) → event_of (f x).state ≡ Some e → event_of x.state ≡ Some e)
    → (u e : ℕ) → event_at (change f tasks t) u ≡ Some e → event_at tasks u ≡ Some e
fewer_events-change f tasks t h u e w = elim (cases_eq u t) [
  | inl same ↦
      let there : event_at (change f tasks t) t ≡ Some e = ap (event_at (change f tasks t)) (sym same) ∙ w in
      ap (event_at tasks) same ∙ option-fewer f (slice_get tasks t) e h (ap event_of_task (sym (change-here f tasks t)) ∙ there)
  | inr other ↦ ap event_of_task (sym (change-elsewhere f tasks t u other)) ∙ w
]

push-fewer : (tasks : List Task) (task : Task) (u e : ℕ) (o : Option Task) → event_of task.state ≡ None → slice_get (tasks ++ task ∷ []) u ≡ o → event_of_task o ≡ Some e → event_at tasks u ≡ Some e
push-fewer tasks task u e None n at w = cc
push-fewer tasks task u e (Some z) n at w = elim (slice_get-push tasks task u z at) [
  | inl old ↦ ap event_of_task old ∙ w
  | inr new ↦ let no : None ≡ Some e = sym n ∙ ap (λ (x : Task). event_of x.state) (sym new.1) ∙ w in cc
]

pub fewer_events-push : (tasks : List Task) (task : Task) → event_of task.state ≡ None → (u e : ℕ) → event_at (tasks ++ task ∷ []) u ≡ Some e → event_at tasks u ≡ Some e
fewer_events-push tasks task n u e w = push-fewer tasks task u e (slice_get (tasks ++ task ∷ []) u) n refl w

-- ---- a task waits for an event
here-is : (e d : ℕ) (f : Task → Task) (o : Option Task) → ((x : Task) → event_of (f x).state ≡ Some e) → event_of_task (option_map f o) ≡ Some d → d ≡ e
here-is e d f None h w = cc
here-is e d f (Some x) h w = let same : Some d ≡ Some e = sym w ∙ h x in cc

waits-here : (e t d : ℕ) (f : Task → Task) (tasks : List Task) → ((x : Task) → event_of (f x).state ≡ Some e) → event_at (change f tasks t) t ≡ Some d → d ≡ e
waits-here e t d f tasks h w = here-is e d f (slice_get tasks t) h (ap event_of_task (sym (change-here f tasks t)) ∙ w)

pub events-wait : (events : List (Option ℕ)) (mutexes : List Mutex) (tasks : List Task) (t e : ℕ) (f : Task → Task) → ((x : Task) → event_of (f x).state ≡ Some e) → is_mutex (bound_of (slice_get events e)) mutexes ≡ true
    → ((m : ℕ) → owner mutexes m ≡ Some t → ⊥) → AreEvents events mutexes tasks → AreEvents events mutexes (change f tasks t)
events-wait events mutexes tasks t e f h named free a =
    let was = λ (u d : ℕ) (other : u ≡ t → ⊥) (w : event_at (change f tasks t) u ≡ Some d). ap event_of_task (sym (change-elsewhere f tasks t u other)) ∙ w in
    record {
      bound = λ u d w. elim (cases_eq u t) [
        | inl same ↦ let is : d ≡ e = waits-here e t d f tasks h (ap (event_at (change f tasks t)) (sym same) ∙ w) in rw is named
        | inr other ↦ a.bound u d (was u d other w)
      ];
      idle = λ u d m w o. elim (cases_eq u t) [
        | inl same ↦ free m (o ∙ ap (λ (x : ℕ). Some x) same)
        | inr other ↦ a.idle u d m (was u d other w) o
      ];
    }

-- ---- mutexes change
is_mutex-more : (o : Option ℕ) (mutexes new : List Mutex) → length mutexes ≤ length new → is_mutex o mutexes ≡ true → is_mutex o new ≡ true
is_mutex-more None mutexes new more e = cc
is_mutex-more (Some m) mutexes new more e = grind (arith, nat_tests)

-- no task that waits for an event owns one that it didn't
pub events-mutexes : (events : List (Option ℕ)) (mutexes new : List Mutex) (tasks : List Task) → length mutexes ≤ length new → ((m t e : ℕ) → event_at tasks t ≡ Some e → owner new m ≡ Some t → owner mutexes m ≡ Some t)
    → AreEvents events mutexes tasks → AreEvents events new tasks
events-mutexes events mutexes new tasks more h a = record {
  bound = λ t e w. is_mutex-more (bound_of (slice_get events e)) mutexes new more (a.bound t e w);
  idle = λ t e m w o. a.idle t e m w (h m t e w o);
}

-- task w, which waits for none, owns mutex m
pub events-owned : (g : Mutex → Mutex) (events : List (Option ℕ)) (mutexes : List Mutex) (tasks : List Task) (m w : ℕ) → ((x : Mutex) → (g x).owner ≡ Some w) → event_at tasks w ≡ None
    → AreEvents events mutexes tasks → AreEvents events (change g mutexes m) tasks
events-owned g events mutexes tasks m w h idle a =
    events-mutexes events mutexes (change g mutexes m) tasks (omega (arith, length-change g mutexes m)) (λ n t e wait o. elim (owner-cases g mutexes m n w t h o) [
      | inl is ↦ let no : None ≡ Some e = sym idle ∙ ap (event_at tasks) (sym is) ∙ wait in cc
      | inr was ↦ was
    ]) a

pub events-freed : (events : List (Option ℕ)) (mutexes : List Mutex) (tasks : List Task) (m : ℕ) → AreEvents events mutexes tasks → AreEvents events (change (λ mutex. freed mutex) mutexes m) tasks
events-freed events mutexes tasks m a =
    events-mutexes events mutexes (change (λ mutex. freed mutex) mutexes m) tasks (omega (arith, length-change (λ (mutex : Mutex). freed mutex) mutexes m)) (λ n t e wait o. freed-owner mutexes m n t o) a

pub events-push : (events : List (Option ℕ)) (mutexes : List Mutex) (tasks : List Task) (new : Mutex) → new.owner ≡ None → AreEvents events mutexes tasks → AreEvents events (mutexes ++ new ∷ []) tasks
events-push events mutexes tasks new free a =
    events-mutexes events mutexes (mutexes ++ new ∷ []) tasks (omega (arith, length-append mutexes (new ∷ [])))
    (λ n t e wait o. pushed-owner mutexes new n t (slice_get (mutexes ++ new ∷ []) n) free refl o) a

-- ---- events change
-- .. and each that had a mutex has one
pub events-named : (events new : List (Option ℕ)) (mutexes : List Mutex) (tasks : List Task) → ((e : ℕ) → is_mutex (bound_of (slice_get events e)) mutexes ≡ true → is_mutex (bound_of (slice_get new e)) mutexes ≡ true)
    → AreEvents events mutexes tasks → AreEvents new mutexes tasks
events-named events new mutexes tasks h a = record { bound = λ t e w. h e (a.bound t e w); idle = a.idle }

add-named : (events : List (Option ℕ)) (mutexes : List Mutex) (e : ℕ) (o : Option (Option ℕ)) → slice_get events e ≡ o → is_mutex (bound_of o) mutexes ≡ true → is_mutex (bound_of (slice_get (events ++ None ∷ []) e)) mutexes ≡ true
add-named events mutexes e None at h = cc
add-named events mutexes e (Some b) at h = rw (slice_get-before events None e b at) h

-- an event more
pub events-add : (events : List (Option ℕ)) (mutexes : List Mutex) (tasks : List Task) → AreEvents events mutexes tasks → AreEvents (events ++ None ∷ []) mutexes tasks
events-add events mutexes tasks a = events-named events (events ++ None ∷ []) mutexes tasks (λ e h. add-named events mutexes e (slice_get events e) refl h) a

set-named : (mutexes : List Mutex) (m : ℕ) (o : Option (Option ℕ)) → is_mutex (Some m) mutexes ≡ true → is_mutex (bound_of o) mutexes ≡ true → is_mutex (bound_of (option_map (λ (old : Option ℕ). Some m) o)) mutexes ≡ true
set-named mutexes m None there h = cc
set-named mutexes m (Some b) there h = there

-- event e has a mutex that is there
pub events-set : (events : List (Option ℕ)) (mutexes : List Mutex) (tasks : List Task) (e m : ℕ) → is_mutex (Some m) mutexes ≡ true → AreEvents events mutexes tasks → AreEvents (change (λ old. Some m) events e) mutexes tasks
events-set events mutexes tasks e m there a =
    events-named events (change (λ old. Some m) events e) mutexes tasks (λ d h. elim (cases_eq d e) [
      | inl same ↦
          let at : slice_get (change (λ (old : Option ℕ). Some m) events e) e ≡ option_map (λ (old : Option ℕ). Some m) (slice_get events e) = change-here (λ (old : Option ℕ). Some m) events e in
          rw (same, at) (set-named mutexes m (slice_get events e) there (rw same at h))
      | inr other ↦ rw (change-elsewhere (λ (old : Option ℕ). Some m) events e d other) h
    ]) a

-- ---- deadlines
-- a task that doesn't wait has none
abbrev pub AreDeadlines : List Task → Type 0
AreDeadlines tasks = (t : ℕ) (task : Task) → slice_get tasks t ≡ Some task → is_waiting task.state ≡ false → task.deadline ≡ 0

pub deadlines-change : (f : Task → Task) (tasks : List Task) (t : ℕ) → ((x : Task) → slice_get tasks t ≡ Some x → is_waiting (f x).state ≡ false → (f x).deadline ≡ 0) → AreDeadlines tasks → AreDeadlines (change f tasks t)
deadlines-change f tasks t h d u task e waits = elim (change-cases f tasks t u task e) [
  | inl w ↦ rw w.3 (h w.1 w.2 (rw w.3 at waits))
  | inr w ↦ d u task w.1 waits
]

-- .. by a change that leaves how it is, and its deadline
pub deadlines-stay : (f : Task → Task) (tasks : List Task) (t : ℕ) → ((x : Task) → (f x).state ≡ x.state) → ((x : Task) → (f x).deadline ≡ x.deadline) → AreDeadlines tasks → AreDeadlines (change f tasks t)
deadlines-stay f tasks t state deadline d = deadlines-change f tasks t (λ x e w. deadline x ∙ d t x e (ap is_waiting (sym (state x)) ∙ w)) d

pub deadlines-push : (tasks : List Task) (task : Task) → task.deadline ≡ 0 → AreDeadlines tasks → AreDeadlines (tasks ++ task ∷ [])
deadlines-push tasks task none d u x e waits = elim (slice_get-push tasks task u x e) [
  | inl w ↦ d u x w waits
  | inr w ↦ rw w.1 none
]
