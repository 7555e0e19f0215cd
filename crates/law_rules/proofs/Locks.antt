-- What keeps the rules of who owns the mutexes and who waits for them.
use Rattle.std.proofs.Common.{◌≡◌, ℕ, zero, suc, ◌+◌, ◌<◌, ◌≤◌, List, [], ◌∷◌, ◌++◌, Bool, true, false, Option, Some, None, length, length-append, refl, ap, sym, ◌∙◌, ◌⊎◌, inl, inr, arith, eq-eqb}
use Rattle.std.specs.Prelude.{slice_get, option_map, ◌==◌, if◌then◌else◌}
use Rattle.std.proofs.lemmas.Bool.{cases_eq}
use Rattle.std.proofs.lemmas.Bool.Decides.{eqb_tells}
use Rattle.evm_model.specs.Boosts.{HasHeight, Falls, reaches, with_link}
use Rattle.evm_model.proofs.Heights.{falls-low}
use Rattle.evm_model.proofs.Links.{link-keeps, fewer-keeps}
use Rattle.evm_model.proofs.Lists.{change-here, change-elsewhere, length-change, slice_get-push, slice_get-before}
use Rattle.evm_model.specs.Good.{AreLocks}
use Rattle.evm_model.specs.Lists.{change}
use Rattle.evm_model.specs.Mutexes.{owner, owner_of, owner_for, lock_of, lock_of_task, lock_at, waits_on, freed}
use Rattle.evm_model.specs.declared.limits.TheConstants.{MUTEX_LIMIT, TASK_LIMIT}
use Rattle.evm_model.specs.declared.mutex.Mutex.{Mutex}
use Rattle.evm_model.specs.declared.task.Task.{Task}

-- ---- the owner for a lock
for-lock : (mutexes : List Mutex) (o : Option ℕ) (t : ℕ) → owner_for mutexes o ≡ Some t → (m : ℕ) × (o ≡ Some m) × (owner mutexes m ≡ Some t)
for-lock mutexes None t e = cc
for-lock mutexes (Some m) t e = (m, refl, e)

on-lock : (mutexes : List Mutex) (tasks : List Task) (u t : ℕ) → waits_on mutexes tasks u ≡ Some t → (m : ℕ) × (lock_at tasks u ≡ Some m) × (owner mutexes m ≡ Some t)
on-lock mutexes tasks u t e = for-lock mutexes (lock_at tasks u) t e

lock-on : (mutexes : List Mutex) (tasks : List Task) (u m : ℕ) (o : Option ℕ) → lock_at tasks u ≡ Some m → owner mutexes m ≡ o → waits_on mutexes tasks u ≡ o
lock-on mutexes tasks u m o e h = ap (owner_for mutexes) e ∙ h

-- ---- tasks change, and none waits for a lock that didn't
pub locks-fewer : (mutexes : List Mutex) (tasks new : List Task) → length tasks ≤ length new → ((u m : ℕ) → lock_at new u ≡ Some m → lock_at tasks u ≡ Some m) → AreLocks mutexes tasks → AreLocks mutexes new
locks-fewer mutexes tasks new more h l = record {
  owners = λ m t e. let was = l.owners m t e in omega (arith, was, more);
  waited = λ u m e n. l.waited u m (h u m e) n;
  chains = fewer-keeps (waits_on mutexes tasks) (waits_on mutexes new) TASK_LIMIT l.chains (λ u t e.
      let on = on-lock mutexes new u t e in
      lock-on mutexes tasks u on.0 (Some t) (h u on.0 on.1) on.2);
  few = l.few;
}

option-fewer : (f : Task → Task) (o : Option Task) (m : ℕ) → ((x : Task) (m : ℕ) → lock_of (f x).state ≡ Some m → lock_of x.state ≡ Some m) → lock_of_task (option_map f o) ≡ Some m → lock_of_task o ≡ Some m
option-fewer f None m h e = cc
option-fewer f (Some x) m h e = h x m e

pub fewer-change : (f : Task → Task) (tasks : List Task) (t : ℕ) → ((x : Task) (m : ℕ) → lock_of (f x).state ≡ Some m → lock_of x.state ≡ Some m) → (u m : ℕ) → lock_at (change f tasks t) u ≡ Some m → lock_at tasks u ≡ Some m
fewer-change f tasks t h u m e = elim (cases_eq u t) [
  | inl same ↦
      let there : lock_at (change f tasks t) t ≡ Some m = ap (lock_at (change f tasks t)) (sym same) ∙ e in
      ap (lock_at tasks) same ∙ option-fewer f (slice_get tasks t) m h (ap lock_of_task (sym (change-here f tasks t)) ∙ there)
  | inr other ↦ ap lock_of_task (sym (change-elsewhere f tasks t u other)) ∙ e
]

push-fewer : (tasks : List Task) (task : Task) (u m : ℕ) (o : Option Task) → lock_of task.state ≡ None → slice_get (tasks ++ task ∷ []) u ≡ o → lock_of_task o ≡ Some m → lock_at tasks u ≡ Some m
push-fewer tasks task u m None n e h = cc
push-fewer tasks task u m (Some z) n e h = elim (slice_get-push tasks task u z e) [
  | inl old ↦ ap lock_of_task old ∙ h
  | inr new ↦ let no : None ≡ Some m = sym n ∙ ap (λ (x : Task). lock_of x.state) (sym new.1) ∙ h in cc
]

pub fewer-push : (tasks : List Task) (task : Task) → lock_of task.state ≡ None → (u m : ℕ) → lock_at (tasks ++ task ∷ []) u ≡ Some m → lock_at tasks u ≡ Some m
fewer-push tasks task n u m e = push-fewer tasks task u m (slice_get (tasks ++ task ∷ []) u) n refl e

-- ---- heights
higher-limit : (boosts : ℕ → Option ℕ) (count limit : ℕ) → count ≤ limit → HasHeight boosts count → HasHeight boosts limit
higher-limit boosts count limit e h = record { height = h.height; low = λ t. let low = h.low t in omega (arith, low, e); falls = h.falls }

low-again : (mutexes : List Mutex) (tasks : List Task) → length tasks ≤ TASK_LIMIT → ((m t : ℕ) → owner mutexes m ≡ Some t → t < length tasks) → Falls (waits_on mutexes tasks) → HasHeight (waits_on mutexes tasks) TASK_LIMIT
low-again mutexes tasks few there f =
    higher-limit (waits_on mutexes tasks) (length tasks) TASK_LIMIT few
    (falls-low (waits_on mutexes tasks) (length tasks) (λ u t e. let on = on-lock mutexes tasks u t e in there on.0 t on.2) f)

-- ---- task t waits for mutex m, which is u's
here-is : (m n : ℕ) (f : Task → Task) (o : Option Task) → ((x : Task) → lock_of (f x).state ≡ Some m) → lock_of_task (option_map f o) ≡ Some n → n ≡ m
here-is m n f None h e = cc
here-is m n f (Some x) h e = let same : Some n ≡ Some m = sym e ∙ h x in cc

waits-here : (m t n : ℕ) (f : Task → Task) (tasks : List Task) → ((x : Task) → lock_of (f x).state ≡ Some m) → lock_at (change f tasks t) t ≡ Some n → n ≡ m
waits-here m t n f tasks h e = here-is m n f (slice_get tasks t) h (ap lock_of_task (sym (change-here f tasks t)) ∙ e)

waits-other : (t x : ℕ) (f : Task → Task) (tasks : List Task) → (x ≡ t → ⊥) → lock_at (change f tasks t) x ≡ lock_at tasks x
waits-other t x f tasks other = ap lock_of_task (change-elsewhere f tasks t x other)

wait-link : (mutexes : List Mutex) (tasks : List Task) (t m u x y : ℕ) (f : Task → Task) → ((x : Task) → lock_of (f x).state ≡ Some m) → owner mutexes m ≡ Some u
    → waits_on mutexes (change f tasks t) x ≡ Some y → with_link (waits_on mutexes tasks) t u x ≡ Some y
wait-link mutexes tasks t m u x y f h own e =
    let on = on-lock mutexes (change f tasks t) x y e in
    elim (eqb_tells x t) [
      | inl g ↦
          let is : on.0 ≡ m = waits-here m t on.0 f tasks h (ap (lock_at (change f tasks t)) (sym g.1) ∙ on.1) in
          let it : Some u ≡ Some y = sym own ∙ ap (owner mutexes) (sym is) ∙ on.2 in
          rw g.0 it
      | inr g ↦ rw g.0 (lock-on mutexes tasks x on.0 (Some y) (sym (waits-other t x f tasks g.1) ∙ on.1) on.2)
    ]

pub locks-wait : (mutexes : List Mutex) (tasks : List Task) (t m u : ℕ) (f : Task → Task) → ((x : Task) → lock_of (f x).state ≡ Some m) → length tasks ≤ TASK_LIMIT → owner mutexes m ≡ Some u
    → reaches (waits_on mutexes tasks) t TASK_LIMIT (Some u) ≡ false → AreLocks mutexes tasks → AreLocks mutexes (change f tasks t)
locks-wait mutexes tasks t m u f h few own away l =
    let size : length (change f tasks t) ≡ length tasks = length-change f tasks t in
    let there : (n w : ℕ) → owner mutexes n ≡ Some w → w < length (change f tasks t) = λ n w e. rw size (l.owners n w e) in
    let links : Falls (with_link (waits_on mutexes tasks) t u) = link-keeps (waits_on mutexes tasks) TASK_LIMIT t u l.chains away in
    record {
      owners = there;
      waited = λ x n e none. elim (cases_eq x t) [
        | inl same ↦
            let is : n ≡ m = waits-here m t n f tasks h (ap (lock_at (change f tasks t)) (sym same) ∙ e) in
            let no : None ≡ Some u = sym none ∙ ap (owner mutexes) is ∙ own in cc
        | inr other ↦ l.waited x n (sym (waits-other t x f tasks other) ∙ e) none
      ];
      chains = low-again mutexes (change f tasks t) (rw size few) there
          (record { height = links.height; falls = λ x y e. links.falls x y (wait-link mutexes tasks t m u x y f h own e) });
      few = l.few;
    }

-- a task that owns no mutex is on no way
free-reaches : (boosts : ℕ → Option ℕ) (t links : ℕ) (o : Option ℕ) → ((u : ℕ) → boosts u ≡ Some t → ⊥) → (o ≡ Some t → ⊥) → reaches boosts t links o ≡ false
unfolding reaches
free-reaches boosts t zero None none other = refl
free-reaches boosts t (suc links) None none other = refl
free-reaches boosts t zero (Some u) none other = elim (eqb_tells u t) [ inl g ↦ absurd (other (ap (λ (x : ℕ). Some x) g.1)) | inr g ↦ g.0 ]
free-reaches boosts t (suc links) (Some u) none other = elim (eqb_tells u t) [
  | inl g ↦ absurd (other (ap (λ (x : ℕ). Some x) g.1))
  | inr g ↦ rw g.0 (free-reaches boosts t links (boosts u) none (none u))
]

-- so it may wait for any that another task owns
pub locks-retake : (mutexes : List Mutex) (tasks : List Task) (t m u : ℕ) (f : Task → Task) → ((x : Task) → lock_of (f x).state ≡ Some m) → length tasks ≤ TASK_LIMIT → owner mutexes m ≡ Some u
    → ((n : ℕ) → owner mutexes n ≡ Some t → ⊥) → AreLocks mutexes tasks → AreLocks mutexes (change f tasks t)
locks-retake mutexes tasks t m u f h few own free l =
    let leads : (x : ℕ) → waits_on mutexes tasks x ≡ Some t → ⊥ = λ x e. let on = on-lock mutexes tasks x t e in free on.0 on.2 in
    locks-wait mutexes tasks t m u f h few own (free-reaches (waits_on mutexes tasks) t TASK_LIMIT (Some u) leads (λ same. free m (own ∙ same))) l

-- ---- mutex m has another owner
pub option-owner : (g : Mutex → Mutex) (o : Option Mutex) (w t : ℕ) → ((x : Mutex) → (g x).owner ≡ Some w) → owner_of (option_map g o) ≡ Some t → t ≡ w
option-owner g None w t h e = cc
option-owner g (Some x) w t h e = let it : Some t ≡ Some w = sym e ∙ h x in cc

owner-here : (g : Mutex → Mutex) (mutexes : List Mutex) (m : ℕ) → owner (change g mutexes m) m ≡ owner_of (option_map g (slice_get mutexes m))
owner-here g mutexes m = ap owner_of (change-here g mutexes m)

owner-other : (g : Mutex → Mutex) (mutexes : List Mutex) (m n : ℕ) → (n ≡ m → ⊥) → owner (change g mutexes m) n ≡ owner mutexes n
owner-other g mutexes m n other = ap owner_of (change-elsewhere g mutexes m n other)

-- an owner is the new one, or was one
pub owner-cases : (g : Mutex → Mutex) (mutexes : List Mutex) (m n w t : ℕ) → ((x : Mutex) → (g x).owner ≡ Some w) → owner (change g mutexes m) n ≡ Some t → (t ≡ w) ⊎ (owner mutexes n ≡ Some t)
owner-cases g mutexes m n w t h e = elim (cases_eq n m) [
  | inl same ↦ inl (option-owner g (slice_get mutexes m) w t h (sym (owner-here g mutexes m) ∙ ap (owner (change g mutexes m)) (sym same) ∙ e))
  | inr other ↦ inr (sym (owner-other g mutexes m n other) ∙ e)
]

option-free : (g : Mutex → Mutex) (o : Option Mutex) (w : ℕ) → ((x : Mutex) → (g x).owner ≡ Some w) → owner_of (option_map g o) ≡ None → owner_of o ≡ None
option-free g None w h e = refl
option-free g (Some x) w h e = let no : Some w ≡ None = sym (h x) ∙ e in cc

still-free : (g : Mutex → Mutex) (mutexes : List Mutex) (m n w : ℕ) → ((x : Mutex) → (g x).owner ≡ Some w) → owner (change g mutexes m) n ≡ None → owner mutexes n ≡ None
still-free g mutexes m n w h e = elim (cases_eq n m) [
  | inl same ↦ ap (owner mutexes) same ∙ option-free g (slice_get mutexes m) w h (sym (owner-here g mutexes m) ∙ ap (owner (change g mutexes m)) (sym same) ∙ e)
  | inr other ↦ sym (owner-other g mutexes m n other) ∙ e
]

-- all stand one higher but the new owner, who waits for nothing
abbrev above : ℕ → (ℕ → ℕ) → ℕ → ℕ
above w height x = if x == w then 0 else height x + 1

none-waits : (mutexes : List Mutex) (tasks : List Task) (w t : ℕ) → lock_at tasks w ≡ None → waits_on mutexes tasks w ≡ Some t → ⊥
none-waits mutexes tasks w t idle e = let no : None ≡ Some t = ap (owner_for mutexes) (sym idle) ∙ e in cc

owned-step : (g : Mutex → Mutex) (mutexes : List Mutex) (tasks : List Task) (m w u t : ℕ) (b : Bool) (l : AreLocks mutexes tasks) → ((x : Mutex) → (g x).owner ≡ Some w)
    → (t == w) ≡ b → waits_on (change g mutexes m) tasks u ≡ Some t → (if b then 0 else l.chains.height t + 1) < l.chains.height u + 1
owned-step g mutexes tasks m w u t true l h at e = omega arith
owned-step g mutexes tasks m w u t false l h at e =
    let on = on-lock (change g mutexes m) tasks u t e in
    elim (owner-cases g mutexes m on.0 w t h on.2) [
      | inl is ↦ let yes : (t == w) ≡ true = eq-eqb t w is in let no : true ≡ false = sym yes ∙ at in cc
      | inr was ↦ let fall = l.chains.falls u t (lock-on mutexes tasks u on.0 (Some t) on.1 was) in omega (arith, fall)
    ]

owned-falls : (g : Mutex → Mutex) (mutexes : List Mutex) (tasks : List Task) (m w u t : ℕ) (b : Bool) (l : AreLocks mutexes tasks) → ((x : Mutex) → (g x).owner ≡ Some w) → lock_at tasks w ≡ None
    → (t == w) ≡ b → waits_on (change g mutexes m) tasks u ≡ Some t → (if b then 0 else l.chains.height t + 1) < above w l.chains.height u
owned-falls g mutexes tasks m w u t b l h idle at e = elim (eqb_tells u w) [
  | inl same ↦ absurd (none-waits (change g mutexes m) tasks w t idle (ap (waits_on (change g mutexes m) tasks) (sym same.1) ∙ e))
  | inr other ↦ rw other.0 (owned-step g mutexes tasks m w u t b l h at e)
]

pub locks-owned : (g : Mutex → Mutex) (mutexes : List Mutex) (tasks : List Task) (m w : ℕ) → ((x : Mutex) → (g x).owner ≡ Some w) → length tasks ≤ TASK_LIMIT → w < length tasks → lock_at tasks w ≡ None
    → AreLocks mutexes tasks → AreLocks (change g mutexes m) tasks
locks-owned g mutexes tasks m w h few there idle l =
    let owners = λ (n t : ℕ) (e : owner (change g mutexes m) n ≡ Some t). elim (owner-cases g mutexes m n w t h e) as (λ _. t < length tasks) [
      | inl is ↦ rw is there
      | inr was ↦ l.owners n t was
    ] in
    record {
      owners = owners;
      waited = λ u n e none. l.waited u n e (still-free g mutexes m n w h none);
      chains = low-again (change g mutexes m) tasks few owners
          (record { height = above w l.chains.height; falls = λ u t e. owned-falls g mutexes tasks m w u t (t == w) l h idle refl e });
      few = rw (length-change g mutexes m) l.few;
    }

-- ---- mutex m, for which none waits, is free
freed-none : (o : Option Mutex) → owner_of (option_map (λ mutex. freed mutex) o) ≡ None
freed-none None = refl
freed-none (Some x) = refl

pub freed-owner : (mutexes : List Mutex) (m n t : ℕ) → owner (change (λ mutex. freed mutex) mutexes m) n ≡ Some t → owner mutexes n ≡ Some t
freed-owner mutexes m n t e = elim (cases_eq n m) [
  | inl same ↦ let no : None ≡ Some t = sym (freed-none (slice_get mutexes m)) ∙ sym (owner-here (λ mutex. freed mutex) mutexes m) ∙ ap (owner (change (λ mutex. freed mutex) mutexes m)) (sym same) ∙ e in cc
  | inr other ↦ sym (owner-other (λ mutex. freed mutex) mutexes m n other) ∙ e
]

pub locks-freed : (mutexes : List Mutex) (tasks : List Task) (m : ℕ) → ((u : ℕ) → lock_at tasks u ≡ Some m → ⊥) → AreLocks mutexes tasks → AreLocks (change (λ mutex. freed mutex) mutexes m) tasks
locks-freed mutexes tasks m none l = record {
  owners = λ n t e. l.owners n t (freed-owner mutexes m n t e);
  waited = λ u n e free. elim (cases_eq n m) [
    | inl same ↦ none u (e ∙ ap (λ (x : ℕ). Some x) same)
    | inr other ↦ l.waited u n e (sym (owner-other (λ mutex. freed mutex) mutexes m n other) ∙ free)
  ];
  chains = fewer-keeps (waits_on mutexes tasks) (waits_on (change (λ mutex. freed mutex) mutexes m) tasks) TASK_LIMIT l.chains (λ u t e.
      let on = on-lock (change (λ mutex. freed mutex) mutexes m) tasks u t e in
      lock-on mutexes tasks u on.0 (Some t) on.1 (freed-owner mutexes m on.0 t on.2));
  few = rw (length-change (λ mutex. freed mutex) mutexes m) l.few;
}

-- ---- a mutex more
pub pushed-owner : (mutexes : List Mutex) (new : Mutex) (n t : ℕ) (o : Option Mutex) → new.owner ≡ None → slice_get (mutexes ++ new ∷ []) n ≡ o → owner_of o ≡ Some t → owner mutexes n ≡ Some t
pushed-owner mutexes new n t None free e h = cc
pushed-owner mutexes new n t (Some z) free e h = elim (slice_get-push mutexes new n z e) [
  | inl old ↦ ap owner_of old ∙ h
  | inr last ↦ let no : None ≡ Some t = sym free ∙ ap (λ (x : Mutex). x.owner) (sym last.1) ∙ h in cc
]

kept-owner : (mutexes : List Mutex) (new : Mutex) (n : ℕ) (o : Option Mutex) → slice_get mutexes n ≡ o → owner (mutexes ++ new ∷ []) n ≡ None → owner_of o ≡ None
kept-owner mutexes new n None e h = refl
kept-owner mutexes new n (Some z) e h = ap owner_of (sym (slice_get-before mutexes new n z e)) ∙ h

pub locks-push : (mutexes : List Mutex) (tasks : List Task) (new : Mutex) → new.owner ≡ None → length mutexes < MUTEX_LIMIT → AreLocks mutexes tasks → AreLocks (mutexes ++ new ∷ []) tasks
locks-push mutexes tasks new free room l = record {
  owners = λ n t e. l.owners n t (pushed-owner mutexes new n t (slice_get (mutexes ++ new ∷ []) n) free refl e);
  waited = λ u n e none. l.waited u n e (kept-owner mutexes new n (slice_get mutexes n) refl none);
  chains = fewer-keeps (waits_on mutexes tasks) (waits_on (mutexes ++ new ∷ []) tasks) TASK_LIMIT l.chains (λ u t e.
      let on = on-lock (mutexes ++ new ∷ []) tasks u t e in
      lock-on mutexes tasks u on.0 (Some t) on.1 (pushed-owner mutexes new on.0 t (slice_get (mutexes ++ new ∷ []) on.0) free refl on.2));
  few = omega (arith, room, length-append mutexes (new ∷ []));
}
