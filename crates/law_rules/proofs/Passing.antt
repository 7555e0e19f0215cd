-- A mutex passes on, and a task ends: each leaves the state good but for settling.
use Rattle.std.proofs.Common.{◌≡◌, ℕ, zero, suc, ◌<◌, List, Bool, true, false, Option, Some, None, length, refl, ap, sym, ◌∙◌, inl, inr, arith, eq-eqb}
use Rattle.std.specs.Prelude.{slice_get, if◌then◌else◌}
use Rattle.std.proofs.Math.Nat.{eq-or-lt_of_le}
use Rattle.std.proofs.lemmas.Bool.{cases_eq}
use Rattle.evm_model.specs.Boosts.{is_number}
use Rattle.evm_model.proofs.Lists.{change-here, change-elsewhere, length-change, slice_get-below}
use Rattle.evm_model.specs.Good.{IsOwn, AreLocks, AreEvents, event_of, event_at, is_ready}
use Rattle.evm_model.specs.Lists.{change}
use Rattle.evm_model.specs.Mutexes.{owner, owner_of, held_by, freed, lock_of, lock_of_task, lock_at, owns_below, owns_any}
use Rattle.evm_model.specs.Passing.{hand_over_to, hand_over, hand_over_below, end_task}
use Rattle.evm_model.specs.Pipes.{Pipe, set_stall}
use Rattle.evm_model.specs.Ranks.{rank, stamp}
use Rattle.evm_model.specs.State.{Parts, on_mutex, on_pipe}
use Rattle.evm_model.specs.Tasks.{restamp, set_state, leave_in_band}
use Rattle.evm_model.specs.Waits.{is_wait_for, awaits_task, awaits, first_waiter, wake, kept_of}
use Rattle.evm_model.specs.declared.mutex.Mutex.{Mutex}
use Rattle.evm_model.specs.declared.stage.Stage.TheVariants.{InBand}
use Rattle.evm_model.specs.declared.task.Task.{Task}
use Rattle.evm_model.specs.declared.task.TaskState.{TaskState}
use Rattle.evm_model.specs.declared.task.TaskState.TheVariants.{Waits}
use Rattle.evm_model.specs.declared.task.Wait.TheVariants.{Lock, Reacquire}
use Rattle.law_rules.proofs.Acting.{IsOpen, but-stirs, but-unstall, but-leave, but-gone, free-unstalled, open-in_band, own-deadlines, left, leave-open, leave-own}
use Rattle.law_rules.proofs.Firsts.{first-member, first-none, eqb-is}
use Rattle.law_rules.proofs.Locks.{option-owner}
use Rattle.law_rules.proofs.Settling.{GoodBut}
use Rattle.law_rules.proofs.Shapes.{IsShaped}
use Rattle.law_rules.proofs.Stirring.{Stirs, IsIdle, stirs-none, stirs-then, stirs-if, stirs-mutexes, stirs-owned, stirs-freed, given-stirs}
use Rattle.law_rules.proofs.Waking.{alike-own}

-- ---- mutexes change
pub but-mutexes : (c : ℕ) (k : Parts) (mutexes : List Mutex) → AreLocks mutexes k.tasks → AreEvents k.events mutexes k.tasks → GoodBut c k → GoodBut c (record k { mutexes = mutexes })
but-mutexes c k mutexes locks events g = but-stirs c k (record k { mutexes = mutexes }) (stirs-mutexes k mutexes locks events g.shape) g

-- task w, which waits for nothing, owns mutex m
pub but-owned : (c m w : ℕ) (f : Mutex → Mutex) (k : Parts) → ((x : Mutex) → (f x).owner ≡ Some w) → w < length k.tasks → lock_at k.tasks w ≡ None → event_at k.tasks w ≡ None → GoodBut c k → GoodBut c (on_mutex m f k)
but-owned c m w f k h there lock event g = but-stirs c k (on_mutex m f k) (stirs-owned m w f k h there lock event g.shape) g

-- ---- a task waits for a mutex if and only if its state says so
idle-waiter : (s : TaskState) (m : ℕ) → lock_of s ≡ Some m → is_ready s ≡ false
idle-waiter (Waits on) m e = refl
idle-waiter _ m e = cc

waiter-idle : (tasks : List Task) (t m : ℕ) → lock_at tasks t ≡ Some m → IsIdle t tasks
waiter-idle tasks t m e task h = idle-waiter task.state m (ap lock_of_task (sym h) ∙ e)

waiter-there : (tasks : List Task) (t m : ℕ) (o : Option Task) → slice_get tasks t ≡ o → lock_of_task o ≡ Some m → t < length tasks
waiter-there tasks t m None e h = cc
waiter-there tasks t m (Some task) e h = slice_get-below tasks t task e

lock-waits : (m : ℕ) (state : TaskState) → lock_of state ≡ Some m → is_wait_for (Lock m) state ≡ true
lock-waits m (Waits (Lock n)) e = let same : n ≡ m = cc in eq-eqb n m same
lock-waits m (Waits (Reacquire n answer)) e = let same : n ≡ m = cc in eq-eqb n m same
lock-waits m _ e = cc

waits-lock : (m : ℕ) (state : TaskState) → is_wait_for (Lock m) state ≡ true → lock_of state ≡ Some m
waits-lock m (Waits (Lock n)) e = ap (λ (x : ℕ). Some x) (eqb-is n m e)
waits-lock m (Waits (Reacquire n answer)) e = ap (λ (x : ℕ). Some x) (eqb-is n m e)
waits-lock m _ e = cc

waits-for : (m : ℕ) (o : Option Task) → lock_of_task o ≡ Some m → awaits_task (Lock m) o ≡ true
waits-for m None e = cc
waits-for m (Some x) e = lock-waits m x.state e

for-waits : (m : ℕ) (o : Option Task) → awaits_task (Lock m) o ≡ true → lock_of_task o ≡ Some m
for-waits m None e = cc
for-waits m (Some x) e = waits-lock m x.state e

none-waits : (m : ℕ) (k : Parts) → first_waiter (Lock m) k ≡ None → (u : ℕ) → lock_at k.tasks u ≡ Some m → ⊥
unfolding first_waiter
none-waits m k e u h =
    let not : awaits (Lock m) k.tasks u ≡ false = first-none (awaits (Lock m) k.tasks) (rank k.mutexes k.tasks) (stamp k.tasks) (length k.tasks) u e (waiter-there k.tasks u m (slice_get k.tasks u) refl h) in
    let no : true ≡ false = sym (waits-for m (slice_get k.tasks u) h) ∙ not in cc

pub first-locked : (m t : ℕ) (k : Parts) → first_waiter (Lock m) k ≡ Some t → (t < length k.tasks) × (lock_at k.tasks t ≡ Some m)
unfolding first_waiter
first-locked m t k e =
    let found = first-member (awaits (Lock m) k.tasks) (rank k.mutexes k.tasks) (stamp k.tasks) (length k.tasks) t e in
    (found.0, for-waits m (slice_get k.tasks t) found.1)

-- ---- a mutex passes on: the task that wakes waited for it
hand_over_to-stirs : (m : ℕ) (o : Option ℕ) (k : Parts) → first_waiter (Lock m) k ≡ o → IsShaped k → Stirs k (hand_over_to o m k)
hand_over_to-stirs m None k e s = stirs-freed m k (none-waits m k e) s
hand_over_to-stirs m (Some t) k e s = let found = first-locked m t k e in given-stirs t m (kept_of (slice_get k.tasks t)) k found.0 (waiter-idle k.tasks t m found.1) s

pub hand_over-stirs : (m : ℕ) (k : Parts) → IsShaped k → Stirs k (hand_over m k)
unfolding hand_over
hand_over-stirs m k s = hand_over_to-stirs m (first_waiter (Lock m) k) k refl s

pub hand_over_below-stirs : (t m : ℕ) (k : Parts) → IsShaped k → Stirs k (hand_over_below t m k)
unfolding hand_over_below
hand_over_below-stirs t zero k s = stirs-none k s
hand_over_below-stirs t (suc m) k s =
    let before : Parts = hand_over_below t m k in
    let so_far : Stirs k before = hand_over_below-stirs t m k s in
    stirs-then k before _ so_far (stirs-if (is_number (owner before.mutexes m) t) before (hand_over m before) before (λ e. hand_over-stirs m before so_far.shape) (λ e. stirs-none before so_far.shape))

-- ---- what a mutex that passes on leaves
to-events : (o : Option ℕ) (m : ℕ) (k : Parts) → (hand_over_to o m k).events ≡ k.events
unfolding wake restamp
to-events None m k = refl
to-events (Some t) m k = refl

to-mutexes : (o : Option ℕ) (m : ℕ) (k : Parts) → length (hand_over_to o m k).mutexes ≡ length k.mutexes
unfolding wake restamp
to-mutexes None m k = length-change (λ (mutex : Mutex). freed mutex) k.mutexes m
to-mutexes (Some t) m k = length-change (held_by t 1) k.mutexes m

pub hand_over-events : (m : ℕ) (k : Parts) → (hand_over m k).events ≡ k.events
unfolding hand_over
hand_over-events m k = to-events (first_waiter (Lock m) k) m k

pub hand_over-mutexes : (m : ℕ) (k : Parts) → length (hand_over m k).mutexes ≡ length k.mutexes
unfolding hand_over
hand_over-mutexes m k = to-mutexes (first_waiter (Lock m) k) m k

-- the owner of none but this mutex owns none after it
to-owner : (o : Option ℕ) (m n t : ℕ) (k : Parts) → (o ≡ Some t → ⊥) → owner (hand_over_to o m k).mutexes n ≡ Some t → owner (change (λ mutex. freed mutex) k.mutexes m) n ≡ Some t
unfolding wake restamp
to-owner None m n t k other e = e
to-owner (Some u) m n t k other e = elim (cases_eq n m) [
  | inl same ↦
      let here : owner (change (held_by u 1) k.mutexes m) m ≡ Some t = ap (owner (change (held_by u 1) k.mutexes m)) (sym same) ∙ e in
      let is : t ≡ u = option-owner (held_by u 1) (slice_get k.mutexes m) u t (λ x. refl) (ap owner_of (sym (change-here (held_by u 1) k.mutexes m)) ∙ here) in
      absurd (other (ap (λ (x : ℕ). Some x) (sym is)))
  | inr apart ↦ ap owner_of (change-elsewhere (λ (mutex : Mutex). freed mutex) k.mutexes m n apart) ∙ ap owner_of (sym (change-elsewhere (held_by u 1) k.mutexes m n apart)) ∙ e
]

pub hand_over-owner : (m n t : ℕ) (k : Parts) → lock_at k.tasks t ≡ None → owner (hand_over m k).mutexes n ≡ Some t → owner (change (λ mutex. freed mutex) k.mutexes m) n ≡ Some t
unfolding hand_over
hand_over-owner m n t k idle e =
    to-owner (first_waiter (Lock m) k) m n t k (λ h. let no : None ≡ Some m = sym idle ∙ (first-locked m t k h).1 in cc) e

-- a task that owns none
one-owned : (b c : Bool) → (if b then true else c) ≡ false → (b ≡ false) × (c ≡ false)
one-owned true c e = cc
one-owned false c e = (refl, e)

below-none : (t : ℕ) (mutexes : List Mutex) (n m : ℕ) → owns_below t mutexes n ≡ false → m < n → is_number (owner mutexes m) t ≡ false
unfolding owns_below
below-none t mutexes zero m e less = absurd (omega arith)
below-none t mutexes (suc n) m e less =
    let both = one-owned (is_number (owner mutexes n) t) (owns_below t mutexes n) e in
    elim (eq-or-lt_of_le {n = m} {m = n} (omega arith)) [
      | inl at ↦ ap (λ (x : ℕ). is_number (owner mutexes x) t) at ∙ both.0
      | inr under ↦ below-none t mutexes n m both.1 under
    ]

owner-there : (mutexes : List Mutex) (m t : ℕ) (o : Option Mutex) → slice_get mutexes m ≡ o → owner_of o ≡ Some t → m < length mutexes
owner-there mutexes m t None e h = cc
owner-there mutexes m t (Some x) e h = slice_get-below mutexes m x e

pub owns-none : (t : ℕ) (mutexes : List Mutex) → owns_any t mutexes ≡ false → (m : ℕ) → owner mutexes m ≡ Some t → ⊥
owns-none t mutexes e m h =
    let not : is_number (owner mutexes m) t ≡ false = below-none t mutexes (length mutexes) m e (owner-there mutexes m t (slice_get mutexes m) refl h) in
    let yes : is_number (owner mutexes m) t ≡ true = rw h (eq-eqb t t refl) in
    let no : true ≡ false = sym yes ∙ not in cc

-- ---- a task ends
pub end-but : (c t : ℕ) (state : TaskState) (k : Parts) → lock_of state ≡ None → event_of state ≡ None → IsOpen c k → GoodBut c k → IsOwn c t k.tasks → GoodBut c (end_task c t state k)
unfolding end_task set_state leave_in_band
end-but c t state k lock event f g o =
    let passed : Parts = hand_over_below t (length k.mutexes) k in
    let p : Stirs k passed = hand_over_below-stirs t (length k.mutexes) k g.shape in
    let opened : IsOpen c passed = record { open_there = λ pipe e. f.open_there pipe (ap (λ (pipes : List Pipe). slice_get pipes c) (sym p.pipes) ∙ e) } in
    let own : IsOwn c t passed.tasks = alike-own c t k.tasks passed.tasks (p.alike c) o in
    let free : Parts = on_pipe c (set_stall InBand false) passed in
    let ends : Task → Task = λ task. record task { state = state } in
    but-gone c t ends (leave_in_band c free) (λ x. refl) (λ x. refl) (λ x. lock) (λ x. event) (own-deadlines c t ends passed.tasks own (λ x. refl) p.shape.deadlines)
    (left c free) (leave-open c free (open-in_band c false passed opened)) (leave-own c c t free own)
    (but-leave c free (free-unstalled c passed) (but-unstall c passed (but-stirs c k passed p g)))
