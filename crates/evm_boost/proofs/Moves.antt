-- What a changed task leaves to be mended.
use Rattle.std.proofs.Common.{◌≡◌, ℕ, zero, suc, ◌+◌, ◌<◌, ◌≤◌, List, [], ◌∷◌, ◌++◌, Option, Some, None, Bool, true, false, length, refl, ap, sym, ◌∙◌, inl, inr, arith, add-one, eq-eqb}
use Rattle.std.specs.Prelude.{◌==◌, ◌&&◌, if◌then◌else◌, nat_lt, not, map, option_map, slice_get}
use Rattle.std.proofs.lemmas.Bool.Decides.{eqb_tells, nat_tests}
use Rattle.std.proofs.lemmas.List.{length-append}
use Rattle.evm_boost.proofs.Entries.{as-entered, entered-by, entered-change, entered-push, entered-same}
use Rattle.evm_boost.proofs.Settled.{away, scheduled-settled, settling, sound-falls, sound-fewer}
use Rattle.evm_boost.specs.Scatter.{class_rank_at}
use Rattle.evm_boost.specs.Scheduled.{Scheduled, IsScheduled, AreSoundBoosts}
use Rattle.evm_boost.specs.Settling.{entered_as, IsOpen, IsRelinked, IsSettling, fallen_owner, raised_heir, stamped}
use Rattle.evm_model.proofs.Mending.{link-covered, link-fewer}
use Rattle.evm_model.proofs.Relinks.{relink-keeps}
use Rattle.evm_model.specs.Mending.{no_task, with_task}
use Rattle.evm_model.proofs.Lists.{change-elsewhere, change-here, length-change, same_elements}
use Rattle.evm_model.specs.Lists.{change}
use Rattle.evm_model.specs.Mutexes.{boosts, heir_for, lock_at, lock_of, lock_of_task, ceiling_owner, ceiling}
use Rattle.evm_model.specs.Ranks.{class_rank, class_rank_of, own_rank}
use Rattle.evm_model.specs.declared.limits.TheConstants.{TASK_LIMIT}
use Rattle.evm_model.specs.declared.mutex.Mutex.{Mutex}
use Rattle.evm_model.specs.Waits.{ready_on, stage_of_wait, woken, woken_state}
use Rattle.evm_model.specs.Tasks.{is_weak}
use Rattle.evm_model.specs.declared.stage.Stage.{Stage}
use Rattle.evm_model.specs.declared.stage.Stage.TheVariants.{OutOfBand, InBand}
use Rattle.evm_model.specs.declared.task.Task.{Task}
use Rattle.evm_model.specs.declared.task.TaskState.{TaskState}
use Rattle.evm_model.specs.declared.task.TaskState.TheVariants.{InReady, OobReady, Waits, Exit, Faulted}
use Rattle.evm_model.specs.declared.task.Wait.{Wait}
use Rattle.evm_model.proofs.Least.{greatest-links}
use Rattle.evm_model.proofs.Greatest.{greatest-first, greatest-same}
use Rattle.evm_model.specs.Boosts.{greatest, is_number}
use Rattle.evm_ready.specs.ListedRanks.{listed_rank, rank_or_0}
use Rattle.evm_ready.specs.Places.{ready_place}
use Rattle.evm_ready.specs.declared.place.Place.{Place}
use Rattle.evm_wait.specs.Waiters.{awaited, awaited_in}
use Rattle.evm_wait.specs.declared.waiter.Waiter.{Waiter}

-- ---- what a change of tasks keeps
-- a task waits for the same mutex
abbrev pub KeepsLocks : (Task → Task) → Type 0
KeepsLocks f = (task : Task) → lock_of (f task).state ≡ lock_of task.state

-- it has the same class and priority
abbrev pub KeepsClasses : (Task → Task) → Type 0
KeepsClasses f = (task : Task) → class_rank (f task).class (f task).priority ≡ class_rank task.class task.priority

lock-kept : (f : Task → Task) (o : Option Task) → KeepsLocks f → lock_of_task (option_map f o) ≡ lock_of_task o
lock-kept f None keeps = refl
lock-kept f (Some task) keeps = keeps task

class-kept : (f : Task → Task) (o : Option Task) → KeepsClasses f → class_rank_of (option_map f o) ≡ class_rank_of o
class-kept f None keeps = refl
class-kept f (Some task) keeps = keeps task

locks-kept : (f : Task → Task) (tasks : List Task) (t u : ℕ) → KeepsLocks f → lock_at (change f tasks t) u ≡ lock_at tasks u
locks-kept f tasks t u keeps = elim (eqb_tells u t) [
  | inl g ↦ rw g.1 (ap lock_of_task (change-here f tasks t) ∙ lock-kept f (slice_get tasks t) keeps)
  | inr g ↦ ap lock_of_task (change-elsewhere f tasks t u g.1)
]

classes-kept : (f : Task → Task) (tasks : List Task) (t u : ℕ) → KeepsClasses f → class_rank_of (slice_get (change f tasks t) u) ≡ class_rank_of (slice_get tasks u)
classes-kept f tasks t u keeps = elim (eqb_tells u t) [
  | inl g ↦ rw g.1 (ap class_rank_of (change-here f tasks t) ∙ class-kept f (slice_get tasks t) keeps)
  | inr g ↦ ap class_rank_of (change-elsewhere f tasks t u g.1)
]

-- the own rank follows from the class
pub own-class : (mutexes : List Mutex) (tasks new : List Task) (u : ℕ) → class_rank_of (slice_get new u) ≡ class_rank_of (slice_get tasks u) → own_rank mutexes new u ≡ own_rank mutexes tasks u
unfolding own_rank
own-class mutexes tasks new u e = ap (λ (first : ℕ). greatest (ceiling_owner mutexes) (ceiling mutexes) u first (length mutexes)) e

-- whom it boosts follows from the lock
pub boosts-lock : (mutexes : List Mutex) (tasks new : List Task) (u : ℕ) → lock_at new u ≡ lock_at tasks u → boosts mutexes new u ≡ boosts mutexes tasks u
boosts-lock mutexes tasks new u e = ap (heir_for mutexes) e

-- ---- another link of a task
pub relinked : (s next : Scheduled) (mutexes : List Mutex) (f : Task → Task) (tasks new : List Task) (t : ℕ) (before : Option ℕ) → KeepsClasses f
    → IsScheduled s mutexes tasks → new ≡ change f tasks t → before ≡ boosts mutexes tasks t
    → next.places ≡ entered_as ready_place (slice_get new t) t s.places → next.waiters ≡ entered_as awaited (slice_get new t) t s.waiters → next.ranks ≡ s.ranks → next.sound ≡ s.sound
    → IsRelinked next mutexes new t before
relinked s next mutexes f tasks new t before keeps is e boosted place waiter ranks sound = record {
  was = s;
  last = tasks;
  scheduled = is;
  entered = entered-change s next f tasks new t is.entered e place waiter ranks;
  ranks = ranks;
  sound = sound;
  count = ap length e ∙ length-change f tasks t;
  others = λ u other. boosts-lock mutexes tasks new u (ap lock_of_task (ap (λ (xs : List Task). slice_get xs u) e ∙ change-elsewhere f tasks t u other));
  own = λ u. own-class mutexes tasks new u (ap (λ (xs : List Task). class_rank_of (slice_get xs u)) e ∙ classes-kept f tasks t u keeps);
  boosted = boosted;
}

map-twice : {X : Type 0} (f g : X → X) (o : Option X) → option_map f (option_map g o) ≡ option_map (λ x. f (g x)) o
map-twice f g None = refl
map-twice f g (Some x) = refl

change-twice : {X : Type 0} (f g : X → X) (xs : List X) (i : ℕ) → change f (change g xs i) i ≡ change (λ x. f (g x)) xs i
change-twice {X = X} f g xs i = same_elements (change f (change g xs i) i) (change (λ (x : X). f (g x)) xs i) (λ j. elim (eqb_tells j i) [
  | inl same ↦ rw same.1
      (change-here f (change g xs i) i ∙ ap (option_map f) (change-here g xs i) ∙ map-twice f g (slice_get xs i) ∙ sym (change-here (λ (x : X). f (g x)) xs i))
  | inr other ↦ change-elsewhere f (change g xs i) i j other.1 ∙ change-elsewhere g xs i j other.1 ∙ sym (change-elsewhere (λ (x : X). f (g x)) xs i j other.1)
])

-- the same where the task has another stamp too
pub relinked-stamped : (s next : Scheduled) (mutexes : List Mutex) (f : Task → Task) (tasks mid new : List Task) (t stamp : ℕ) (before : Option ℕ) → KeepsClasses f
    → IsScheduled s mutexes tasks → mid ≡ change f tasks t → new ≡ change (stamped stamp) mid t → before ≡ boosts mutexes tasks t
    → next.places ≡ entered_as ready_place (slice_get new t) t s.places → next.waiters ≡ entered_as awaited (slice_get new t) t s.waiters → next.ranks ≡ s.ranks → next.sound ≡ s.sound
    → IsRelinked next mutexes new t before
relinked-stamped s next mutexes f tasks mid new t stamp before keeps is e g boosted place waiter ranks sound =
    relinked s next mutexes (λ task. stamped stamp (f task)) tasks new t before keeps is
    (g ∙ ap (λ (xs : List Task). change (stamped stamp) xs t) e ∙ change-twice (stamped stamp) f tasks t) boosted place waiter ranks sound

-- a task that waits is ready nowhere, and waits for what it says
pub wait-places : (wait : Wait) (deadline stamp : ℕ) (tasks mid new : List Task) (t : ℕ) (places : List (Option Place)) → places ≡ map ready_place tasks
    → mid ≡ change (λ task. record task { state = Waits wait; deadline = deadline }) tasks t → new ≡ change (stamped stamp) mid t
    → change (λ _. None) places t ≡ entered_as ready_place (slice_get new t) t places
wait-places wait deadline stamp tasks mid new t places are e g =
    as-entered ready_place (λ task. stamped stamp (record task { state = Waits wait; deadline = deadline })) (λ _. None) tasks new t places (λ task. refl) are
    (g ∙ ap (λ (xs : List Task). change (stamped stamp) xs t) e ∙ change-twice (stamped stamp) (λ task. record task { state = Waits wait; deadline = deadline }) tasks t)

pub wait-waiters : (wait : Wait) (deadline stamp : ℕ) (tasks mid new : List Task) (t : ℕ) (waiters : List (Option Waiter)) → waiters ≡ map awaited tasks
    → mid ≡ change (λ task. record task { state = Waits wait; deadline = deadline }) tasks t → new ≡ change (stamped stamp) mid t
    → change (λ _. Some (record { wait = wait; stamp = stamp })) waiters t ≡ entered_as awaited (slice_get new t) t waiters
wait-waiters wait deadline stamp tasks mid new t waiters are e g =
    as-entered awaited (λ task. stamped stamp (record task { state = Waits wait; deadline = deadline })) (λ _. Some (record { wait = wait; stamp = stamp })) tasks new t waiters
    (λ task. refl) are
    (g ∙ ap (λ (xs : List Task). change (stamped stamp) xs t) e ∙ change-twice (stamped stamp) (λ task. record task { state = Waits wait; deadline = deadline }) tasks t)

-- a task that has woken waits for nothing
ready-awaits : (stage : Stage) (returns : Bool) (stamp : ℕ) → awaited_in (ready_on stage returns) stamp ≡ None
ready-awaits OutOfBand true stamp = refl
ready-awaits OutOfBand false stamp = refl
ready-awaits InBand true stamp = refl
ready-awaits InBand false stamp = refl

woken-awaits : (returns : Bool) (state : TaskState) (stamp : ℕ) → awaited_in (woken_state returns state) stamp ≡ None
woken-awaits returns InReady stamp = refl
woken-awaits returns OobReady stamp = refl
woken-awaits returns (Waits wait) stamp = ready-awaits (stage_of_wait wait) returns stamp
woken-awaits returns Exit stamp = refl
woken-awaits returns (Faulted fault) stamp = refl

pub woken-waiters : (owns : Bool) (stamp : ℕ) (tasks mid new : List Task) (t : ℕ) (waiters : List (Option Waiter)) → waiters ≡ map awaited tasks
    → mid ≡ change (woken owns) tasks t → new ≡ change (stamped stamp) mid t → change (λ _. None) waiters t ≡ entered_as awaited (slice_get new t) t waiters
woken-waiters owns stamp tasks mid new t waiters are e g =
    as-entered awaited (λ task. stamped stamp (woken owns task)) (λ _. None) tasks new t waiters
    (λ task. woken-awaits (is_weak task.class && not owns) task.state stamp) are
    (g ∙ ap (λ (xs : List Task). change (stamped stamp) xs t) e ∙ change-twice (stamped stamp) (woken owns) tasks t)

-- .. and boosts nobody
ready-locks : (stage : Stage) (returns : Bool) → lock_of (ready_on stage returns) ≡ None
ready-locks OutOfBand true = refl
ready-locks OutOfBand false = refl
ready-locks InBand true = refl
ready-locks InBand false = refl

woken-locks : (returns : Bool) (state : TaskState) → lock_of (woken_state returns state) ≡ None
woken-locks returns InReady = refl
woken-locks returns OobReady = refl
woken-locks returns (Waits wait) = ready-locks (stage_of_wait wait) returns
woken-locks returns Exit = refl
woken-locks returns (Faulted fault) = refl

task-locks : (owns : Bool) (stamp : ℕ) (o : Option Task) → lock_of_task (option_map (λ task. stamped stamp (woken owns task)) o) ≡ None
task-locks owns stamp None = refl
task-locks owns stamp (Some task) = woken-locks (is_weak task.class && not owns) task.state

pub woken-alone : (owns : Bool) (stamp : ℕ) (mutexes : List Mutex) (tasks mid new : List Task) (t : ℕ) → mid ≡ change (woken owns) tasks t → new ≡ change (stamped stamp) mid t
    → boosts mutexes new t ≡ None
woken-alone owns stamp mutexes tasks mid new t e g =
    let is : new ≡ change (λ task. stamped stamp (woken owns task)) tasks t =
    g ∙ ap (λ (xs : List Task). change (stamped stamp) xs t) e ∙ change-twice (stamped stamp) (woken owns) tasks t in
    ap (heir_for mutexes)
    (ap (λ (xs : List Task). lock_at xs t) is ∙ ap lock_of_task (change-here (λ task. stamped stamp (woken owns task)) tasks t) ∙ task-locks owns stamp (slice_get tasks t))

pub out-first : (o : Option ℕ) (rest : ℕ → Bool) (u : ℕ) → with_task o rest u ≡ false → is_number o u ≡ false
out-first o rest u e = by (is_number o u) refl
  where
    by : (b : Bool) → is_number o u ≡ b → is_number o u ≡ false
    by true is = let no : true ≡ false = rw is at e in cc
    by false is = is

pub out-second : (o : Option ℕ) (rest : ℕ → Bool) (u : ℕ) → with_task o rest u ≡ false → rest u ≡ false
out-second o rest u e = by (is_number o u) refl
  where
    by : (b : Bool) → is_number o u ≡ b → rest u ≡ false
    by true is = let no : true ≡ false = rw is at e in cc
    by false is = rw is at e

relink-links : (mutexes : List Mutex) (tasks new : List Task) (t u v : ℕ) (before heir : Option ℕ) → ((x : ℕ) → (x ≡ t → ⊥) → boosts mutexes new x ≡ boosts mutexes tasks x)
    → before ≡ boosts mutexes tasks t → heir ≡ boosts mutexes new t → is_number before u ≡ false → is_number heir u ≡ false
    → is_number (boosts mutexes tasks v) u ≡ is_number (boosts mutexes new v) u
relink-links mutexes tasks new t u v before heir others boosted now out also = elim (eqb_tells v t) [
  | inl g ↦
      let was : is_number (boosts mutexes tasks v) u ≡ false = rw g.1 (rw (← boosted) out) in
      let is : is_number (boosts mutexes new v) u ≡ false = rw g.1 (rw (← now) also) in
      was ∙ sym is
  | inr g ↦ ap (λ (o : Option ℕ). is_number o u) (sym (others v g.1))
]

relink-inside : (mutexes : List Mutex) (tasks new : List Task) (t : ℕ) (heir : Option ℕ) → AreSoundBoosts mutexes tasks → length new ≡ length tasks
    → ((x : ℕ) → (x ≡ t → ⊥) → boosts mutexes new x ≡ boosts mutexes tasks x) → heir ≡ boosts mutexes new t → ((u : ℕ) → heir ≡ Some u → u < length new)
    → (u v : ℕ) → boosts mutexes new u ≡ Some v → v < length new
relink-inside mutexes tasks new t heir is count others now low u v e = elim (eqb_tells u t) [
  | inl g ↦ low v (now ∙ ap (boosts mutexes new) (sym g.1) ∙ e)
  | inr g ↦ let less = is.inside u v (sym (others u g.1) ∙ e) in omega (arith, less, count)
]

other-number : (x t : ℕ) → (x == t) ≡ false → (x ≡ t → ⊥)
other-number x t e same = let yes : (x == t) ≡ true = rw same (eq-eqb t t refl) in let no : true ≡ false = sym yes ∙ e in cc

-- it closes no chain
relink-sound : (mutexes : List Mutex) (tasks new : List Task) (t : ℕ) (heir : Option ℕ) → AreSoundBoosts mutexes tasks → length new ≡ length tasks
    → ((x : ℕ) → (x ≡ t → ⊥) → boosts mutexes new x ≡ boosts mutexes tasks x) → heir ≡ boosts mutexes new t → ((u : ℕ) → heir ≡ Some u → IsOpen mutexes new t u) → AreSoundBoosts mutexes new
relink-sound mutexes tasks new t None is count others now opens =
    sound-fewer mutexes mutexes tasks new (omega (arith, count)) is
    (λ u v e. elim (eqb_tells u t) [
      | inl g ↦ let no : None ≡ Some v = now ∙ ap (boosts mutexes new) (sym g.1) ∙ e in cc
      | inr g ↦ sym (others u g.1) ∙ e
    ])
relink-sound mutexes tasks new t (Some heir) is count others now opens =
    sound-falls mutexes new (opens heir refl).few
    (relink-inside mutexes tasks new t (Some heir) is count others now (λ u e. (opens u e).below))
    (relink-keeps (boosts mutexes tasks) (boosts mutexes new) TASK_LIMIT t heir is.height (λ x e. others x (other-number x t e)) (sym now)
    (away mutexes new t heir (opens heir refl).away))

pub relink-settling : (s next : Scheduled) (mutexes : List Mutex) (tasks : List Task) (t : ℕ) (before heir : Option ℕ) → IsRelinked s mutexes tasks t before → heir ≡ boosts mutexes tasks t
    → next.places ≡ s.places → next.waiters ≡ s.waiters → next.ranks ≡ s.ranks
    → (next.sound ≡ true → s.sound ≡ true) → (next.sound ≡ true → (u : ℕ) → heir ≡ Some u → IsOpen mutexes tasks t u)
    → IsSettling (with_task before (with_task heir no_task)) next mutexes tasks
relink-settling s next mutexes tasks t before heir is now places waiters ranks was opens =
    settling (with_task before (with_task heir no_task)) is.was next mutexes mutexes is.last tasks is.scheduled
    (entered-by s next tasks is.entered places waiters ranks)
    (ranks ∙ is.ranks) is.count (λ yes. sym is.sound ∙ was yes)
    (λ yes. relink-sound mutexes is.last tasks t heir (is.scheduled.sound (sym is.sound ∙ was yes)) is.count is.others now (opens yes))
    (λ yes u out. is.own u)
    (λ yes u v out. relink-links mutexes is.last tasks t u v before heir is.others is.boosted now
    (out-first before (with_task heir no_task) u out) (out-first heir no_task u (out-second before (with_task heir no_task) u out)))

-- the heir of a task that ranks no higher has its rank
heir-settled : (s next : Scheduled) (mutexes : List Mutex) (tasks : List Task) (t u : ℕ) (before : Option ℕ) → IsRelinked s mutexes tasks t before → boosts mutexes tasks t ≡ Some u
    → next.ranks ≡ s.ranks → s.sound ≡ true → listed_rank next.ranks t ≤ listed_rank next.ranks u → u < length tasks
    → listed_rank next.ranks u ≡ greatest (boosts mutexes tasks) (listed_rank next.ranks) u (own_rank mutexes tasks u) (length tasks)
heir-settled s next mutexes tasks t u before is link ranks sound low less =
    let count = is.count in
    let was : listed_rank next.ranks u ≡ greatest (boosts mutexes is.last) (listed_rank next.ranks) u (own_rank mutexes tasks u) (length tasks) =
    rw (ranks ∙ is.ranks, is.count, is.own u) (scheduled-settled is.was mutexes is.last is.scheduled (sym is.sound ∙ sound) u (omega (arith, less, count))) in
    link-covered (boosts mutexes is.last) (boosts mutexes tasks) (listed_rank next.ranks) t u (own_rank mutexes tasks u) (length tasks) is.others link low was

pub not-less : (a b : ℕ) → nat_lt a b ≡ false → b ≤ a
not-less a b e = grind (arith, nat_tests)

still-out : (before : Option ℕ) (u v : ℕ) → (v ≡ u → ⊥) → is_number before v ≡ false → with_task before (with_task (Some u) no_task) v ≡ false
still-out before u v other out = elim (eqb_tells u v) [
  | inl g ↦ absurd (other (sym g.1))
  | inr g ↦ rw (out, g.0) refl
]

-- so it is left only where the task may raise it
pub raised-settling : (s next : Scheduled) (mutexes : List Mutex) (tasks : List Task) (t : ℕ) (before heir : Option ℕ) → IsRelinked s mutexes tasks t before → heir ≡ boosts mutexes tasks t
    → next.ranks ≡ s.ranks → (next.sound ≡ true → s.sound ≡ true)
    → IsSettling (with_task before (with_task heir no_task)) next mutexes tasks → IsSettling (with_task before (with_task (raised_heir next.ranks t heir) no_task)) next mutexes tasks
raised-settling s next mutexes tasks t before None is now ranks was left = left
raised-settling s next mutexes tasks t before (Some u) is now ranks was left = by (nat_lt (listed_rank next.ranks u) (listed_rank next.ranks t)) refl
  where
    by : (b : Bool) → nat_lt (listed_rank next.ranks u) (listed_rank next.ranks t) ≡ b → IsSettling (with_task before (with_task (if b then Some u else None) no_task)) next mutexes tasks
    by true e = left
    by false e = record {
      entered = left.entered;
      sound = left.sound;
      settled = λ yes. record {
        settled = λ v less out. elim (eqb_tells v u) [
          | inl g ↦
              rw g.1
              (heir-settled s next mutexes tasks t u before is (sym now) ranks (was yes) (not-less (listed_rank next.ranks u) (listed_rank next.ranks t) e) (rw g.1 at less))
          | inr g ↦ (left.settled yes).settled v less (still-out before u v g.1 (out-first before (with_task None no_task) v out))
        ];
      };
    }

-- ---- a task that may fall
-- its own rank is at least that of its class
pub own-least : (mutexes : List Mutex) (tasks : List Task) (u : ℕ) → class_rank_at tasks u ≤ own_rank mutexes tasks u
unfolding own_rank
own-least mutexes tasks u = greatest-first (ceiling_owner mutexes) (ceiling mutexes) u (class_rank_of (slice_get tasks u)) (length mutexes)

-- it is left only where it ranks above its class, if it has its rank else
pub fallen-left : (next : Scheduled) (mutexes : List Mutex) (tasks : List Task) (before : Option ℕ)
    → ((u : ℕ) → before ≡ Some u → next.sound ≡ true → listed_rank next.ranks u ≤ class_rank_at tasks u → u < length tasks
    → listed_rank next.ranks u ≡ greatest (boosts mutexes tasks) (listed_rank next.ranks) u (own_rank mutexes tasks u) (length tasks))
    → IsSettling (with_task before (with_task None no_task)) next mutexes tasks → IsSettling (with_task (fallen_owner next.ranks tasks before) (with_task None no_task)) next mutexes tasks
fallen-left next mutexes tasks None right left = left
fallen-left next mutexes tasks (Some u) right left = by (nat_lt (class_rank_at tasks u) (listed_rank next.ranks u)) refl
  where
    by : (b : Bool) → nat_lt (class_rank_at tasks u) (listed_rank next.ranks u) ≡ b → IsSettling (with_task (if b then Some u else None) (with_task None no_task)) next mutexes tasks
    by true low = left
    by false low = record {
      entered = left.entered;
      sound = left.sound;
      settled = λ yes. record {
        settled = λ v less out. elim (eqb_tells u v) [
          | inl g ↦ rw (← g.1) (right u refl yes (not-less (class_rank_at tasks u) (listed_rank next.ranks u) low) (rw (← g.1) at less))
          | inr g ↦ (left.settled yes).settled v less (rw g.0 refl)
        ];
      };
    }

-- the task that a task boosted which boosts nobody now
unlinked-settled : (s : Scheduled) (mutexes : List Mutex) (tasks : List Task) (t u : ℕ) (before : Option ℕ) → IsRelinked s mutexes tasks t before → boosts mutexes tasks t ≡ None
    → s.sound ≡ true → listed_rank s.ranks u ≤ class_rank_at tasks u → u < length tasks
    → listed_rank s.ranks u ≡ greatest (boosts mutexes tasks) (listed_rank s.ranks) u (own_rank mutexes tasks u) (length tasks)
unlinked-settled s mutexes tasks t u before is none sound low less =
    let count = is.count in
    let was : listed_rank s.ranks u ≡ greatest (boosts mutexes is.last) (listed_rank s.ranks) u (own_rank mutexes tasks u) (length tasks) =
    rw (is.ranks, is.count, is.own u) (scheduled-settled is.was mutexes is.last is.scheduled (sym is.sound ∙ sound) u (omega (arith, less, count))) in
    link-fewer (boosts mutexes is.last) (boosts mutexes tasks) (listed_rank s.ranks) u (own_rank mutexes tasks u) (own_rank mutexes tasks u) (length tasks)
    (λ x e. elim (eqb_tells x t) [
      | inl g ↦ let no : None ≡ Some u = sym none ∙ ap (boosts mutexes tasks) (sym g.1) ∙ e in cc
      | inr g ↦ sym (is.others x g.1) ∙ e
    ])
    (omega arith)
    (let least = own-least mutexes tasks u in omega (arith, least, low))
    was

pub unlinked-settling : (s : Scheduled) (mutexes : List Mutex) (tasks : List Task) (t : ℕ) (before : Option ℕ) → IsRelinked s mutexes tasks t before → boosts mutexes tasks t ≡ None
    → IsSettling (with_task (fallen_owner s.ranks tasks before) (with_task None no_task)) s mutexes tasks
unlinked-settling s mutexes tasks t before is none =
    fallen-left s mutexes tasks before (λ u at sound low less. unlinked-settled s mutexes tasks t u before is none sound low less)
    (relink-settling s s mutexes tasks t before None is (sym none) refl refl refl (λ yes. yes) (λ yes u e. absurd cc))

-- ---- no link changes
-- a task changed in what bears on no link
pub still-settling : (s next : Scheduled) (mutexes : List Mutex) (f : Task → Task) (tasks new : List Task) (t : ℕ) → KeepsLocks f → KeepsClasses f
    → IsScheduled s mutexes tasks → new ≡ change f tasks t
    → next.places ≡ entered_as ready_place (slice_get new t) t s.places → next.waiters ≡ entered_as awaited (slice_get new t) t s.waiters → next.ranks ≡ s.ranks → next.sound ≡ s.sound
    → IsSettling (with_task None (with_task None no_task)) next mutexes new
still-settling s next mutexes f tasks new t locks classes is e place waiter ranks sound =
    let count : length new ≡ length tasks = ap length e ∙ length-change f tasks t in
    let links : (u : ℕ) → boosts mutexes new u ≡ boosts mutexes tasks u =
    λ u. boosts-lock mutexes tasks new u (ap (λ (xs : List Task). lock_at xs u) e ∙ locks-kept f tasks t u locks) in
    settling (with_task None (with_task None no_task)) s next mutexes mutexes tasks new is
    (entered-change s next f tasks new t is.entered e place waiter ranks)
    ranks count (λ yes. sym sound ∙ yes)
    (λ yes. sound-fewer mutexes mutexes tasks new (omega (arith, count)) (is.sound (sym sound ∙ yes)) (λ u v to. sym (links u) ∙ to))
    (λ yes u out. own-class mutexes tasks new u (ap (λ (xs : List Task). class_rank_of (slice_get xs u)) e ∙ classes-kept f tasks t u classes))
    (λ yes u v out. ap (λ (o : Option ℕ). is_number o u) (sym (links v)))

-- a task changed in what neither a link, nor a class, nor an entry says
pub same-settling : (s next : Scheduled) (mutexes : List Mutex) (f : Task → Task) (tasks new : List Task) (t : ℕ) → KeepsLocks f → KeepsClasses f
    → ((task : Task) → ready_place (f task) ≡ ready_place task) → ((task : Task) → awaited (f task) ≡ awaited task)
    → IsScheduled s mutexes tasks → new ≡ change f tasks t
    → next.places ≡ s.places → next.waiters ≡ s.waiters → next.ranks ≡ s.ranks → next.sound ≡ s.sound
    → IsSettling (with_task None (with_task None no_task)) next mutexes new
same-settling s next mutexes f tasks new t locks classes place_kept waiter_kept is e place waiter ranks sound =
    let count : length new ≡ length tasks = ap length e ∙ length-change f tasks t in
    let links : (u : ℕ) → boosts mutexes new u ≡ boosts mutexes tasks u =
    λ u. boosts-lock mutexes tasks new u (ap (λ (xs : List Task). lock_at xs u) e ∙ locks-kept f tasks t u locks) in
    settling (with_task None (with_task None no_task)) s next mutexes mutexes tasks new is
    (entered-same s next f tasks new t place_kept waiter_kept is.entered e place waiter ranks)
    ranks count (λ yes. sym sound ∙ yes)
    (λ yes. sound-fewer mutexes mutexes tasks new (omega (arith, count)) (is.sound (sym sound ∙ yes)) (λ u v to. sym (links u) ∙ to))
    (λ yes u out. own-class mutexes tasks new u (ap (λ (xs : List Task). class_rank_of (slice_get xs u)) e ∙ classes-kept f tasks t u classes))
    (λ yes u v out. ap (λ (o : Option ℕ). is_number o u) (sym (links v)))

-- ---- another class
pub out-other : (t u : ℕ) → is_number (Some t) u ≡ false → (u ≡ t → ⊥)
out-other t u e same = let yes : (t == u) ≡ true = rw same (eq-eqb t t refl) in let no : true ≡ false = sym yes ∙ e in cc

pub class-settling : (s next : Scheduled) (mutexes : List Mutex) (f : Task → Task) (tasks new : List Task) (t : ℕ) → KeepsLocks f
    → ((task : Task) → ready_place (f task) ≡ ready_place task) → ((task : Task) → awaited (f task) ≡ awaited task)
    → IsScheduled s mutexes tasks → new ≡ change f tasks t
    → next.places ≡ s.places → next.waiters ≡ s.waiters → next.ranks ≡ s.ranks → next.sound ≡ s.sound
    → IsSettling (with_task (Some t) (with_task None no_task)) next mutexes new
class-settling s next mutexes f tasks new t locks place_kept waiter_kept is e place waiter ranks sound =
    let count : length new ≡ length tasks = ap length e ∙ length-change f tasks t in
    let links : (u : ℕ) → boosts mutexes new u ≡ boosts mutexes tasks u =
    λ u. boosts-lock mutexes tasks new u (ap (λ (xs : List Task). lock_at xs u) e ∙ locks-kept f tasks t u locks) in
    settling (with_task (Some t) (with_task None no_task)) s next mutexes mutexes tasks new is
    (entered-same s next f tasks new t place_kept waiter_kept is.entered e place waiter ranks)
    ranks count (λ yes. sym sound ∙ yes)
    (λ yes. sound-fewer mutexes mutexes tasks new (omega (arith, count)) (is.sound (sym sound ∙ yes)) (λ u v to. sym (links u) ∙ to))
    (λ yes u out. own-class mutexes tasks new u
    (ap (λ (xs : List Task). class_rank_of (slice_get xs u)) e ∙ ap class_rank_of (change-elsewhere f tasks t u (out-other t u (out-first (Some t) (with_task None no_task) u out)))))
    (λ yes u v out. ap (λ (o : Option ℕ). is_number o u) (sym (links v)))

-- ---- one task more
pub slice_get-other : {X : Type 0} (xs : List X) (y : X) (j : ℕ) → (j ≡ length xs → ⊥) → slice_get (xs ++ y ∷ []) j ≡ slice_get xs j
slice_get-other [] y zero other = absurd (other refl)
slice_get-other [] y (suc j) other = refl
slice_get-other (x ∷ xs) y zero other = refl
slice_get-other (x ∷ xs) y (suc j) other = slice_get-other xs y j (λ same. other (omega (arith, same)))

push-step : (boosts : ℕ → Option ℕ) (rank : ℕ → ℕ) (t first n : ℕ) → boosts n ≡ None → greatest boosts rank t first (n + 1) ≡ greatest boosts rank t first n
unfolding greatest
push-step boosts rank t first n none = rw (add-one, none) refl

push-rank : (mutexes : List Mutex) (tasks new : List Task) (task : Task) (ranks more : List ℕ) (u : ℕ) → new ≡ tasks ++ task ∷ [] → more ≡ ranks ++ 0 ∷ [] → length ranks ≡ length tasks
    → boosts mutexes new (length tasks) ≡ None → u < length tasks
    → listed_rank ranks u ≡ greatest (boosts mutexes tasks) (listed_rank ranks) u (own_rank mutexes tasks u) (length tasks)
    → listed_rank more u ≡ greatest (boosts mutexes new) (listed_rank more) u (own_rank mutexes new u) (length new)
push-rank mutexes tasks new task ranks more u e f count none less settled =
    let same : (v : ℕ) → v < length tasks → slice_get new v ≡ slice_get tasks v = λ v below. ap (λ (xs : List Task). slice_get xs v) e ∙ slice_get-other tasks task v (λ is. omega (arith, is, below)) in
    let stays : (v : ℕ) → v < length tasks → listed_rank more v ≡ listed_rank ranks v =
    λ v below. ap (λ (xs : List ℕ). listed_rank xs v) f ∙ ap rank_or_0 (slice_get-other ranks 0 v (λ is. omega (arith, is, below, count))) in
    let long : length new ≡ length tasks + 1 = ap length e ∙ length-append tasks (task ∷ []) in
    stays u less
    ∙ settled
    ∙ greatest-links (boosts mutexes tasks) (boosts mutexes new) (listed_rank ranks) u (own_rank mutexes tasks u) (length tasks)
    (λ v below. ap (λ (o : Option ℕ). is_number o u) (sym (boosts-lock mutexes tasks new v (ap lock_of_task (same v below)))))
    ∙ greatest-same (boosts mutexes new) (listed_rank ranks) (listed_rank more) u (own_rank mutexes tasks u) (length tasks) (λ v below to. sym (stays v below))
    ∙ ap (λ (first : ℕ). greatest (boosts mutexes new) (listed_rank more) u first (length tasks)) (sym (own-class mutexes tasks new u (ap class_rank_of (same u less))))
    ∙ sym (push-step (boosts mutexes new) (listed_rank more) u (own_rank mutexes new u) (length tasks) none)
    ∙ ap (greatest (boosts mutexes new) (listed_rank more) u (own_rank mutexes new u)) (sym long)

push-links : (mutexes : List Mutex) (tasks new : List Task) (task : Task) → new ≡ tasks ++ task ∷ [] → boosts mutexes new (length tasks) ≡ None
    → (u v : ℕ) → boosts mutexes new u ≡ Some v → boosts mutexes tasks u ≡ Some v
push-links mutexes tasks new task e none u v to = elim (eqb_tells u (length tasks)) [
  | inl g ↦ let no : boosts mutexes new u ≡ None = rw g.1 none in cc
  | inr g ↦ sym (boosts-lock mutexes tasks new u (ap lock_of_task (ap (λ (xs : List Task). slice_get xs u) e ∙ slice_get-other tasks task u g.1))) ∙ to
]

pub push-settling : (s next : Scheduled) (mutexes : List Mutex) (tasks new : List Task) (task : Task) → IsScheduled s mutexes tasks → new ≡ tasks ++ task ∷ []
    → next.places ≡ s.places ++ ready_place task ∷ [] → next.waiters ≡ s.waiters ++ awaited task ∷ [] → next.ranks ≡ s.ranks ++ 0 ∷ []
    → (next.sound ≡ true → s.sound ≡ true) → (next.sound ≡ true → boosts mutexes new (length tasks) ≡ None)
    → IsSettling (with_task (Some (length tasks)) (with_task None no_task)) next mutexes new
push-settling s next mutexes tasks new task is e place waiter ranks was alone =
    let long : length new ≡ length tasks + 1 = ap length e ∙ length-append tasks (task ∷ []) in
    record {
      entered = entered-push s next tasks new task 0 is.entered e place waiter ranks;
      sound = λ yes. sound-fewer mutexes mutexes tasks new (omega (arith, long)) (is.sound (was yes)) (push-links mutexes tasks new task e (alone yes));
      settled = λ yes. record {
        settled = λ u less out.
            let other = out-other (length tasks) u (out-first (Some (length tasks)) (with_task None no_task) u out) in
            let below : u < length tasks = omega (arith, less, long, other) in
            push-rank mutexes tasks new task s.ranks next.ranks u e ranks is.entered.count (alone yes) below (scheduled-settled s mutexes tasks is (was yes) u below);
      };
    }
