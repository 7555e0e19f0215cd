-- What a walk adds: a task, a mutex, a byte on the console at most; and the places of other processors.
use Rattle.std.proofs.Common.{◌≡◌, ℕ, ◌+◌, ◌<◌, [], ◌∷◌, ◌++◌, List, Bool, true, false, Option, Some, None, length, length-append, ◌⊎◌, inl, inr, refl, ap, sym, ◌∙◌, arith}
use Rattle.std.specs.Prelude.{slice_get, slice_set, replicate, option_map, ◌==◌, ◌&&◌, if◌then◌else◌}
use Rattle.std.proofs.lemmas.List.{length-set, length-replicate}
use Rattle.evm_exec.specs.Registers.{with_register}
use Rattle.evm_exec.specs.declared.hart.Hart.{Hart}
use Rattle.evm_model.specs.Commands.{tick}
use Rattle.evm_model.specs.Harts.{A0, set_register, spawned_hart}
use Rattle.evm_model.specs.InBandCalls.{last_bytes}
use Rattle.evm_model.specs.Lists.{change}
use Rattle.evm_model.specs.Mutexes.{free_mutex, held_by}
use Rattle.evm_model.specs.Pipes.{Pipe, raise}
use Rattle.evm_model.specs.Ranks.{is_oob_ready, runs_oob_task}
use Rattle.evm_model.specs.Settle.{is_oob, is_oob_task}
use Rattle.evm_model.specs.OobCalls.{move_task}
use Rattle.evm_model.specs.State.{Parts, new_task}
use Rattle.evm_model.specs.Tasks.{restamp, set_state, set_policy, set_slice}
use Rattle.evm_model.specs.Waits.{wake, begin_wait}
use Rattle.evm_model.specs.declared.mutex.Mutex.{Mutex}
use Rattle.evm_model.specs.declared.task.Task.{Task}
use Rattle.evm_model.specs.declared.task.TaskState.{TaskState}
use Rattle.evm_model.specs.declared.task.TaskState.TheVariants.{InReady, Waits}
use Rattle.evm_model.specs.declared.task.Wait.TheVariants.{Event as OfEvent}
use Rattle.evm_model.proofs.Lists.{slice_get-set_other, change-elsewhere, change-cases, length-change, slice_get-push, slice_get-below, slice_get-each}
use Rattle.law_rules.proofs.Sizes.{of_spend}
use Rattle.law_rules.proofs.Walk.{Actor, IsOldTask, Does, hart, task, stamps, turns, awaits_event, spends, migrates, overruns, watches, wakes, regains, requeues, gives, holds, marks, picks, moves, tells, clock, schedules, adds, makes, types, Walk, start, next}
use Rattle.law_runs.specs.Changes.{Added, Made, Typed}
use Rattle.law_runs.specs.Kept.{AreRegisters, AllHaveRegisters}
use Rattle.evm_model.specs.Good.{event_of, event_of_task}
use Rattle.law_runs.proofs.Named.{AreNamed, walk_named}

last_there : {X : Type 0} (xs : List X) (y : X) → slice_get (xs ++ y ∷ []) (length xs) ≡ Some y
last_there [] y = refl
last_there (x ∷ xs) y = last_there xs y

-- ---- registers
set-cond : (b : Bool) (regs : List ℕ) (r value : ℕ) → (r == 0) ≡ b → AreRegisters regs → AreRegisters (if b then regs else slice_set regs r value)
set-cond true regs r value e s = s
set-cond false regs r value e s = record {
  count = length-set regs r value ∙ s.count;
  zero_first = slice_get-set_other regs r 0 value (λ same. let yes : (r == 0) ≡ true = rw (← same) refl in cc) ∙ s.zero_first;
}

with_register-are : (regs : List ℕ) (r value : ℕ) → AreRegisters regs → AreRegisters (with_register regs r value)
with_register-are regs r value s = set-cond (r == 0) regs r value refl s

pub change-registers : (t r value : ℕ) (f : Hart → Hart) (harts : List Hart) → ((x : Hart) → (f x).regs ≡ with_register x.regs r value) → AllHaveRegisters harts → AllHaveRegisters (change f harts t)
change-registers t r value f harts g h = λ u y e. elim (change-cases f harts t u y e) [
  | inl x ↦ rw (x.3, g x.1) (with_register-are x.1.regs r value (h t x.1 x.2))
  | inr x ↦ h u y x.1
]

spawned-are : (entry value : ℕ) → AreRegisters (spawned_hart entry value).regs
spawned-are entry value = record { count = length-set (replicate 32 0) 10 value ∙ length-replicate {A = ℕ} 32 0; zero_first = refl }

module _ (a : Actor) (old : Parts) where
  does_registers : (i j : ℕ) (k x : Parts) → Does a old i j k x → AllHaveRegisters k.harts → AllHaveRegisters x.harts
  unfolding restamp set_state set_policy set_slice move_task wake begin_wait tick
  does_registers _ _ _ _ (hart t r value f k own same there) h = change-registers t r value f k.harts same h
  does_registers _ _ _ _ (spends t x k runs there on) h = of_spend (λ y. AllHaveRegisters y.harts) t x.slice k h h
  does_registers _ _ _ _ (wakes u value x wait k there on why) h = change-registers u A0 value (set_register A0 value) k.harts (λ x. refl) h
  does_registers _ _ _ _ (adds t entry value cpu k own fresh room) h = λ u x e. elim (slice_get-push k.harts (spawned_hart entry value) u x e) [
    | inl there ↦ h u x there
    | inr last ↦ rw last.1 (spawned-are entry value)
  ]
  does_registers _ _ _ _ _ h = h

  pub walk_registers : (n s : ℕ) (k : Parts) → Walk a old n s k → AllHaveRegisters old.harts → AllHaveRegisters k.harts
  walk_registers _ _ _ start h = h
  walk_registers _ _ _ (next m n s u i j k x few g d w) h = does_registers i j k x d (walk_registers m s k w h)

-- ---- a task more
-- a task that is out-of-band, or waits, is not a new one
not_new : (n t cpu stamp : ℕ) (k : Parts) (x : Task) → slice_get k.tasks n ≡ Some (new_task cpu stamp) → slice_get k.tasks t ≡ Some x → (x.state ≡ InReady → ⊥) → n ≡ t → ⊥
not_new n t cpu stamp k x new there away same =
    let two : Some (new_task cpu stamp) ≡ Some x = sym new ∙ ap (slice_get k.tasks) same ∙ there in
    let one : new_task cpu stamp ≡ x = cc in away (ap (λ (y : Task). y.state) (sym one))

new_in_band : (n cpu stamp : ℕ) (k : Parts) → slice_get k.tasks n ≡ Some (new_task cpu stamp) → is_oob (Some n) k.tasks ≡ false
new_in_band n cpu stamp k new = rw new refl

oob_away : (n t cpu stamp : ℕ) (k : Parts) → slice_get k.tasks n ≡ Some (new_task cpu stamp) → is_oob (Some t) k.tasks ≡ true → n ≡ t → ⊥
oob_away n t cpu stamp k new oob same = let no : false ≡ true = sym (new_in_band n cpu stamp k new) ∙ ap (λ u. is_oob (Some u) k.tasks) same ∙ oob in cc

old_away : (old k : Parts) (t cpu stamp : ℕ) → IsOldTask old k t → length k.tasks ≡ length old.tasks + 1 → slice_get k.tasks (length old.tasks) ≡ Some (new_task cpu stamp) → length old.tasks ≡ t → ⊥
old_away old k t cpu stamp (inl same) more new e = omega (arith, same, more)
old_away old k t cpu stamp (inr oob) more new e = oob_away (length old.tasks) t cpu stamp k new oob e

-- what a primitive leaves of a new task
record KeepsNew (old k x : Parts) : Type 0 where
  task : (cpu stamp : ℕ) → slice_get k.tasks (length old.tasks) ≡ Some (new_task cpu stamp) → slice_get x.tasks (length old.tasks) ≡ Some (new_task cpu stamp)
  hart : (cpu stamp : ℕ) → slice_get k.tasks (length old.tasks) ≡ Some (new_task cpu stamp) → length old.harts ≡ length old.tasks → slice_get x.harts (length old.tasks) ≡ slice_get k.harts (length old.tasks)

added_on : (old k x : Parts) → length x.tasks ≡ length k.tasks → length x.harts ≡ length k.harts → (length k.tasks ≡ length old.tasks + 1 → length k.harts ≡ length old.harts + 1 → KeepsNew old k x) → Added old k → Added old x
added_on old k x e f keeps p = elim p [
  | inl same ↦ inl (e ∙ same.0, f ∙ same.1)
  | inr new ↦ let q = keeps new.tasks new.harts in inr (record {
    cpu = new.cpu;
    stamp = new.stamp;
    entry = new.entry;
    value = new.value;
    tasks = e ∙ new.tasks;
    harts = f ∙ new.harts;
    room = new.room;
    task = q.task new.cpu new.stamp new.task;
    hart = λ each. q.hart new.cpu new.stamp new.task each ∙ new.hart each;
  })
]

-- one old task changes, and its hart may
added_one : (old k x : Parts) (t : ℕ) → length x.tasks ≡ length k.tasks → length x.harts ≡ length k.harts
    → ((u : ℕ) → (u ≡ t → ⊥) → slice_get x.tasks u ≡ slice_get k.tasks u) → ((u : ℕ) → (u ≡ t → ⊥) → slice_get x.harts u ≡ slice_get k.harts u)
    → ((cpu stamp : ℕ) → length k.tasks ≡ length old.tasks + 1 → slice_get k.tasks (length old.tasks) ≡ Some (new_task cpu stamp) → length old.tasks ≡ t → ⊥) → Added old k → Added old x
added_one old k x t e f tasks harts away p =
    added_on old k x e f (λ more h. record { task = λ cpu stamp new. tasks (length old.tasks) (away cpu stamp more new) ∙ new; hart = λ cpu stamp new each. harts (length old.tasks) (away cpu stamp more new) }) p

oob_not : (state : TaskState) → is_oob_ready state ≡ true → state ≡ InReady → ⊥
oob_not state h e = let no : true ≡ false = sym h ∙ ap is_oob_ready e in cc

both : (a b : Bool) → (a && b) ≡ true → a ≡ true
both true b h = refl
both false b h = h

runs-oob : (c : ℕ) (o : Option Task) → runs_oob_task c o ≡ true → is_oob_task o ≡ true
runs-oob c None e = cc
runs-oob c (Some x) e = both (is_oob_ready x.state) _ e

module _ (a : Actor) (old : Parts) where
  does_add : (i j : ℕ) (k x : Parts) → Does a old i j k x → Added old k → Added old x
  unfolding restamp set_state set_policy set_slice move_task wake begin_wait tick
  does_add _ _ _ _ (hart t r value f k own same there) p =
      added_on old k _ refl (length-change f k.harts t) (λ more h. record {
        task = λ cpu stamp new. new;
        hart = λ cpu stamp new each. change-elsewhere f k.harts t (length old.tasks) (λ one. elim there [ inl below ↦ omega (arith, below, each, one) | inr still ↦ omega (arith, still, h) ]);
      }) p
  does_add _ _ _ _ (task t f k own x none there) p = added_one old k _ t (length-change f k.tasks t) refl (λ u o. change-elsewhere f k.tasks t u o) (λ u o. refl) (λ cpu stamp. old_away old k t cpu stamp there) p
  does_add _ _ _ _ (stamps t k own there) p = added_one old k _ t (length-change _ k.tasks t) refl (λ u o. change-elsewhere _ k.tasks t u o) (λ u o. refl) (λ cpu stamp. old_away old k t cpu stamp there) p
  does_add _ _ _ _ (turns t f k own x none there) p =
      added_one old k _ t (length-change _ _ t ∙ length-change f k.tasks t) refl (λ u o. change-elsewhere _ _ t u o ∙ change-elsewhere f k.tasks t u o) (λ u o. refl) (λ cpu stamp. old_away old k t cpu stamp there) p
  does_add _ _ _ _ (spends t x k runs there on) p =
      let away = λ (cpu stamp : ℕ) (more : length k.tasks ≡ length old.tasks + 1) (new : slice_get k.tasks (length old.tasks) ≡ Some (new_task cpu stamp)). not_new (length old.tasks) t cpu stamp k x new there (oob_not x.state (both (is_oob_ready x.state) _ on)) in
      of_spend (Added old) t x.slice k
      (added_one old k _ t (length-change _ _ t ∙ length-change _ k.tasks t) refl (λ u o. change-elsewhere _ _ t u o ∙ change-elsewhere _ k.tasks t u o) (λ u o. refl) away p)
      (added_one old k _ t (length-change _ k.tasks t) refl (λ u o. change-elsewhere _ k.tasks t u o) (λ u o. refl) away p)
  does_add _ _ _ _ (migrates t d y k own call is there on fresh) p =
      added_one old k _ t (length-change _ _ t ∙ length-change _ k.tasks t) refl (λ u o. change-elsewhere _ _ t u o ∙ change-elsewhere _ k.tasks t u o) (λ u o. refl) (λ cpu stamp. old_away old k t cpu stamp (inl (ap length fresh.tasks))) p
  does_add _ _ _ _ (overruns t k its on) p =
      added_one old k _ t (length-change _ _ t ∙ length-change _ k.tasks t) refl (λ u o. change-elsewhere _ _ t u o ∙ change-elsewhere _ k.tasks t u o) (λ u o. refl) (λ cpu stamp. old_away old k t cpu stamp (inr (runs-oob a.cpu (slice_get k.tasks t) on))) p
  does_add _ _ _ _ (awaits_event t e m deadline k own there its small) p =
      added_one old k _ t (length-change _ _ t ∙ length-change _ k.tasks t) refl (λ u o. change-elsewhere _ _ t u o ∙ change-elsewhere _ k.tasks t u o) (λ u o. refl) (λ cpu stamp. old_away old k t cpu stamp there) p
  does_add _ _ _ _ (requeues u v e m answer y k there on its owned why) p =
      added_one old k _ u (length-change _ _ u ∙ length-change _ k.tasks u) refl (λ z o. change-elsewhere _ _ u z o ∙ change-elsewhere _ k.tasks u z o) (λ z o. refl)
      (λ cpu stamp more new. not_new (length old.tasks) u cpu stamp k y new there (λ bad. let no : Waits (OfEvent e) ≡ InReady = sym on ∙ bad in cc)) p
  does_add _ _ _ _ (wakes u value y wait k there on why) p =
      added_one old k _ u (length-change _ _ u ∙ length-change _ k.tasks u) (length-change _ k.harts u) (λ v o. change-elsewhere _ _ u v o ∙ change-elsewhere _ k.tasks u v o) (λ v o. change-elsewhere _ k.harts u v o)
      (λ cpu stamp more new. not_new (length old.tasks) u cpu stamp k y new there (λ e. let no : Waits wait ≡ InReady = sym on ∙ e in cc)) p
  does_add _ _ _ _ (schedules u priority class k fresh asks) p = added_on old k _ (length-change _ k.tasks u) refl (λ more h. absurd (omega (arith, more, ap length fresh.tasks))) p
  does_add _ _ _ _ (adds t entry value cpu k own fresh room) p =
      let tasks : length k.tasks ≡ length old.tasks = ap length fresh.tasks in
      let harts : length k.harts ≡ length old.harts = ap length fresh.harts in
      inr (record {
        cpu = cpu;
        stamp = k.stamps;
        entry = entry;
        value = value;
        tasks = length-append k.tasks (new_task cpu k.stamps ∷ []) ∙ ap (λ n. n + 1) tasks;
        harts = length-append k.harts (spawned_hart entry value ∷ []) ∙ ap (λ n. n + 1) harts;
        room = omega (arith, room, tasks);
        task = ap (slice_get (k.tasks ++ new_task cpu k.stamps ∷ [])) (sym tasks) ∙ last_there k.tasks (new_task cpu k.stamps);
        hart = λ each. ap (slice_get (k.harts ++ spawned_hart entry value ∷ [])) (sym (harts ∙ each)) ∙ last_there k.harts (spawned_hart entry value);
      })
  does_add _ _ k _ _ p = added_on old k _ refl refl (λ more h. record { task = λ cpu stamp new. new; hart = λ cpu stamp new each. refl }) p

  pub walk_added : (n s : ℕ) (k : Parts) → Walk a old n s k → Added old k
  walk_added _ _ _ start = inl (refl, refl)
  walk_added _ _ _ (next m n s u i j k x few g d w) = does_add i j k x d (walk_added m s k w)

-- ---- a mutex more
made_one : (old k : List Mutex) (m : ℕ) (f : Mutex → Mutex) → ((x : Mutex) → slice_get k m ≡ Some x → m < length old) → Made old k → Made old (change f k m)
made_one old k m f small p = elim p [
  | inl e ↦ inl (length-change f k m ∙ e)
  | inr new ↦ inr (record {
    recursive = new.recursive;
    protocol = new.protocol;
    count = length-change f k m ∙ new.count;
    room = new.room;
    mutex = change-elsewhere f k m (length old) (λ one. omega (arith, small _ (ap (slice_get k) (sym one) ∙ new.mutex), one)) ∙ new.mutex;
  })
]

module _ (a : Actor) (old : Parts) where
  does_make : (i j : ℕ) (k x : Parts) → Does a old i j k x → AreNamed (length old.mutexes) k.events k.tasks → Made old.mutexes k.mutexes → Made old.mutexes x.mutexes
  unfolding restamp set_state set_policy set_slice move_task wake begin_wait tick
  does_make _ _ _ _ (spends t x k runs there on) q p = of_spend (λ y. Made old.mutexes y.mutexes) t x.slice k p p
  does_make _ _ _ _ (gives t u m k own same its) q p = made_one old.mutexes k.mutexes m (held_by u 1) (λ x e. slice_get-below old.mutexes m x (sym same ∙ e)) p
  does_make _ _ _ _ (regains u e m y k there on its free) q p = made_one old.mutexes k.mutexes m (held_by u 1) (λ x h. q.below u e m (ap event_of_task there ∙ ap event_of on) its) p
  does_make _ _ _ _ (holds i t m f k own same held) q p = made_one old.mutexes k.mutexes m f (λ x e. slice_get-below old.mutexes m x (sym same ∙ e)) p
  does_make _ _ _ _ (makes t recursive protocol k own fresh room) q p =
      let mutexes : length k.mutexes ≡ length old.mutexes = ap length fresh.mutexes in
      inr (record {
        recursive = recursive;
        protocol = protocol;
        count = length-append k.mutexes (free_mutex recursive protocol ∷ []) ∙ ap (λ n. n + 1) mutexes;
        room = omega (arith, room, mutexes);
        mutex = ap (slice_get (k.mutexes ++ free_mutex recursive protocol ∷ [])) (sym mutexes) ∙ last_there k.mutexes (free_mutex recursive protocol);
      })
  does_make _ _ _ _ _ q p = p

  pub walk_made : (n s : ℕ) (k : Parts) → AreNamed (length old.mutexes) old.events old.tasks → Walk a old n s k → Made old.mutexes k.mutexes
  walk_made _ _ _ q start = inl refl
  walk_made _ _ _ q (next m n s u i j k x few g d w) = does_make i j k x d (walk_named a old m s k w q) (walk_made m s k q w)

  -- ---- the console
  does_type : (i j : ℕ) (k x : Parts) → Does a old i j k x → Typed old k → Typed old x
  unfolding restamp set_state set_policy set_slice move_task wake begin_wait tick
  does_type _ _ _ _ (spends t x k runs there on) p = of_spend (Typed old) t x.slice k p p
  does_type _ _ _ _ (types t byte k own fresh) p = inr (byte, ap (λ (console : List ℕ). last_bytes (console ++ byte ∷ [])) fresh.console)
  does_type _ _ _ _ _ p = p

  pub walk_typed : (n s : ℕ) (k : Parts) → Walk a old n s k → Typed old k
  walk_typed _ _ _ start = inl refl
  walk_typed _ _ _ (next m n s u i j k x few g d w) = does_type i j k x d (walk_typed m s k w)

-- ---- other processors
told_none : (f : Pipe → Pipe) (o : Option Pipe) → ((p : Pipe) → f p ≡ p) → option_map f o ≡ o
told_none f None h = refl
told_none f (Some p) h = ap Some (h p)

quietly_told : (f p : Pipe) (l : ℕ) (may : Bool) → (f ≡ p) ⊎ ((f ≡ raise l p) × (may ≡ true)) → may ≡ false → f ≡ p
quietly_told f p l may (inl same) q = same
quietly_told f p l may (inr told) q = let no : true ≡ false = sym told.1 ∙ q in cc

module _ (a : Actor) (old : Parts) (d : ℕ) (other : d ≡ a.cpu → ⊥) where
  does_processors : (i j : ℕ) (k x : Parts) → Does a old i j k x → slice_get x.processors d ≡ slice_get k.processors d
  unfolding restamp set_state set_policy set_slice move_task wake begin_wait tick
  does_processors _ _ _ _ (spends t x k runs there on) = of_spend (λ y. slice_get y.processors d ≡ slice_get k.processors d) t x.slice k refl refl
  does_processors _ _ _ _ (marks f k x) = change-elsewhere f k.processors a.cpu d other
  does_processors _ _ _ _ (picks f k x) = change-elsewhere f k.processors a.cpu d other
  does_processors _ _ _ _ _ = refl

  does_watch : (i j : ℕ) (k x : Parts) → Does a old i j k x → slice_get x.watches d ≡ slice_get k.watches d
  unfolding restamp set_state set_policy set_slice move_task wake begin_wait tick
  does_watch _ _ _ _ (spends t x k runs there on) = of_spend (λ y. slice_get y.watches d ≡ slice_get k.watches d) t x.slice k refl refl
  does_watch _ _ _ _ (watches f k) = change-elsewhere f k.watches a.cpu d other
  does_watch _ _ _ _ _ = refl

  -- what the watchdog counts for another
  pub walk_watches : (n s : ℕ) (k : Parts) → Walk a old n s k → slice_get k.watches d ≡ slice_get old.watches d
  walk_watches _ _ _ start = refl
  walk_watches _ _ _ (next m n s u i j k x few g does w) = does_watch i j k x does ∙ walk_watches m s k w

  pub walk_processors : (n s : ℕ) (k : Parts) → Walk a old n s k → slice_get k.processors d ≡ slice_get old.processors d
  walk_processors _ _ _ start = refl
  walk_processors _ _ _ (next m n s u i j k x few g does w) = does_processors i j k x does ∙ walk_processors m s k w

  module _ (quiet : (e l : ℕ) → a.may e l ≡ false) where
    does_pipes : (i j : ℕ) (k x : Parts) → Does a old i j k x → slice_get x.pipes d ≡ slice_get k.pipes d
    unfolding restamp set_state set_policy set_slice move_task wake begin_wait tick
    does_pipes _ _ _ _ (spends t x k runs there on) = of_spend (λ y. slice_get y.pipes d ≡ slice_get k.pipes d) t x.slice k refl refl
    does_pipes _ _ _ _ (moves i f k x) = change-elsewhere f k.pipes a.cpu d other
    does_pipes _ _ _ _ (tells l f k small how) = slice_get-each f k.pipes d ∙ told_none (f d) (slice_get k.pipes d) (λ p. quietly_told (f d p) p l (a.may d l) (how d p) (quiet d l))
    does_pipes _ _ _ _ (clock k may) = let no : true ≡ false = sym (may 0) ∙ quiet 0 0 in cc
    does_pipes _ _ _ _ _ = refl

    -- where no line may be raised
    pub walk_other_pipes : (n s : ℕ) (k : Parts) → Walk a old n s k → slice_get k.pipes d ≡ slice_get old.pipes d
    walk_other_pipes _ _ _ start = refl
    walk_other_pipes _ _ _ (next m n s u i j k x few g does w) = does_pipes i j k x does ∙ walk_other_pipes m s k w
