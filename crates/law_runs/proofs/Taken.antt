-- Where no task acts, such mutexes change as are free and taken by a task that waited for an event.
use Rattle.std.proofs.Common.{◌≡◌, ℕ, List, false, Some, None, length, ◌⊎◌, inl, inr, refl, ap, sym, ◌∙◌}
use Rattle.std.specs.Prelude.{slice_get, option_map}
use Rattle.std.proofs.lemmas.Bool.{cases_eq}
use Rattle.evm_model.specs.Commands.{tick}
use Rattle.evm_model.specs.Good.{is_ready}
use Rattle.evm_model.specs.Lists.{change}
use Rattle.evm_model.specs.Mutexes.{owner, owner_of, held_by}
use Rattle.evm_model.specs.Ranks.{is_in_ready}
use Rattle.evm_model.specs.OobCalls.{move_task}
use Rattle.evm_model.specs.State.{Parts}
use Rattle.evm_model.specs.Tasks.{restamp, set_state, set_policy, set_slice}
use Rattle.evm_model.specs.Waits.{wake, begin_wait}
use Rattle.evm_model.specs.declared.mutex.Mutex.{Mutex}
use Rattle.evm_model.specs.declared.task.Task.{Task}
use Rattle.evm_model.specs.declared.task.TaskState.TheVariants.{Waits}
use Rattle.evm_model.specs.declared.task.Wait.{Wait}
use Rattle.evm_model.specs.declared.task.Wait.TheVariants.{Event as OfEvent}
use Rattle.evm_model.proofs.Lists.{change-here, change-elsewhere, length-change}
use Rattle.law_rules.proofs.Sizes.{of_spend}
use Rattle.law_rules.proofs.Walk.{Actor, Makes, Does, spends, regains, gives, holds, makes, Walk, start, next}
use Rattle.law_runs.specs.Changes.{MutexesTaken, Rests}
use Rattle.law_runs.proofs.Fares.{is_again, rested}
use Rattle.law_runs.proofs.Frames.{Asked, Frame, MayFrame, walk_frame, was_there}

-- a free mutex is taken
taken_one : (u m e : ℕ) (x : Task) (old : Parts) (k : List Mutex) → slice_get old.tasks u ≡ Some x → x.state ≡ Waits (OfEvent e) → owner k m ≡ None → MutexesTaken old k → MutexesTaken old (change (held_by u 1) k m)
taken_one u m event x old k waited on free q n before e = elim (cases_eq n m) [
  | inl same ↦ elim (q n before e) [
    | inl stays ↦
        let at : slice_get k m ≡ Some before = ap (slice_get k) (sym same) ∙ stays in
        inr (record { task = u; waiter = x; event = event; waited = waited; on = on; free = ap owner_of (sym at) ∙ free; there = ap (slice_get (change (held_by u 1) k m)) same ∙ change-here (held_by u 1) k m ∙ ap (option_map (held_by u 1)) at })
    | inr t ↦
        let owned : Some t.task ≡ None = ap owner_of (sym t.there) ∙ ap (owner k) same ∙ free in cc
  ]
  | inr other ↦ elim (q n before e) [
    | inl stays ↦ inl (change-elsewhere (held_by u 1) k m n other ∙ stays)
    | inr t ↦ inr (record { task = t.task; waiter = t.waiter; event = t.event; waited = t.waited; on = t.on; free = t.free; there = change-elsewhere (held_by u 1) k m n other ∙ t.there })
  ]
]

module _ (a : Actor) (old : Parts) (from : MayFrame a old) where
  unasked : a.task ≡ None → (asked : List Task) → (asked ≡ old.tasks) ⊎ Asked a old asked → asked ≡ old.tasks
  unasked none asked (inl same) = same
  unasked none asked (inr q) = let no : None ≡ Some q.asks.makes.task = sym none ∙ q.asks.makes.acts in cc

  -- a task that waits for an event did so before
  stood : a.task ≡ None → (k : Parts) (f : Frame a old k) (u : ℕ) (wait : Wait) (x : Task) → slice_get k.tasks u ≡ Some x → x.state ≡ Waits wait → is_again (Waits wait) ≡ false → slice_get old.tasks u ≡ Some x
  stood none k f u wait x there on again =
      let away : a.task ≡ Some u → ⊥ = λ e. let no : None ≡ Some u = sym none ∙ e in cc in
      let r : Rests u (record old { tasks = f.asked }) k = rested a (Makes a old) u (record old { tasks = f.asked }) k x there (ap is_ready on) (ap is_again on ∙ again) (f.others u away) in
      ap (λ all. slice_get all u) (sym (unasked none f.asked f.scheduled)) ∙ was_there u (record old { tasks = f.asked }) k x there (ap is_in_ready on) (f.back u x away there) r

  does_take : (i j : ℕ) (k x : Parts) → a.task ≡ None → Frame a old k → Does a old i j k x → MutexesTaken old k.mutexes → MutexesTaken old x.mutexes
  unfolding restamp set_state set_policy set_slice move_task wake begin_wait tick
  does_take _ _ _ _ none f (spends t x k runs there on) q = of_spend (λ y. MutexesTaken old y.mutexes) t x.slice k q q
  does_take _ _ _ _ none f (regains u e m y k there on its free) q = taken_one u m e y old k.mutexes (stood none k f u (OfEvent e) y there on refl) on free q
  does_take _ _ _ _ none f (gives t u m k own same its) q = let no : None ≡ Some t = sym none ∙ own in cc
  does_take _ _ _ _ none f (holds i t m g k own same held) q = let no : None ≡ Some t = sym none ∙ own in cc
  does_take _ _ _ _ none f (makes t recursive protocol k own fresh room) q = let no : None ≡ Some t = sym none ∙ own in cc
  does_take _ _ _ _ none f _ q = q

  does_count : (i j : ℕ) (k x : Parts) → a.task ≡ None → Does a old i j k x → length x.mutexes ≡ length k.mutexes
  unfolding restamp set_state set_policy set_slice move_task wake begin_wait tick
  does_count _ _ _ _ none (spends t x k runs there on) = of_spend (λ y. length y.mutexes ≡ length k.mutexes) t x.slice k refl refl
  does_count _ _ _ _ none (regains u e m y k there on its free) = length-change (held_by u 1) k.mutexes m
  does_count _ _ _ _ none (gives t u m k own same its) = length-change (held_by u 1) k.mutexes m
  does_count _ _ _ _ none (holds i t m f k own same held) = length-change f k.mutexes m
  does_count _ _ _ _ none (makes t recursive protocol k own fresh room) = let no : None ≡ Some t = sym none ∙ own in cc
  does_count _ _ _ _ none _ = refl

  -- where no task acts
  pub walk_taken : (n s : ℕ) (k : Parts) → a.task ≡ None → Walk a old n s k → MutexesTaken old k.mutexes × (length k.mutexes ≡ length old.mutexes)
  walk_taken _ _ _ none start = (λ m before e. inl e, refl)
  walk_taken _ _ _ none (next m n s u i j k x few g d w) = let q = walk_taken m s k none w in (does_take i j k x none (walk_frame a old from m s k w) d q.0, does_count i j k x none d ∙ q.1)
