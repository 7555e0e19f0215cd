-- What each task keeps through a walk, where a task that wakes is ready, and one that waits again has a fresh stamp and no deadline.
use Rattle.std.proofs.Common.{◌≡◌, ℕ, ◌≤◌, List, Bool, true, false, not, ◌&&◌, Option, Some, None, ◌⊎◌, inl, inr, refl, ap, sym, ◌∙◌, arith}
use Rattle.std.specs.Prelude.{slice_get, option_map}
use Rattle.std.proofs.lemmas.Bool.{cases_eq}
use Rattle.evm_model.proofs.Lists.{change-here, change-elsewhere, slice_get-push}
use Rattle.evm_model.specs.Commands.{tick}
use Rattle.evm_model.specs.Good.{is_waiting}
use Rattle.evm_model.specs.Lists.{change}
use Rattle.evm_model.specs.Mutexes.{owns_any}
use Rattle.evm_model.specs.OobCalls.{move_task}
use Rattle.evm_model.specs.State.{Parts, new_task}
use Rattle.evm_model.specs.Tasks.{restamp, set_policy, set_slice, set_state, is_weak}
use Rattle.evm_model.specs.Waits.{begin_wait, wake, ready_on, stage_of_wait, woken, woken_state}
use Rattle.evm_model.specs.declared.stage.Stage.{Stage}
use Rattle.evm_model.specs.declared.stage.Stage.TheVariants.{InBand, OutOfBand}
use Rattle.evm_model.specs.declared.task.Task.{Task}
use Rattle.law_rules.proofs.Sizes.{of_spend, walk_least}
use Rattle.law_rules.proofs.Walk.{Actor, Does, task, stamps, turns, awaits_event, spends, migrates, overruns, wakes, requeues, schedules, adds, Walk, start, next}

-- ---- a task that is changed once, or twice
mapped : (f : Task → Task) (o : Option Task) (y : Task) → option_map f o ≡ Some y → (x : Task) × (o ≡ Some x) × (y ≡ f x)
mapped f None y e = cc
mapped f (Some x) y e = (x, refl, cc)

pub changed : (f : Task → Task) (tasks : List Task) (t : ℕ) (y : Task) → slice_get (change f tasks t) t ≡ Some y → (x : Task) × (slice_get tasks t ≡ Some x) × (y ≡ f x)
changed f tasks t y e = mapped f (slice_get tasks t) y (sym (change-here f tasks t) ∙ e)

pub changed_twice : (f g : Task → Task) (tasks : List Task) (t : ℕ) (y : Task) → slice_get (change g (change f tasks t) t) t ≡ Some y → (x : Task) × (slice_get tasks t ≡ Some x) × (y ≡ g (f x))
changed_twice f g tasks t y e =
    let last = changed g (change f tasks t) t y e in
    let first = changed f tasks t last.0 last.1 in (first.0, first.1, last.2 ∙ ap g first.2)

on_stage : (stage : Stage) (returns : Bool) → is_waiting (ready_on stage returns) ≡ false
on_stage InBand returns = refl
on_stage OutOfBand true = refl
on_stage OutOfBand false = refl

-- ---- what lasts
-- it holds of the acting task, of a task that is ready, and of one that waits again; and a task keeps it that waits as before, with its stamp or a fresh one
pub record Lasts (Q : ℕ → Task → Type 0) (a : Actor) (least : ℕ) : Type 0 where
  pub own : (u : ℕ) (y : Task) → a.task ≡ Some u → Q u y
  pub ready : (u : ℕ) (y : Task) → is_waiting y.state ≡ false → Q u y
  pub again : (u : ℕ) (y : Task) → y.deadline ≡ 0 → least ≤ y.stamp → Q u y
  pub rests : (u : ℕ) (x y : Task) → y.state ≡ x.state → y.deadline ≡ x.deadline → (y.stamp ≡ x.stamp) ⊎ (least ≤ y.stamp) → Q u x → Q u y

abbrev pub Holds : (ℕ → Task → Type 0) → List Task → Type 0
Holds Q tasks = (u : ℕ) (y : Task) → slice_get tasks u ≡ Some y → Q u y

module _ (Q : ℕ → Task → Type 0) where
  once : (f : Task → Task) (tasks : List Task) (t : ℕ) → ((x : Task) → Q t x → Q t (f x)) → Holds Q tasks → Holds Q (change f tasks t)
  once f tasks t keeps h u y e = elim (cases_eq u t) [
    | inl same ↦
        let x = changed f tasks t y (ap (slice_get (change f tasks t)) (sym same) ∙ e) in
        rw (same, x.2) (keeps x.0 (h t x.0 x.1))
    | inr other ↦ h u y (sym (change-elsewhere f tasks t u other) ∙ e)
  ]

  twice : (f g : Task → Task) (tasks : List Task) (t : ℕ) → ((x : Task) → slice_get tasks t ≡ Some x → Q t x → Q t (g (f x))) → Holds Q tasks → Holds Q (change g (change f tasks t) t)
  twice f g tasks t keeps h u y e = elim (cases_eq u t) [
    | inl same ↦
        let x = changed_twice f g tasks t y (ap (slice_get (change g (change f tasks t) t)) (sym same) ∙ e) in
        rw (same, x.2) (keeps x.0 x.1 (h t x.0 x.1))
    | inr other ↦ h u y (sym (change-elsewhere f tasks t u other) ∙ (sym (change-elsewhere g (change f tasks t) t u other) ∙ e))
  ]

  module _ (a : Actor) (old : Parts) (least : ℕ) (lasts : Lasts Q a least) where
    does_hold : (i j : ℕ) (k x : Parts) → least ≤ k.stamps → Does a old i j k x → Holds Q k.tasks → Holds Q x.tasks
    unfolding restamp set_state set_policy set_slice move_task wake begin_wait tick
    does_hold _ _ _ _ few (task t f k own keeps names there) h = once f k.tasks t (λ x q. lasts.own t (f x) own) h
    does_hold _ _ _ _ few (stamps t k own there) h = once _ k.tasks t (λ x q. lasts.own t _ own) h
    does_hold _ _ _ _ few (turns t f k own keeps names there) h = twice f _ k.tasks t (λ x at q. lasts.own t _ own) h
    does_hold _ _ _ _ few (awaits_event t e m deadline k own there its small) h = twice _ _ k.tasks t (λ x at q. lasts.own t _ own) h
    does_hold _ _ _ _ few (migrates t d x k own call is there on fresh) h = twice _ _ k.tasks t (λ y at q. lasts.own t _ own) h
    does_hold _ _ _ _ few (spends t x k runs there on) h =
        of_spend (λ y. Holds Q y.tasks) t x.slice k (twice _ _ k.tasks t (λ y at q. lasts.rests t y _ refl refl (inr few) q) h) (once _ k.tasks t (λ y q. lasts.rests t y _ refl refl (inl refl) q) h)
    does_hold _ _ _ _ few (overruns t k its on) h = twice _ _ k.tasks t (λ y at q. lasts.ready t _ refl) h
    does_hold _ _ _ _ few (wakes u value z wait k there on why) h =
        let owns : Bool = owns_any u k.mutexes in
        twice (woken owns) _ k.tasks u (λ y at q.
        let same : y ≡ z = cc in
        let woke : (woken owns y).state ≡ ready_on (stage_of_wait wait) (is_weak y.class && not owns) = ap (woken_state (is_weak y.class && not owns)) (ap (λ (v : Task). v.state) same ∙ on) in
        lasts.ready u _ (ap is_waiting woke ∙ on_stage (stage_of_wait wait) (is_weak y.class && not owns))) h
    does_hold _ _ _ _ few (requeues u v e m answer z k there on its owned why) h = twice _ _ k.tasks u (λ y at q. lasts.again u _ refl few) h
    does_hold _ _ _ _ few (schedules u priority class k fresh asks) h = once _ k.tasks u (λ y q. lasts.rests u y _ refl refl (inl refl) q) h
    does_hold _ _ _ _ few (adds t entry value cpu k own fresh room) h = λ u y e. elim (slice_get-push k.tasks (new_task cpu k.stamps) u y e) [
      | inl before ↦ h u y before
      | inr last ↦ lasts.ready u y (ap (λ (v : Task). is_waiting v.state) last.1)
    ]
    does_hold _ _ _ _ few _ h = h

    pub walk_holds : (n s : ℕ) (k : Parts) → least ≤ old.stamps → Walk a old n s k → Holds Q old.tasks → Holds Q k.tasks
    walk_holds _ _ _ few start h = h
    walk_holds _ _ _ few (next m n s u i j k x f g d w) h = does_hold i j k x (omega (arith, few, walk_least a old m s k w)) d (walk_holds m s k few w h)
