-- The mutex of each event for which a task waits was there before, after any walk.
use Rattle.std.proofs.Common.{◌≡◌, ℕ, ◌<◌, List, [], ◌∷◌, ◌++◌, Bool, true, false, not, Option, Some, None, length, ◌⊎◌, inl, inr, refl, ap, sym, ◌∙◌}
use Rattle.std.specs.Prelude.{slice_get, option_map, ◌&&◌}
use Rattle.std.proofs.lemmas.Bool.{cases_eq}
use Rattle.std.proofs.lemmas.Bool.Decides.{nat_tests}
use Rattle.std.proofs.Common.{arith}
use Rattle.evm_model.specs.Commands.{tick}
use Rattle.evm_model.specs.Events.{bound_of}
use Rattle.evm_model.specs.Good.{AreEvents, is_mutex, event_of, event_of_task, event_at}
use Rattle.evm_model.specs.Lists.{change}
use Rattle.evm_model.specs.Mutexes.{owns_any}
use Rattle.evm_model.specs.OobCalls.{moved, move_task}
use Rattle.evm_model.specs.State.{Parts, new_task}
use Rattle.evm_model.specs.Tasks.{restamp, set_state, set_policy, set_slice, is_weak}
use Rattle.evm_model.specs.Waits.{ready_on, stage_of_wait, woken, woken_state, wake, begin_wait}
use Rattle.evm_model.specs.declared.stage.Stage.{Stage}
use Rattle.evm_model.specs.declared.stage.Stage.TheVariants.{OutOfBand, InBand}
use Rattle.evm_model.specs.declared.task.Task.{Task}
use Rattle.evm_model.specs.declared.task.TaskState.{TaskState}
use Rattle.evm_model.specs.declared.task.TaskState.TheVariants.{Waits}
use Rattle.evm_model.specs.declared.task.Wait.TheVariants.{Event}
use Rattle.evm_model.proofs.Lists.{change-here, change-elsewhere, change-cases, slice_get-push}
use Rattle.law_rules.proofs.Sizes.{of_spend}
use Rattle.law_rules.proofs.Twice.{change-twice}
use Rattle.law_rules.proofs.Walk.{Actor, Does, NamesNone, task, turns, awaits_event, stamps, spends, migrates, overruns, wakes, requeues, names, schedules, adds, adds_event, Walk, start, next}

-- the mutex of an event for which a task waits is below a number
pub record AreNamed (count : ℕ) (events : List (Option ℕ)) (tasks : List Task) : Type 0 where
  pub below : (t e m : ℕ) → event_at tasks t ≡ Some e → bound_of (slice_get events e) ≡ Some m → m < count

named_at : (t e : ℕ) (tasks : List Task) (o : Option Task) → slice_get tasks t ≡ o → event_of_task o ≡ Some e → (x : Task) × (slice_get tasks t ≡ Some x) × (event_of x.state ≡ Some e)
named_at t e tasks None there h = cc
named_at t e tasks (Some x) there h = (x, there, h)

-- one task changes, and waits for an event only if it did
named_one : (count u : ℕ) (f : Task → Task) (events : List (Option ℕ)) (tasks : List Task) → NamesNone f → AreNamed count events tasks → AreNamed count events (change f tasks u)
named_one count u f events tasks none q = record {
  below = λ t e m h is.
      let w = named_at t e (change f tasks u) (slice_get (change f tasks u) t) refl h in
      elim (change-cases f tasks u t w.0 w.1) [
        | inl g ↦
            let now : event_of (f g.1).state ≡ Some e = ap (λ (y : Task). event_of y.state) (sym g.3) ∙ w.2 in
            elim (none g.1) [
              | inl off ↦ let bad : None ≡ Some e = sym off ∙ now in cc
              | inr same ↦ q.below u e m (ap event_of_task g.2 ∙ sym same ∙ now) is
            ]
        | inr g ↦ q.below t e m (ap event_of_task g.1 ∙ w.2) is
      ];
}

-- .. twice
named_two : (count u : ℕ) (f g : Task → Task) (events : List (Option ℕ)) (tasks : List Task) → NamesNone f → NamesNone g → AreNamed count events tasks → AreNamed count events (change f (change g tasks u) u)
named_two count u f g events tasks a b q = named_one count u f events (change g tasks u) a (named_one count u g events tasks b q)

ready_none : (stage : Stage) (returns : Bool) → event_of (ready_on stage returns) ≡ None
ready_none InBand returns = refl
ready_none OutOfBand true = refl
ready_none OutOfBand false = refl

woken_none : (returns : Bool) (state : TaskState) → (event_of (woken_state returns state) ≡ None) ⊎ (event_of (woken_state returns state) ≡ event_of state)
woken_none returns (Waits wait) = inl (ready_none (stage_of_wait wait) returns)
woken_none returns _ = inr refl

-- a task that begins to wait for an event
named_waits : (count t e m stamp deadline : ℕ) (events : List (Option ℕ)) (tasks : List Task) → bound_of (slice_get events e) ≡ Some m → m < count → AreNamed count events tasks
    → AreNamed count events (change (λ (x : Task). record x { stamp = stamp }) (change (λ (x : Task). record x { state = Waits (Event e); deadline = deadline }) tasks t) t)
named_waits count t e m stamp deadline events tasks its small q =
    let f : Task → Task = λ x. record x { state = Waits (Event e); deadline = deadline; stamp = stamp } in
    let twice : change (λ (x : Task). record x { stamp = stamp }) (change (λ (x : Task). record x { state = Waits (Event e); deadline = deadline }) tasks t) t ≡ change f tasks t = change-twice (λ (x : Task). record x { stamp = stamp }) (λ (x : Task). record x { state = Waits (Event e); deadline = deadline }) tasks t in
    rw twice (record {
      below = λ u d n h is.
          let w = named_at u d (change f tasks t) (slice_get (change f tasks t) u) refl h in
          elim (change-cases f tasks t u w.0 w.1) [
            | inl g ↦
                let now : Some e ≡ Some d = ap (λ (y : Task). event_of y.state) (sym g.3) ∙ w.2 in
                let same : e ≡ d = cc in
                let two : Some m ≡ Some n = sym its ∙ ap (λ i. bound_of (slice_get events i)) same ∙ is in
                let one : m ≡ n = cc in rw (← one) small
            | inr g ↦ q.below u d n (ap event_of_task g.1 ∙ w.2) is
          ];
    })

-- an event's mutex is another
named_event : (count e m : ℕ) (events : List (Option ℕ)) (tasks : List Task) → m < count → AreNamed count events tasks → AreNamed count (change (λ (_ : Option ℕ). Some m) events e) tasks
named_event count e m events tasks small q = record { below = λ t d n h is. from t d n h is (cases_eq d e) }
  where
    changed : (o : Option (Option ℕ)) (n : ℕ) → bound_of (option_map (λ (_ : Option ℕ). Some m) o) ≡ Some n → m ≡ n
    changed None n h = cc
    changed (Some x) n h = cc

    from : (t d n : ℕ) → event_at tasks t ≡ Some d → bound_of (slice_get (change (λ (_ : Option ℕ). Some m) events e) d) ≡ Some n → (d ≡ e) ⊎ (d ≡ e → ⊥) → n < count
    from t d n h is (inl same) = rw (← changed (slice_get events e) n (ap bound_of (sym (change-here (λ (_ : Option ℕ). Some m) events e)) ∙ ap (λ i. bound_of (slice_get (change (λ (_ : Option ℕ). Some m) events e) i)) (sym same) ∙ is)) small
    from t d n h is (inr other) = q.below t d n h (ap bound_of (sym (change-elsewhere (λ (_ : Option ℕ). Some m) events e d other)) ∙ is)

bound_there : (o : Option (Option ℕ)) (m : ℕ) → bound_of o ≡ Some m → o ≡ Some (Some m)
bound_there None m h = cc
bound_there (Some None) m h = cc
bound_there (Some (Some x)) m h = let same : x ≡ m = cc in rw same refl

-- an event more
named_more : (count : ℕ) (events : List (Option ℕ)) (tasks : List Task) → AreNamed count events tasks → AreNamed count (events ++ None ∷ []) tasks
named_more count events tasks q = record {
  below = λ t e m h is. elim (slice_get-push events None e (Some m) (bound_there (slice_get (events ++ None ∷ []) e) m is)) [
    | inl there ↦ q.below t e m h (ap bound_of there)
    | inr last ↦ let no : Some m ≡ None = last.1 in cc
  ];
}

-- a task more
named_task : (count cpu stamp : ℕ) (events : List (Option ℕ)) (tasks : List Task) → AreNamed count events tasks → AreNamed count events (tasks ++ new_task cpu stamp ∷ [])
named_task count cpu stamp events tasks q = record {
  below = λ t e m h is.
      let w = named_at t e (tasks ++ new_task cpu stamp ∷ []) (slice_get (tasks ++ new_task cpu stamp ∷ []) t) refl h in
      elim (slice_get-push tasks (new_task cpu stamp) t w.0 w.1) [
        | inl there ↦ q.below t e m (ap event_of_task there ∙ w.2) is
        | inr last ↦ let no : None ≡ Some e = ap (λ (y : Task). event_of y.state) (sym last.1) ∙ w.2 in cc
      ];
}

pub named_good : (events : List (Option ℕ)) (k : Parts) → AreEvents k.events k.mutexes k.tasks → AreNamed (length k.mutexes) k.events k.tasks
named_good events k g = record { below = λ t e m h is. let there : is_mutex (Some m) k.mutexes ≡ true = ap (λ o. is_mutex o k.mutexes) (sym is) ∙ g.bound t e h in grind (arith, nat_tests) }

module _ (a : Actor) (old : Parts) where
  abbrev N : Parts → Type 0
  N k = AreNamed (length old.mutexes) k.events k.tasks

  does_name : (i j : ℕ) (k x : Parts) → Does a old i j k x → N k → N x
  unfolding restamp set_state set_policy set_slice move_task wake begin_wait tick
  does_name _ _ _ _ (task t f k own x none there) q = named_one _ t f k.events k.tasks none q
  does_name _ _ _ _ (turns t f k own x none there) q = named_two _ t _ f k.events k.tasks (λ x. inr refl) none q
  does_name _ _ _ _ (stamps t k own there) q = named_one _ t _ k.events k.tasks (λ x. inr refl) q
  does_name _ _ _ _ (awaits_event t e m deadline k own there its small) q = named_waits _ t e m k.stamps deadline k.events k.tasks its small q
  does_name _ _ _ _ (spends t x k runs there on) q =
      of_spend N t x.slice k (named_two _ t _ _ k.events k.tasks (λ x. inr refl) (λ x. inr refl) q) (named_one _ t _ k.events k.tasks (λ x. inr refl) q)
  does_name _ _ _ _ (migrates t d y k own call is there on fresh) q =
      named_two _ t _ (moved d (owns_any t k.mutexes)) k.events k.tasks (λ x. inr refl) (λ x. inl (ready_none OutOfBand (is_weak x.class && not (owns_any t k.mutexes)))) q
  does_name _ _ _ _ (overruns t k its on) q = named_two _ t _ _ k.events k.tasks (λ x. inr refl) (λ x. inl refl) q
  does_name _ _ _ _ (wakes u value x wait k there on why) q =
      named_two _ u _ (woken (owns_any u k.mutexes)) k.events k.tasks (λ x. inr refl) (λ y. woken_none (is_weak y.class && not (owns_any u k.mutexes)) y.state) q
  does_name _ _ _ _ (requeues u v e m answer x k there on its owned why) q = named_two _ u _ _ k.events k.tasks (λ x. inr refl) (λ x. inl refl) q
  does_name _ _ _ _ (names e m y k call is at small fresh) q = named_event _ e m k.events k.tasks small q
  does_name _ _ _ _ (schedules u priority class k fresh asks) q = named_one _ u _ k.events k.tasks (λ x. inr refl) q
  does_name _ _ _ _ (adds t entry value cpu k own fresh room) q = named_task _ cpu k.stamps k.events k.tasks q
  does_name _ _ _ _ (adds_event t k own fresh room) q = named_more _ k.events k.tasks q
  does_name _ _ _ _ _ q = q

  pub walk_named : (n s : ℕ) (k : Parts) → Walk a old n s k → N old → N k
  walk_named _ _ _ start q = q
  walk_named _ _ _ (next m n s u i j k x few g d w) q = does_name i j k x d (walk_named m s k w q)
