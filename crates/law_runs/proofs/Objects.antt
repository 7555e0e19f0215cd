-- Which semaphores, flag groups, events, timers and actions a walk changes, and why.
use Rattle.std.proofs.Common.{◌≡◌, ℕ, ◌+◌, ◌≤◌, List, [], ◌∷◌, ◌++◌, false, Some, None, length, length-append, ◌⊎◌, inl, inr, ap, sym, ◌∙◌, arith}
use Rattle.std.specs.Prelude.{slice_get}
use Rattle.std.proofs.lemmas.Bool.{cases_eq}
use Rattle.evm_exec.specs.declared.hart.Hart.{Hart}
use Rattle.evm_model.specs.Actions.{action_at}
use Rattle.evm_model.specs.Commands.{tick}
use Rattle.evm_model.specs.Harts.{argument}
use Rattle.evm_model.specs.OobCalls.{move_task}
use Rattle.evm_model.specs.State.{Parts}
use Rattle.evm_model.specs.Tasks.{restamp, set_state, set_policy, set_slice}
use Rattle.evm_model.specs.Timers.{idle_timer, is_due_timer, taken}
use Rattle.evm_model.specs.Waits.{wake, begin_wait}
use Rattle.evm_model.specs.declared.action.Action.TheVariants.{Puts, Posts}
use Rattle.evm_model.specs.Lists.{change}
use Rattle.evm_model.proofs.Lists.{change-elsewhere, length-change, slice_get-before}
use Rattle.law_rules.proofs.Sizes.{of_spend, walk_ticks}
use Rattle.law_rules.proofs.Walk.{Actor, Makes, CountedBy, by_call, by_line, WrittenBy, by_call as posts_call, by_line as posts_line, Does, spends, counts, writes, names, sets_timer, takes_expiries, expires, sets_action, sets_up, adds_event, adds_flags, adds_timer, Untouched, unchanged, Walk, start, next}
use Rattle.law_runs.specs.Changes.{NamedBy, ListChanges, ObjectsChange}

-- ---- a list
module _ {X : Type 0} (why : ℕ → X → Type 0) (old : List X) where
  list_same : (k : List X) → k ≡ old → ListChanges why old k
  list_same k same = record { each = λ n x e. inl (ap (λ all. slice_get all n) same ∙ e); count = inl (ap length same) }

  -- one of them is another
  list_changed : (i : ℕ) (f : X → X) (k : List X) → ((x : X) → slice_get k i ≡ Some x → why i x) → ListChanges why old k → ListChanges why old (change f k i)
  list_changed i f k reason q = record {
    each = λ n x e. elim (cases_eq n i) [
      | inl same ↦ elim (q.each n x e) [
        | inl stays ↦ inr (rw same (reason x (ap (slice_get k) (sym same) ∙ stays)))
        | inr w ↦ inr w
      ]
      | inr other ↦ elim (q.each n x e) [
        | inl stays ↦ inl (change-elsewhere f k i n other ∙ stays)
        | inr w ↦ inr w
      ]
    ];
    count = elim q.count [
      | inl as_many ↦ inl (length-change f k i ∙ as_many)
      | inr more ↦ inr (length-change f k i ∙ more)
    ];
  }

  -- there is one more than at first
  list_more : (y : X) (k : List X) → k ≡ old → ListChanges why old (k ++ y ∷ [])
  list_more y k same = record {
    each = λ n x e. inl (slice_get-before k y n x (ap (λ all. slice_get all n) same ∙ e));
    count = inr (length-append k (y ∷ []) ∙ ap (λ all. length all + 1) same);
  }

list_wider : {X : Type 0} (why other : ℕ → X → Type 0) (old new : List X) → ((n : ℕ) (x : X) → why n x → other n x) → ListChanges why old new → ListChanges other old new
list_wider why other old new h q = record {
  each = λ n x e. elim (q.each n x e) [
    | inl stays ↦ inl stays
    | inr w ↦ inr (h n x w)
  ];
  count = q.count;
}

-- ---- where more may call
named_wider : (makes others : ℕ → Hart → Type 0) (least most n : ℕ) → ((m : ℕ) (h : Hart) → makes m h → others m h) → NamedBy makes least most n → NamedBy others least most n
named_wider makes others least most n make q = record { number = q.number; hart = q.hart; from = q.from; to = q.to; makes_it = make q.number q.hart q.makes_it; names = q.names }

sum_wider : {P Q R : Type 0} → (P → Q) → P ⊎ R → Q ⊎ R
sum_wider f (inl p) = inl (f p)
sum_wider f (inr r) = inr r

pub objects_wider : (makes others : ℕ → Hart → Type 0) (c : ℕ) (old new : Parts) → ((m : ℕ) (h : Hart) → makes m h → others m h) → ObjectsChange makes c old new → ObjectsChange others c old new
objects_wider makes others c old new make q = record {
  semaphores = list_wider _ _ old.semaphores new.semaphores (λ n x w. sum_wider (named_wider makes others 39 41 n make) w) q.semaphores;
  flags = list_wider _ _ old.flags new.flags (λ n x w. sum_wider (named_wider makes others 45 46 n make) w) q.flags;
  events = list_wider _ _ old.events new.events (λ n x w. named_wider makes others 42 42 n make w) q.events;
  timers = list_wider _ _ old.timers new.timers (λ n x w. sum_wider (named_wider makes others 48 49 n make) w) q.timers;
  actions = list_wider _ _ old.actions new.actions (λ n x w. (w.0, named_wider makes others 14 14 n make w.1)) q.actions;
}

-- ---- a walk
module _ (a : Actor) (old : Parts) where
  abbrev O : Parts → Type 0
  O k = ObjectsChange (Makes a old) a.cpu old k

  unchanged_yet : (k : Parts) → Untouched old k → O k
  unchanged_yet k fresh = record {
    semaphores = list_same _ old.semaphores k.semaphores fresh.semaphores;
    flags = list_same _ old.flags k.flags fresh.flags;
    events = list_same _ old.events k.events fresh.events;
    timers = list_same _ old.timers k.timers fresh.timers;
    actions = list_same _ old.actions k.actions fresh.actions;
  }

  by_number : (least most number n : ℕ) (hart : Hart) → least ≤ number → number ≤ most → Makes a old number hart → n ≡ argument 0 hart → NamedBy (Makes a old) least most n
  by_number least most number n hart h g call is = record { number = number; hart = hart; from = h; to = g; makes_it = call; names = is }

  counted_why : (s : ℕ) (k : Parts) → CountedBy a old k s → NamedBy (Makes a old) 39 41 s ⊎ ((l : ℕ) × (action_at l k ≡ Puts s))
  counted_why s k (by_call number hart h g call is) = inl (by_number 39 41 number s hart h g call is)
  counted_why s k (by_line l is) = inr (l, is)

  written_why : (g : ℕ) (k : Parts) → WrittenBy a old k g → NamedBy (Makes a old) 45 46 g ⊎ ((l : ℕ) × (action_at l k ≡ Posts g))
  written_why g k (posts_call number hart h i call is) = inl (by_number 45 46 number g hart h i call is)
  written_why g k (posts_line l is) = inr (l, is)

  does_objects : (i j : ℕ) (k x : Parts) → k.ticks ≡ old.ticks → Does a old i j k x → O k → O x
  unfolding restamp set_state set_policy set_slice move_task wake begin_wait tick
  does_objects _ _ _ _ clock (spends t x k runs there on) q =
      of_spend O t x.slice k (record { semaphores = q.semaphores; flags = q.flags; events = q.events; timers = q.timers; actions = q.actions })
      (record { semaphores = q.semaphores; flags = q.flags; events = q.events; timers = q.timers; actions = q.actions })
  does_objects _ _ _ _ clock (counts s f k why h) q =
      record { semaphores = list_changed _ old.semaphores s f k.semaphores (λ n e. counted_why s k why) q.semaphores; flags = q.flags; events = q.events; timers = q.timers; actions = q.actions }
  does_objects _ _ _ _ clock (writes g f k why h) q =
      record { semaphores = q.semaphores; flags = list_changed _ old.flags g f k.flags (λ n e. written_why g k why) q.flags; events = q.events; timers = q.timers; actions = q.actions }
  does_objects _ _ _ _ clock (names e m y k call is at small fresh) q =
      record { semaphores = q.semaphores; flags = q.flags; events = list_changed _ old.events e _ k.events (λ n h. by_number 42 42 42 e y (omega arith) (omega arith) call is) q.events; timers = q.timers; actions = q.actions }
  does_objects _ _ _ _ clock (sets_timer n first period y k call is small short fresh) q =
      record { semaphores = q.semaphores; flags = q.flags; events = q.events; timers = list_changed _ old.timers n _ k.timers (λ z h. inl (by_number 48 49 48 n y (omega arith) (omega arith) call is)) q.timers; actions = q.actions }
  does_objects _ _ _ _ clock (takes_expiries n y k call is fresh) q =
      record { semaphores = q.semaphores; flags = q.flags; events = q.events; timers = list_changed _ old.timers n taken k.timers (λ z h. inl (by_number 48 49 49 n y (omega arith) (omega arith) call is)) q.timers; actions = q.actions }
  does_objects _ _ _ _ clock (expires n timer woke k there due) q = record {
    semaphores = q.semaphores;
    flags = q.flags;
    events = q.events;
    timers = list_changed _ old.timers n _ k.timers
        (λ z h. let two : Some timer ≡ Some z = sym there ∙ h in let one : timer ≡ z = cc in
        inr (ap (is_due_timer a.cpu old.ticks) (sym one) ∙ ap (λ now. is_due_timer a.cpu now timer) (sym clock) ∙ due)) q.timers;
    actions = q.actions;
  }
  does_objects _ _ _ _ clock (sets_action l action y k call is above valid fresh) q = record {
    semaphores = list_same _ old.semaphores k.semaphores fresh.semaphores;
    flags = list_same _ old.flags k.flags fresh.flags;
    events = q.events;
    timers = q.timers;
    actions = list_changed _ old.actions l _ k.actions (λ z h. (above, by_number 14 14 14 l y (omega arith) (omega arith) call is)) q.actions;
  }
  does_objects _ _ _ _ clock (sets_up t count k own fresh room fits) q =
      record { semaphores = list_more _ old.semaphores count k.semaphores fresh.semaphores; flags = q.flags; events = q.events; timers = q.timers; actions = q.actions }
  does_objects _ _ _ _ clock (adds_flags t k own fresh room) q =
      record { semaphores = q.semaphores; flags = list_more _ old.flags 0 k.flags fresh.flags; events = q.events; timers = q.timers; actions = q.actions }
  does_objects _ _ _ _ clock (adds_event t k own fresh room) q =
      record { semaphores = q.semaphores; flags = q.flags; events = list_more _ old.events None k.events fresh.events; timers = q.timers; actions = q.actions }
  does_objects _ _ _ _ clock (adds_timer t k own fresh room) q =
      record { semaphores = q.semaphores; flags = q.flags; events = q.events; timers = list_more _ old.timers idle_timer k.timers fresh.timers; actions = q.actions }
  does_objects _ _ _ _ clock _ q = record { semaphores = q.semaphores; flags = q.flags; events = q.events; timers = q.timers; actions = q.actions }

  pub walk_objects : (n s : ℕ) (k : Parts) → a.may 0 0 ≡ false → Walk a old n s k → O k
  walk_objects _ _ _ quiet start = unchanged_yet old (unchanged old)
  walk_objects _ _ _ quiet (next m n s u i j k x few g d w) = does_objects i j k x (walk_ticks a old m s k quiet w) d (walk_objects m s k quiet w)
