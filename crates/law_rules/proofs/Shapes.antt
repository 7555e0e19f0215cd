-- What holds of tasks, harts and sizes, whatever processors and pipes do.
use Rattle.std.proofs.Common.{◌≡◌, ℕ, zero, suc, ◌+◌, ◌<◌, ◌≤◌, ◌%◌, List, [], ◌∷◌, ◌++◌, false, Option, Some, None, length, length-append, refl, ap, sym, ◌∙◌, ◌⊎◌, inl, inr, arith}
use Rattle.std.specs.Prelude.{slice_get, option_map}
use Rattle.std.proofs.lemmas.Bool.{cases_eq}
use Rattle.evm_exec.specs.declared.hart.Hart.{Hart}
use Rattle.evm_model.proofs.Lists.{change-cases, change-here, change-elsewhere, length-change, slice_get-push}
use Rattle.evm_model.specs.Good.{Good, AreLocks, AreEvents, event_of, is_waiting}
use Rattle.evm_model.specs.InBandCalls.{add_task}
use Rattle.evm_model.specs.Harts.{spawned_hart}
use Rattle.evm_model.specs.Lists.{change}
use Rattle.evm_model.specs.Mutexes.{lock_of}
use Rattle.evm_model.specs.Pipes.{Pipe}
use Rattle.evm_model.specs.State.{Parts, Notices, new_task, on_hart, on_task, on_pipe, on_processor, on_watch}
use Rattle.evm_model.specs.Tasks.{restamp, leave_in_band}
use Rattle.evm_model.specs.Watch.{or_zero, watch}
use Rattle.evm_model.specs.declared.action.Action.{Action}
use Rattle.evm_model.specs.declared.limits.TheConstants.{PROCESSOR_LIMIT, TASK_LIMIT}
use Rattle.evm_model.specs.declared.mutex.Mutex.{Mutex}
use Rattle.evm_model.specs.declared.processor.Processor.{Processor}
use Rattle.evm_model.specs.declared.task.Task.{Task}
use Rattle.evm_model.specs.declared.timer.Timer.{Timer}
use Rattle.law_rules.proofs.Locks.{locks-fewer, fewer-change, fewer-push}
use Rattle.law_rules.proofs.Waited.{AreDeadlines, events-fewer, fewer_events-change, fewer_events-push, deadlines-stay, deadlines-push}

-- what the watchdog has counted on each of so many processors: nothing where there is none, and less than it lets a task have
pub record AreCounts (watchdog : ℕ) (watches : List ℕ) (processors : ℕ) : Type 0 where
  pub off : (d : ℕ) → watchdog ≡ 0 → or_zero (slice_get watches d) ≡ 0
  pub below : (d : ℕ) → (watchdog ≡ 0 → ⊥) → or_zero (slice_get watches d) < watchdog
  pub count : length watches ≡ processors

pub record IsShaped (k : Parts) : Type 0 where
  pub aligned : (t : ℕ) (hart : Hart) → slice_get k.harts t ≡ Some hart → hart.pc % 4 ≡ 0
  pub homes : (t : ℕ) (task : Task) → slice_get k.tasks t ≡ Some task → task.cpu < length k.processors
  pub stamps_below : (t : ℕ) (task : Task) → slice_get k.tasks t ≡ Some task → task.stamp < k.stamps
  pub stamps_differ : (t u : ℕ) (a b : Task) → slice_get k.tasks t ≡ Some a → slice_get k.tasks u ≡ Some b → a.stamp ≡ b.stamp → t ≡ u
  pub harts_count : length k.harts ≡ length k.tasks
  pub pipes_count : length k.pipes ≡ length k.processors
  pub few_tasks : length k.tasks ≤ TASK_LIMIT
  pub few_processors : length k.processors ≤ PROCESSOR_LIMIT
  pub watches : AreCounts k.profile.watchdog k.watches (length k.processors)
  pub locks : AreLocks k.mutexes k.tasks
  pub events : AreEvents k.events k.mutexes k.tasks
  pub deadlines : (t : ℕ) (task : Task) → slice_get k.tasks t ≡ Some task → is_waiting task.state ≡ false → task.deadline ≡ 0

pub shaped : (k : Parts) → Good k → IsShaped k
shaped k g = record {
  aligned = g.aligned;
  homes = g.homes;
  stamps_below = g.stamps_below;
  stamps_differ = g.stamps_differ;
  harts_count = g.harts_count;
  pipes_count = g.pipes_count;
  few_tasks = g.few_tasks;
  few_processors = g.few_processors;
  watches = record { off = λ d e. (g.watched d).off e; below = λ d e. (g.watched d).below e; count = g.watches_count };
  locks = g.locks;
  events = g.events;
  deadlines = g.deadlines;
}

pub shaped-pipe : (c : ℕ) (f : Pipe → Pipe) (k : Parts) → IsShaped k → IsShaped (on_pipe c f k)
shaped-pipe c f k s = record {
  aligned = s.aligned;
  homes = s.homes;
  stamps_below = s.stamps_below;
  stamps_differ = s.stamps_differ;
  harts_count = s.harts_count;
  pipes_count = length-change f k.pipes c ∙ s.pipes_count;
  few_tasks = s.few_tasks;
  few_processors = s.few_processors;
  watches = s.watches;
  locks = s.locks;
  events = s.events;
  deadlines = s.deadlines;
}

pub shaped-processor : (c : ℕ) (f : Processor → Processor) (k : Parts) → IsShaped k → IsShaped (on_processor c f k)
shaped-processor c f k s = let same : length (change f k.processors c) ≡ length k.processors = length-change f k.processors c in record {
  aligned = s.aligned;
  homes = λ t task e. rw same (s.homes t task e);
  stamps_below = s.stamps_below;
  stamps_differ = s.stamps_differ;
  harts_count = s.harts_count;
  pipes_count = s.pipes_count ∙ sym same;
  few_tasks = s.few_tasks;
  few_processors = rw same s.few_processors;
  watches = rw same s.watches;
  locks = s.locks;
  events = s.events;
  deadlines = s.deadlines;
}

pub shaped-leave : (c : ℕ) (k : Parts) → IsShaped k → IsShaped (leave_in_band c k)
unfolding leave_in_band
shaped-leave c k s = shaped-processor c _ k s

pub shaped-hart : (t : ℕ) (f : Hart → Hart) (k : Parts) → ((hart : Hart) → hart.pc % 4 ≡ 0 → (f hart).pc % 4 ≡ 0) → IsShaped k → IsShaped (on_hart t f k)
shaped-hart t f k h s = record {
  aligned = λ u hart e. elim (change-cases f k.harts t u hart e) [
    | inl w ↦ rw w.3 (h w.1 (s.aligned t w.1 w.2))
    | inr w ↦ s.aligned u hart w.1
  ];
  homes = s.homes;
  stamps_below = s.stamps_below;
  stamps_differ = s.stamps_differ;
  harts_count = length-change f k.harts t ∙ s.harts_count;
  pipes_count = s.pipes_count;
  few_tasks = s.few_tasks;
  few_processors = s.few_processors;
  watches = s.watches;
  locks = s.locks;
  events = s.events;
  deadlines = s.deadlines;
}

-- ---- a task
was : (f : Task → Task) (xs : List Task) (t u : ℕ) (z : Task) → ((x : Task) → (f x).cpu ≡ x.cpu) → ((x : Task) → (f x).stamp ≡ x.stamp) → slice_get (change f xs t) u ≡ Some z
    → (x : Task) × (slice_get xs u ≡ Some x) × (z.cpu ≡ x.cpu) × (z.stamp ≡ x.stamp)
was f xs t u z a b h = elim (change-cases f xs t u z h) [
  | inl w ↦ (w.1, rw w.0 w.2, ap (λ y. y.cpu) w.3 ∙ a w.1, ap (λ y. y.stamp) w.3 ∙ b w.1)
  | inr w ↦ (z, w.1, refl, refl)
]

-- a task's processor and stamp stay
pub shaped-with : (t : ℕ) (f : Task → Task) (k : Parts) → ((x : Task) → (f x).cpu ≡ x.cpu) → ((x : Task) → (f x).stamp ≡ x.stamp) → AreLocks k.mutexes (change f k.tasks t) → AreEvents k.events k.mutexes (change f k.tasks t)
    → AreDeadlines (change f k.tasks t) → IsShaped k → IsShaped (on_task t f k)
shaped-with t f k cpu stamp locks events deadlines s =
    let before = λ (u : ℕ) (x : Task) (e : slice_get (change f k.tasks t) u ≡ Some x). was f k.tasks t u x cpu stamp e in
    record {
      aligned = s.aligned;
      homes = λ u x e. let w = before u x e in rw w.2 (s.homes u w.0 w.1);
      stamps_below = λ u x e. let w = before u x e in rw w.3 (s.stamps_below u w.0 w.1);
      stamps_differ = λ u v a b e h same. let x = before u a e in let y = before v b h in s.stamps_differ u v x.0 y.0 x.1 y.1 (sym x.3 ∙ same ∙ y.3);
      harts_count = s.harts_count ∙ sym (length-change f k.tasks t);
      pipes_count = s.pipes_count;
      few_tasks = rw (length-change f k.tasks t) s.few_tasks;
      few_processors = s.few_processors;
      watches = s.watches;
      locks = locks;
      events = events;
      deadlines = deadlines;
    }

-- a task goes on another processor, which is there
pub shaped-moved : (t : ℕ) (f : Task → Task) (k : Parts) → ((x : Task) → (f x).cpu < length k.processors) → ((x : Task) → (f x).stamp ≡ x.stamp) → AreLocks k.mutexes (change f k.tasks t) → AreEvents k.events k.mutexes (change f k.tasks t)
    → AreDeadlines (change f k.tasks t) → IsShaped k → IsShaped (on_task t f k)
shaped-moved t f k home stamp locks events deadlines s =
    record {
      aligned = s.aligned;
      homes = λ u x e. elim (change-cases f k.tasks t u x e) [
        | inl w ↦ rw w.3 (home w.1)
        | inr w ↦ s.homes u x w.1
      ];
      stamps_below = λ u x e. elim (change-cases f k.tasks t u x e) [
        | inl w ↦ rw (w.3, stamp w.1) (s.stamps_below u w.1 (rw w.0 w.2))
        | inr w ↦ s.stamps_below u x w.1
      ];
      stamps_differ = λ u v a b e h same. let x = as_it_was u a e in let y = as_it_was v b h in s.stamps_differ u v x.0 y.0 x.1 y.1 (sym x.2 ∙ same ∙ y.2);
      harts_count = s.harts_count ∙ sym (length-change f k.tasks t);
      pipes_count = s.pipes_count;
      few_tasks = rw (length-change f k.tasks t) s.few_tasks;
      few_processors = s.few_processors;
      watches = s.watches;
      locks = locks;
      events = events;
      deadlines = deadlines;
    }
  where
    as_it_was : (u : ℕ) (z : Task) → slice_get (change f k.tasks t) u ≡ Some z → (x : Task) × (slice_get k.tasks u ≡ Some x) × (z.stamp ≡ x.stamp)
    as_it_was u z e = elim (change-cases f k.tasks t u z e) [
      | inl w ↦ (w.1, rw w.0 w.2, ap (λ (y : Task). y.stamp) w.3 ∙ stamp w.1)
      | inr w ↦ (z, w.1, refl)
    ]

-- a change of a task that leaves its processor and its stamp; it waits for no other lock and no other event
pub record IsPlain (f : Task → Task) : Type 0 where
  pub cpu : (x : Task) → (f x).cpu ≡ x.cpu
  pub stamp : (x : Task) → (f x).stamp ≡ x.stamp
  pub lock : (x : Task) (m : ℕ) → lock_of (f x).state ≡ Some m → lock_of x.state ≡ Some m
  pub event : (x : Task) (e : ℕ) → event_of (f x).state ≡ Some e → event_of x.state ≡ Some e

pub shaped-plain : (t : ℕ) (f : Task → Task) (k : Parts) → IsPlain f → AreDeadlines (change f k.tasks t) → IsShaped k → IsShaped (on_task t f k)
shaped-plain t f k p deadlines s =
    shaped-with t f k p.cpu p.stamp (locks-fewer k.mutexes k.tasks (change f k.tasks t) (omega (arith, length-change f k.tasks t)) (fewer-change f k.tasks t p.lock) s.locks)
    (events-fewer k.events k.mutexes k.tasks (change f k.tasks t) (fewer_events-change f k.tasks t p.event) s.events) deadlines s

-- .. nor does it change how it is, and its deadline
pub shaped-task : (t : ℕ) (f : Task → Task) (k : Parts) → ((x : Task) → (f x).cpu ≡ x.cpu) → ((x : Task) → (f x).stamp ≡ x.stamp) → ((x : Task) → (f x).state ≡ x.state) → ((x : Task) → (f x).deadline ≡ x.deadline)
    → IsShaped k → IsShaped (on_task t f k)
shaped-task t f k cpu stamp state deadline s =
    shaped-plain t f k (record { cpu = cpu; stamp = stamp; lock = λ x m e. ap lock_of (sym (state x)) ∙ e; event = λ x m e. ap event_of (sym (state x)) ∙ e })
    (deadlines-stay f k.tasks t state deadline s.deadlines) s

-- mutexes change
pub shaped-mutexes : (k : Parts) (mutexes : List Mutex) → AreLocks mutexes k.tasks → AreEvents k.events mutexes k.tasks → IsShaped k → IsShaped (record k { mutexes = mutexes })
shaped-mutexes k mutexes locks events s = record {
  aligned = s.aligned;
  homes = s.homes;
  stamps_below = s.stamps_below;
  stamps_differ = s.stamps_differ;
  harts_count = s.harts_count;
  pipes_count = s.pipes_count;
  few_tasks = s.few_tasks;
  few_processors = s.few_processors;
  watches = s.watches;
  locks = locks;
  events = events;
  deadlines = s.deadlines;
}

-- events change
pub shaped-events : (k : Parts) (events : List (Option ℕ)) → AreEvents events k.mutexes k.tasks → IsShaped k → IsShaped (record k { events = events })
shaped-events k events named s = record {
  aligned = s.aligned;
  homes = s.homes;
  stamps_below = s.stamps_below;
  stamps_differ = s.stamps_differ;
  harts_count = s.harts_count;
  pipes_count = s.pipes_count;
  few_tasks = s.few_tasks;
  few_processors = s.few_processors;
  watches = s.watches;
  locks = s.locks;
  events = named;
  deadlines = s.deadlines;
}

-- what no rule looks at
pub shaped-others : (k : Parts) (semaphores flags : List ℕ) (timers : List Timer) (actions : List Action) (console : List ℕ)
    → IsShaped k → IsShaped (record k { semaphores = semaphores; flags = flags; timers = timers; actions = actions; console = console })
shaped-others k semaphores flags timers actions console s = record {
  aligned = s.aligned;
  homes = s.homes;
  stamps_below = s.stamps_below;
  stamps_differ = s.stamps_differ;
  harts_count = s.harts_count;
  pipes_count = s.pipes_count;
  few_tasks = s.few_tasks;
  few_processors = s.few_processors;
  watches = s.watches;
  locks = s.locks;
  events = s.events;
  deadlines = s.deadlines;
}

-- notices change
pub shaped-notices : (k : Parts) (notices : Notices) → IsShaped k → IsShaped (record k { notices = notices })
shaped-notices k notices s = record {
  aligned = s.aligned;
  homes = s.homes;
  stamps_below = s.stamps_below;
  stamps_differ = s.stamps_differ;
  harts_count = s.harts_count;
  pipes_count = s.pipes_count;
  few_tasks = s.few_tasks;
  few_processors = s.few_processors;
  watches = s.watches;
  locks = s.locks;
  events = s.events;
  deadlines = s.deadlines;
}

-- ---- the watchdog counts, or rests
-- one count changes, and is as it may be
one-count : (P : ℕ → Type 0) (f : ℕ → ℕ) (watches : List ℕ) (c d : ℕ) → P 0 → P (f (or_zero (slice_get watches c))) → P (or_zero (slice_get watches d)) → P (or_zero (slice_get (change f watches c) d))
one-count P f watches c d none here there = elim (cases_eq d c) [
  | inl same ↦ rw (same, change-here f watches c) (mapped (slice_get watches c) here)
  | inr other ↦ rw (change-elsewhere f watches c d other) there
]
  where
    mapped : (o : Option ℕ) → P (f (or_zero o)) → P (or_zero (option_map f o))
    mapped None h = none
    mapped (Some n) h = h

pub positive : (n : ℕ) → (n ≡ 0 → ⊥) → 0 < n
positive zero e = absurd (e refl)
positive (suc n) e = omega arith

pub shaped-watch : (c : ℕ) (f : ℕ → ℕ) (k : Parts) → (k.profile.watchdog ≡ 0 → f (watch c k) ≡ 0) → ((k.profile.watchdog ≡ 0 → ⊥) → f (watch c k) < k.profile.watchdog) → IsShaped k → IsShaped (on_watch c f k)
shaped-watch c f k off below s = record {
  aligned = s.aligned;
  homes = s.homes;
  stamps_below = s.stamps_below;
  stamps_differ = s.stamps_differ;
  harts_count = s.harts_count;
  pipes_count = s.pipes_count;
  few_tasks = s.few_tasks;
  few_processors = s.few_processors;
  watches = record {
    off = λ d e. one-count (λ n. n ≡ 0) f k.watches c d refl (off e) (s.watches.off d e);
    below = λ d e. one-count (λ n. n < k.profile.watchdog) f k.watches c d (positive k.profile.watchdog e) (below e) (s.watches.below d e);
    count = length-change f k.watches c ∙ s.watches.count;
  };
  locks = s.locks;
  events = s.events;
  deadlines = s.deadlines;
}

-- ---- a fresh stamp
-- a task of which the stamp is the fresh one, or is as it was
record Stamped (k : Parts) (t u : ℕ) (z : Task) : Type 0 where
  old : Task
  there : slice_get k.tasks u ≡ Some old
  cpu : z.cpu ≡ old.cpu
  which : ((u ≡ t) × (z.stamp ≡ k.stamps)) ⊎ ((u ≡ t → ⊥) × (z.stamp ≡ old.stamp))

stamped : (k : Parts) (t u : ℕ) (z : Task) → slice_get (change (λ (task : Task). record task { stamp = k.stamps }) k.tasks t) u ≡ Some z → Stamped k t u z
stamped k t u z e = elim (change-cases (λ (task : Task). record task { stamp = k.stamps }) k.tasks t u z e) [
  | inl w ↦ record { old = w.1; there = rw w.0 w.2; cpu = ap (λ y. y.cpu) w.3; which = inl (w.0, ap (λ y. y.stamp) w.3) }
  | inr w ↦ record { old = z; there = w.1; cpu = refl; which = inr (w.0, refl) }
]

fresh-below : (k : Parts) (t u : ℕ) (z : Task) → IsShaped k → Stamped k t u z → z.stamp < k.stamps + 1
fresh-below k t u z s w = elim w.which [
  | inl fresh ↦ rw fresh.1 (omega arith)
  | inr same ↦ let below : w.old.stamp < k.stamps = s.stamps_below u w.old w.there in rw same.1 (omega arith)
]

fresh-differ : (k : Parts) (t u v : ℕ) (a b : Task) → IsShaped k → Stamped k t u a → Stamped k t v b → a.stamp ≡ b.stamp → u ≡ v
fresh-differ k t u v a b s x y same = elim x.which [
  | inl f ↦ elim y.which [
    | inl g ↦ f.0 ∙ sym g.0
    | inr g ↦ let below : y.old.stamp < k.stamps = s.stamps_below v y.old y.there in let is : k.stamps ≡ y.old.stamp = sym f.1 ∙ same ∙ g.1 in absurd (omega arith)
  ]
  | inr f ↦ elim y.which [
    | inl g ↦ let below : x.old.stamp < k.stamps = s.stamps_below u x.old x.there in let is : x.old.stamp ≡ k.stamps = sym f.1 ∙ same ∙ g.1 in absurd (omega arith)
    | inr g ↦ s.stamps_differ u v x.old y.old x.there y.there (sym f.1 ∙ same ∙ g.1)
  ]
]

pub shaped-restamp : (t : ℕ) (k : Parts) → IsShaped k → IsShaped (restamp t k)
unfolding restamp
shaped-restamp t k s =
    let f : Task → Task = λ task. record task { stamp = k.stamps } in
    record {
      aligned = s.aligned;
      homes = λ u x e. let w = stamped k t u x e in rw w.cpu (s.homes u w.old w.there);
      stamps_below = λ u x e. fresh-below k t u x s (stamped k t u x e);
      stamps_differ = λ u v a b e h same. fresh-differ k t u v a b s (stamped k t u a e) (stamped k t v b h) same;
      harts_count = s.harts_count ∙ sym (length-change f k.tasks t);
      pipes_count = s.pipes_count;
      few_tasks = rw (length-change f k.tasks t) s.few_tasks;
      few_processors = s.few_processors;
      watches = s.watches;
      locks = locks-fewer k.mutexes k.tasks (change f k.tasks t) (omega (arith, length-change f k.tasks t)) (fewer-change f k.tasks t (λ x m e. e)) s.locks;
      events = events-fewer k.events k.mutexes k.tasks (change f k.tasks t) (fewer_events-change f k.tasks t (λ x e w. w)) s.events;
      deadlines = deadlines-stay f k.tasks t (λ x. refl) (λ x. refl) s.deadlines;
    }

-- ---- a task more
pub shaped-add : (entry value cpu : ℕ) (k : Parts) → entry % 4 ≡ 0 → cpu < length k.processors → length k.tasks < TASK_LIMIT → IsShaped k → IsShaped (add_task entry value cpu k)
unfolding add_task
shaped-add entry value cpu k a home room s =
    let task : Task = new_task cpu k.stamps in
    let hart : Hart = spawned_hart entry value in
    record {
      aligned = λ u x e. elim (slice_get-push k.harts hart u x e) [
        | inl w ↦ s.aligned u x w
        | inr w ↦ rw w.1 a
      ];
      homes = λ u x e. elim (slice_get-push k.tasks task u x e) [
        | inl w ↦ s.homes u x w
        | inr w ↦ rw w.1 home
      ];
      stamps_below = λ u x e. elim (slice_get-push k.tasks task u x e) [
        | inl w ↦ omega (arith, s.stamps_below u x w)
        | inr w ↦ rw w.1 (omega arith)
      ];
      stamps_differ = λ u v x y e h same. elim (slice_get-push k.tasks task u x e) [
        | inl p ↦ elim (slice_get-push k.tasks task v y h) [
          | inl q ↦ s.stamps_differ u v x y p q same
          | inr q ↦ let below : x.stamp < k.stamps = s.stamps_below u x p in let is : x.stamp ≡ k.stamps = same ∙ ap (λ z. z.stamp) q.1 in absurd (omega arith)
        ]
        | inr p ↦ elim (slice_get-push k.tasks task v y h) [
          | inl q ↦ let below : y.stamp < k.stamps = s.stamps_below v y q in let is : k.stamps ≡ y.stamp = sym (ap (λ z. z.stamp) p.1) ∙ same in absurd (omega arith)
          | inr q ↦ p.0 ∙ sym q.0
        ]
      ];
      harts_count = length-append k.harts (hart ∷ []) ∙ ap (λ n. n + 1) s.harts_count ∙ sym (length-append k.tasks (task ∷ []));
      pipes_count = s.pipes_count;
      few_tasks = omega (arith, length-append k.tasks (task ∷ []));
      few_processors = s.few_processors;
      watches = s.watches;
      locks = locks-fewer k.mutexes k.tasks (k.tasks ++ task ∷ []) (omega (arith, length-append k.tasks (task ∷ []))) (fewer-push k.tasks task refl) s.locks;
      events = events-fewer k.events k.mutexes k.tasks (k.tasks ++ task ∷ []) (fewer_events-push k.tasks task refl) s.events;
      deadlines = deadlines-push k.tasks task refl s.deadlines;
    }
