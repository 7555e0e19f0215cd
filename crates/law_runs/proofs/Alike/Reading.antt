-- What is read of alike parts is the same.
use Rattle.std.proofs.Common.{◌≡◌, ℕ, List, Option, Some, None, length, map, refl, ap, sym, ◌∙◌}
use Rattle.std.specs.Prelude.{slice_get, option_map, if◌then◌else◌}
use Rattle.std.proofs.lemmas.List.{length-map}
use Rattle.std.proofs.lemmas.Option.{slice_get-map}
use mathlib.Core.Path.{fun_ext}
use Rattle.evm_model.specs.Boosts.{greatest, rank_after}
use Rattle.evm_model.specs.Current.{current, is_oob, is_oob_task}
use Rattle.evm_model.specs.Deadlines.{is_due_task, is_due, deadline_of, deadline, next_due}
use Rattle.evm_model.specs.Mutexes.{lock_of_task, lock_at, heir_for, owner_for, boosts, waits_on, owns_any, ceiling_owner, ceiling}
use Rattle.evm_model.specs.Pipes.{Pipe}
use Rattle.evm_model.specs.Ranks.{first, class_rank_of, own_rank, rank, stamp, may_run_oob, runs_oob_task, may_run_in_band, runs_in_band_task, best, next_in_band}
use Rattle.evm_model.specs.Stages.{stalled_pipe, is_stalled, is_attached_task, is_attached, stage_at, may_promote}
use Rattle.evm_model.specs.State.{Parts}
use Rattle.evm_model.specs.Waits.{awaits_task, awaits, first_waiter}
use Rattle.evm_model.specs.declared.limits.TheConstants.{TASK_LIMIT}
use Rattle.evm_model.specs.declared.mutex.Mutex.{Mutex}
use Rattle.evm_model.specs.declared.stage.Stage.{Stage}
use Rattle.evm_model.specs.declared.stage.Stage.TheVariants.{OutOfBand, InBand}
use Rattle.evm_model.specs.declared.task.Task.{Task}
use Rattle.evm_model.specs.declared.task.Wait.{Wait}
use Rattle.law_runs.specs.Alike.{unstamped, uncounted, erased, Alike}
use Rattle.law_runs.proofs.Alike.Lists.{Compare, first-same}

-- what looks at no stamp, count or console
reads : {X : Type 0} {p q : Parts} (r : Parts → X) → ((k : Parts) → r (erased k) ≡ r k) → Alike p q → r p ≡ r q
reads {p = p} {q = q} r e a = sym (e p) ∙ ap r a.same ∙ e q

-- what of a task looks at no stamp
task-reads : {X : Type 0} (r : Option Task → X) (t : ℕ) (tasks : List Task) → ((x : Task) → r (Some (unstamped x)) ≡ r (Some x)) → r (slice_get (map unstamped tasks) t) ≡ r (slice_get tasks t)
task-reads r t tasks e = ap r (slice_get-map unstamped tasks t) ∙ elim (slice_get tasks t) as (λ o. r (option_map unstamped o) ≡ r o) [ None ↦ refl | Some x ↦ e x ]

pub at_task : {X : Type 0} {p q : Parts} (r : Option Task → X) (t : ℕ) → ((x : Task) → r (Some (unstamped x)) ≡ r (Some x)) → Alike p q → r (slice_get p.tasks t) ≡ r (slice_get q.tasks t)
at_task r t e a = reads (λ k. r (slice_get k.tasks t)) (λ k. task-reads r t k.tasks e) a

-- what of a pipe looks at no count
pipe-reads : {X : Type 0} (r : Option Pipe → X) (c : ℕ) (pipes : List Pipe) → ((x : Pipe) → r (Some (uncounted x)) ≡ r (Some x)) → r (slice_get (map uncounted pipes) c) ≡ r (slice_get pipes c)
pipe-reads r c pipes e = ap r (slice_get-map uncounted pipes c) ∙ elim (slice_get pipes c) as (λ o. r (option_map uncounted o) ≡ r o) [ None ↦ refl | Some x ↦ e x ]

pub at_pipe : {X : Type 0} {p q : Parts} (r : Option Pipe → X) (c : ℕ) → ((x : Pipe) → r (Some (uncounted x)) ≡ r (Some x)) → Alike p q → r (slice_get p.pipes c) ≡ r (slice_get q.pipes c)
at_pipe r c e a = reads (λ k. r (slice_get k.pipes c)) (λ k. pipe-reads r c k.pipes e) a

-- ---- ranks
lock-reads : (tasks : List Task) (u : ℕ) → lock_at (map unstamped tasks) u ≡ lock_at tasks u
lock-reads tasks u = task-reads lock_of_task u tasks (λ x. refl)

boosts-reads : (mutexes : List Mutex) (tasks : List Task) → boosts mutexes (map unstamped tasks) ≡ boosts mutexes tasks
boosts-reads mutexes tasks = fun_ext (λ u. ap (heir_for mutexes) (lock-reads tasks u))

waits-reads : (mutexes : List Mutex) (tasks : List Task) → waits_on mutexes (map unstamped tasks) ≡ waits_on mutexes tasks
waits-reads mutexes tasks = fun_ext (λ u. ap (owner_for mutexes) (lock-reads tasks u))

own-reads : (mutexes : List Mutex) (tasks : List Task) → own_rank mutexes (map unstamped tasks) ≡ own_rank mutexes tasks
unfolding own_rank
own-reads mutexes tasks = fun_ext (λ t. ap (λ n. greatest (ceiling_owner mutexes) (ceiling mutexes) t n (length mutexes)) (task-reads class_rank_of t tasks (λ x. refl)))

rank-reads : (mutexes : List Mutex) (tasks : List Task) (t : ℕ) → rank mutexes (map unstamped tasks) t ≡ rank mutexes tasks t
unfolding rank
rank-reads mutexes tasks t = λ i. rank_after (boosts-reads mutexes tasks i) (own-reads mutexes tasks i) (length-map tasks unstamped i) TASK_LIMIT t

-- ---- fields
module _ {p q : Parts} (a : Alike p q) where
  pub profile-same : p.profile ≡ q.profile
  profile-same = ap (λ k. k.profile) a.same

  pub ticks-same : p.ticks ≡ q.ticks
  ticks-same = ap (λ k. k.ticks) a.same

  pub harts-same : p.harts ≡ q.harts
  harts-same = ap (λ k. k.harts) a.same

  pub processors-same : p.processors ≡ q.processors
  processors-same = ap (λ k. k.processors) a.same

  pub watches-same : p.watches ≡ q.watches
  watches-same = ap (λ k. k.watches) a.same

  pub mutexes-same : p.mutexes ≡ q.mutexes
  mutexes-same = ap (λ k. k.mutexes) a.same

  pub semaphores-same : p.semaphores ≡ q.semaphores
  semaphores-same = ap (λ k. k.semaphores) a.same

  pub events-same : p.events ≡ q.events
  events-same = ap (λ k. k.events) a.same

  pub flags-same : p.flags ≡ q.flags
  flags-same = ap (λ k. k.flags) a.same

  pub timers-same : p.timers ≡ q.timers
  timers-same = ap (λ k. k.timers) a.same

  pub actions-same : p.actions ≡ q.actions
  actions-same = ap (λ k. k.actions) a.same

  pub task_count-same : length p.tasks ≡ length q.tasks
  task_count-same = reads (λ k. length k.tasks) (λ k. length-map k.tasks unstamped) a

  -- ---- a task
  pub is_oob-same : (o : Option ℕ) → is_oob o p.tasks ≡ is_oob o q.tasks
  is_oob-same None = refl
  is_oob-same (Some t) = at_task is_oob_task t (λ x. refl) a

  pub current-same : (c : ℕ) → current c p ≡ current c q
  current-same c = reads (current c) (λ k. refl) a

  pub is_attached-same : (t : ℕ) → is_attached t p ≡ is_attached t q
  is_attached-same t = at_task is_attached_task t (λ x. refl) a

  pub stage_at-same : (t : ℕ) → stage_at t p ≡ stage_at t q
  stage_at-same t = ap (λ b. if b then OutOfBand else InBand) (is_oob-same (Some t))

  pub may_run_oob-same : (c t : ℕ) → may_run_oob c p.tasks t ≡ may_run_oob c q.tasks t
  may_run_oob-same c t = at_task (runs_oob_task c) t (λ x. refl) a

  may_run_in_band-same : (c t : ℕ) → may_run_in_band c p.tasks t ≡ may_run_in_band c q.tasks t
  may_run_in_band-same c t = at_task (runs_in_band_task c) t (λ x. refl) a

  awaits-same : (wait : Wait) (t : ℕ) → awaits wait p.tasks t ≡ awaits wait q.tasks t
  awaits-same wait t = at_task (awaits_task wait) t (λ x. refl) a

  -- ---- a mutex
  pub owns_any-same : (t : ℕ) → owns_any t p.mutexes ≡ owns_any t q.mutexes
  owns_any-same t = ap (owns_any t) mutexes-same

  pub waits_on-same : waits_on p.mutexes p.tasks ≡ waits_on q.mutexes q.tasks
  waits_on-same = reads (λ k. waits_on k.mutexes k.tasks) (λ k. waits-reads k.mutexes k.tasks) a

  -- ---- a pipe
  pub is_stalled-same : (stage : Stage) (c : ℕ) → is_stalled stage c p ≡ is_stalled stage c q
  is_stalled-same OutOfBand c = at_pipe (stalled_pipe OutOfBand) c (λ x. refl) a
  is_stalled-same InBand c = at_pipe (stalled_pipe InBand) c (λ x. refl) a

  pub may_promote-same : (c t : ℕ) → may_promote c t p ≡ may_promote c t q
  may_promote-same c t = rw (is_attached-same t, is_stalled-same InBand c) refl

  -- ---- the first
  rank-same : (t : ℕ) → rank p.mutexes p.tasks t ≡ rank q.mutexes q.tasks t
  rank-same t = reads (λ k. rank k.mutexes k.tasks t) (λ k. rank-reads k.mutexes k.tasks t) a

  by_rank : Compare (rank p.mutexes p.tasks) (stamp p.tasks) (rank q.mutexes q.tasks) (stamp q.tasks) (length p.tasks)
  by_rank = record { ranks = rank-same; stamps = a.order }

  pub first_waiter-same : (wait : Wait) → first_waiter wait p ≡ first_waiter wait q
  unfolding first_waiter
  first_waiter-same wait =
      first-same (awaits wait p.tasks) (awaits wait q.tasks) (rank p.mutexes p.tasks) (stamp p.tasks) (rank q.mutexes q.tasks) (stamp q.tasks) (length p.tasks) (awaits-same wait) by_rank
      ∙ ap (first (awaits wait q.tasks) (rank q.mutexes q.tasks) (stamp q.tasks)) task_count-same

  pub best-same : (c : ℕ) → best c p.mutexes p.tasks ≡ best c q.mutexes q.tasks
  unfolding best
  best-same c =
      first-same (may_run_oob c p.tasks) (may_run_oob c q.tasks) (rank p.mutexes p.tasks) (stamp p.tasks) (rank q.mutexes q.tasks) (stamp q.tasks) (length p.tasks) (may_run_oob-same c) by_rank
      ∙ ap (first (may_run_oob c q.tasks) (rank q.mutexes q.tasks) (stamp q.tasks)) task_count-same

  pub next_in_band-same : (c : ℕ) → next_in_band c p.tasks ≡ next_in_band c q.tasks
  unfolding next_in_band
  next_in_band-same c =
      first-same (may_run_in_band c p.tasks) (may_run_in_band c q.tasks) (λ _. 0) (stamp p.tasks) (λ _. 0) (stamp q.tasks) (length p.tasks) (may_run_in_band-same c)
      (record { ranks = λ t. refl; stamps = a.order })
      ∙ ap (first (may_run_in_band c q.tasks) (λ _. 0) (stamp q.tasks)) task_count-same

  is_due-same : (c t : ℕ) → is_due c p.ticks p.tasks t ≡ is_due c q.ticks q.tasks t
  is_due-same c t = at_task (is_due_task c p.ticks) t (λ x. refl) a ∙ ap (λ n. is_due c n q.tasks t) ticks-same

  deadline-same : (t : ℕ) → deadline p.tasks t ≡ deadline q.tasks t
  deadline-same t = at_task deadline_of t (λ x. refl) a

  pub next_due-same : (c : ℕ) → next_due c p ≡ next_due c q
  unfolding next_due
  next_due-same c =
      first-same (is_due c p.ticks p.tasks) (is_due c q.ticks q.tasks) (λ _. 0) (deadline p.tasks) (λ _. 0) (deadline q.tasks) (length p.tasks) (is_due-same c)
      (record { ranks = λ t. refl; stamps = λ t u h k. rw (deadline-same t, deadline-same u) refl })
      ∙ ap (first (is_due c q.ticks q.tasks) (λ _. 0) (deadline q.tasks)) task_count-same
