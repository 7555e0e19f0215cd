-- What is read of parts that differ in harts alone is the same, except for the harts of tasks that are ahead.
use Rattle.std.proofs.Common.{◌≡◌, ℕ, zero, suc, false, Option, length, refl, ap, sym}
use Rattle.std.specs.Prelude.{slice_get}
use Rattle.evm_model.specs.Current.{current, is_oob}
use Rattle.evm_model.specs.Deadlines.{next_due}
use Rattle.evm_model.specs.Mutexes.{waits_on, owns_any}
use Rattle.evm_model.specs.Pipes.{Pipe}
use Rattle.evm_model.specs.Ranks.{may_run_oob, best, next_in_band}
use Rattle.evm_model.specs.Stages.{is_stalled, is_attached, stage_at, may_promote}
use Rattle.evm_model.specs.State.{Parts}
use Rattle.evm_model.specs.Waits.{first_waiter}
use Rattle.evm_model.specs.declared.stage.Stage.{Stage}
use Rattle.evm_model.specs.declared.task.Task.{Task}
use Rattle.evm_model.specs.declared.task.Wait.{Wait}
use Rattle.law_runs.specs.Ahead.{HeadStart, Ahead, has_ready_state}

module _ {lead : HeadStart} {p q : Parts} (a : Ahead lead p q) where
  pub at_task : {X : Type 0} (r : Option Task → X) (t : ℕ) → r (slice_get p.tasks t) ≡ r (slice_get q.tasks t)
  at_task r t = ap (λ (k : Parts). r (slice_get k.tasks t)) a.same

  pub at_pipe : {X : Type 0} (r : Option Pipe → X) (c : ℕ) → r (slice_get p.pipes c) ≡ r (slice_get q.pipes c)
  at_pipe r c = ap (λ (k : Parts). r (slice_get k.pipes c)) a.same

  -- ---- fields
  pub profile-same : p.profile ≡ q.profile
  profile-same = ap (λ (k : Parts). k.profile) a.same

  pub ticks-same : p.ticks ≡ q.ticks
  ticks-same = ap (λ (k : Parts). k.ticks) a.same

  pub tasks-same : p.tasks ≡ q.tasks
  tasks-same = ap (λ (k : Parts). k.tasks) a.same

  pub processors-same : p.processors ≡ q.processors
  processors-same = ap (λ (k : Parts). k.processors) a.same

  pub watches-same : p.watches ≡ q.watches
  watches-same = ap (λ (k : Parts). k.watches) a.same

  pub mutexes-same : p.mutexes ≡ q.mutexes
  mutexes-same = ap (λ (k : Parts). k.mutexes) a.same

  pub semaphores-same : p.semaphores ≡ q.semaphores
  semaphores-same = ap (λ (k : Parts). k.semaphores) a.same

  pub events-same : p.events ≡ q.events
  events-same = ap (λ (k : Parts). k.events) a.same

  pub flags-same : p.flags ≡ q.flags
  flags-same = ap (λ (k : Parts). k.flags) a.same

  pub timers-same : p.timers ≡ q.timers
  timers-same = ap (λ (k : Parts). k.timers) a.same

  pub actions-same : p.actions ≡ q.actions
  actions-same = ap (λ (k : Parts). k.actions) a.same

  pub task_count-same : length p.tasks ≡ length q.tasks
  task_count-same = ap (λ (k : Parts). length k.tasks) a.same

  -- ---- what is found out of them
  pub is_oob-same : (o : Option ℕ) → is_oob o p.tasks ≡ is_oob o q.tasks
  is_oob-same o = ap (λ (k : Parts). is_oob o k.tasks) a.same

  pub current-same : (c : ℕ) → current c p ≡ current c q
  current-same c = ap (λ (k : Parts). current c k) a.same

  pub is_attached-same : (t : ℕ) → is_attached t p ≡ is_attached t q
  is_attached-same t = ap (λ (k : Parts). is_attached t k) a.same

  pub stage_at-same : (t : ℕ) → stage_at t p ≡ stage_at t q
  stage_at-same t = ap (λ (k : Parts). stage_at t k) a.same

  pub may_run_oob-same : (c t : ℕ) → may_run_oob c p.tasks t ≡ may_run_oob c q.tasks t
  may_run_oob-same c t = ap (λ (k : Parts). may_run_oob c k.tasks t) a.same

  pub owns_any-same : (t : ℕ) → owns_any t p.mutexes ≡ owns_any t q.mutexes
  owns_any-same t = ap (λ (k : Parts). owns_any t k.mutexes) a.same

  pub waits_on-same : waits_on p.mutexes p.tasks ≡ waits_on q.mutexes q.tasks
  waits_on-same = ap (λ (k : Parts). waits_on k.mutexes k.tasks) a.same

  pub is_stalled-same : (stage : Stage) (c : ℕ) → is_stalled stage c p ≡ is_stalled stage c q
  is_stalled-same stage c = ap (λ (k : Parts). is_stalled stage c k) a.same

  pub may_promote-same : (c t : ℕ) → may_promote c t p ≡ may_promote c t q
  may_promote-same c t = ap (λ (k : Parts). may_promote c t k) a.same

  pub first_waiter-same : (wait : Wait) → first_waiter wait p ≡ first_waiter wait q
  unfolding first_waiter
  first_waiter-same wait = ap (λ (k : Parts). first_waiter wait k) a.same

  pub best-same : (c : ℕ) → best c p.mutexes p.tasks ≡ best c q.mutexes q.tasks
  best-same c = ap (λ (k : Parts). best c k.mutexes k.tasks) a.same

  pub next_in_band-same : (c : ℕ) → next_in_band c p.tasks ≡ next_in_band c q.tasks
  next_in_band-same c = ap (λ (k : Parts). next_in_band c k.tasks) a.same

  pub next_due-same : (c : ℕ) → next_due c p ≡ next_due c q
  unfolding next_due
  next_due-same c = ap (λ (k : Parts). next_due c k) a.same

  -- ---- harts
  -- a task that isn't ahead has the same hart
  pub hart-same : (t : ℕ) → lead.rows t ≡ 0 → slice_get p.harts t ≡ slice_get q.harts t
  hart-same t z = let e = a.ahead t in sym (rw z at e)

  still-or : (t n : ℕ) → lead.rows t ≡ n → has_ready_state (slice_get p.tasks t) ≡ false → n ≡ 0
  still-or t zero e f = refl
  still-or t (suc n) e f = let g = a.ready t n e in cc

  -- a task that isn't ready isn't ahead
  pub still : (t : ℕ) → has_ready_state (slice_get p.tasks t) ≡ false → lead.rows t ≡ 0
  still t f = still-or t (lead.rows t) refl f
