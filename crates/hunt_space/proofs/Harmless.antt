-- A private row makes no machine fail.
use Rattle.std.proofs.Common.{◌≡◌, ℕ, List, Bool, true, false, ◌&&◌, not, Option, Some, None, refl, sym, ap, subst, ◌∙◌, inl, inr}
use Rattle.std.specs.Prelude.{if◌then◌else◌, slice_get, ◌==◌}
use Rattle.evm_model.specs.Current.{current}
use Rattle.evm_model.specs.Mutexes.{owner}
use Rattle.evm_model.specs.Ranks.{is_in_ready, is_oob_ready}
use Rattle.evm_model.specs.Refusals.{is_stopped}
use Rattle.evm_model.specs.State.{Board, State}
use Rattle.evm_model.specs.declared.event.Answer.{Answer}
use Rattle.evm_model.specs.declared.event.Answer.TheVariants.{Ran}
use Rattle.evm_model.specs.declared.event.Event.TheVariants.{Step}
use Rattle.evm_model.specs.declared.task.Task.{Task}
use Rattle.evm_model.specs.declared.task.TaskState.{TaskState}
use Rattle.evm_model.specs.declared.task.TaskState.TheVariants.{InReady, OobReady}
use Rattle.evm_model.specs.declared.timer.Timer.{Timer}
use Rattle.evm_model.specs.Good.{is_ready}
use Rattle.hunt_failures.specs.Failures.{FailsAsWanted, IsAbandoned, IsAtCall, IsCaller, IsDeadlock, IsDemoted, IsOverrun, awaits_expiry, awaits_timer, ended_at, faulted_at, is_another, is_ended_task, is_faulted, is_faulted_task, is_in_band_task, is_out_of_band, is_stuck_state, is_stuck_task, leaves, live_of, stopped_at, tells_many}
use Rattle.hunt_failures.specs.Failures.{is_ready_task as is_task_ready}
use Rattle.hunt_failures.specs.declared.failure.Failure.TheVariants as failures
use Rattle.hunt_failures.specs.declared.wanted.Wanted.{Wanted}
use Rattle.law_runs.proofs.Alike.AheadPrivate.{acts}
use Rattle.law_runs.specs.Ahead.{actor, has_ready_state}
use Rattle.hunt_space.proofs.Harts.{hart_board}
use Rattle.hunt_space.proofs.Private.{actor-runs, task-below}

-- ---- both of two tests
pub both : (x y : Bool) → (x && y) ≡ true → (x ≡ true) × (y ≡ true)
both true y e = (refl, e)
both false y e = cc

and-false : (x y : Bool) → y ≡ false → (x && y) ≡ false
and-false true y e = e
and-false false y e = refl

-- ---- a task that is ready
ready-unfaulted : (state : TaskState) → is_ready state ≡ true → is_faulted state ≡ false
ready-unfaulted InReady e = refl
ready-unfaulted OobReady e = refl
ready-unfaulted _ e = cc

ready-free : (lines : List ℕ) (timers : List Timer) (state : TaskState) → is_ready state ≡ true → is_stuck_state lines timers state ≡ false
ready-free lines timers InReady e = refl
ready-free lines timers OobReady e = refl
ready-free lines timers _ e = cc

await-unready : (state : TaskState) → awaits_expiry state ≡ true → is_ready state ≡ false
await-unready InReady e = cc
await-unready OobReady e = cc
await-unready _ e = refl

unfaulted : (o : Option Task) → has_ready_state o ≡ true → is_faulted_task o ≡ false
unfaulted None e = refl
unfaulted (Some task) e = ready-unfaulted task.state e

free : (lines : List ℕ) (timers : List Timer) (o : Option Task) → has_ready_state o ≡ true → is_stuck_task lines timers o ≡ false
free lines timers None e = cc
free lines timers (Some task) e = and-false (task.deadline == 0) (is_stuck_state lines timers task.state) (ready-free lines timers task.state e)

pub unready : (o : Option Task) → awaits_timer o ≡ true → is_task_ready o ≡ false
unready None e = refl
unready (Some task) e = await-unready task.state e

pub one-ready : (o : Option Task) → has_ready_state o ≡ is_task_ready o
one-ready None = refl
one-ready (Some task) = refl

out-not-in : (state : TaskState) → is_oob_ready state ≡ true → is_in_ready state ≡ false
out-not-in OobReady e = refl
out-not-in _ e = cc

pub out-of-band : (o : Option Task) → is_out_of_band o ≡ true → is_in_band_task o ≡ false
out-of-band None e = refl
out-of-band (Some task) e = out-not-in task.state e

-- ---- an owner that hasn't ended
live-here : (b : Bool) (t u : ℕ) → (if b then None else Some t) ≡ Some u → (b ≡ false) × (t ≡ u)
live-here true t u e = cc
live-here false t u e = (refl, let same : t ≡ u = cc in same)

live-owns : (o : Option ℕ) (tasks : List Task) (u : ℕ) → live_of o tasks ≡ Some u → is_ended_task (slice_get tasks u) ≡ false
live-owns None tasks u e = cc
live-owns (Some t) tasks u e = let here = live-here (is_ended_task (slice_get tasks t)) t u e in subst (λ (v : ℕ). is_ended_task (slice_get tasks v) ≡ false) here.1 here.0

-- ---- the row
module _ (wanted : Wanted) (s after : State) (c t : ℕ) (answer : Answer) (act : actor c s.board ≡ Some t) (ready : has_ready_state (slice_get s.board.parts.tasks t) ≡ true) (ran : answer ≡ Ran t)
    (same : after.board ≡ hart_board after.board.parts.harts s.board) (none : (pc : ℕ) → IsAtCall t pc s → ⊥) where
  tasks-same : after.board.parts.tasks ≡ s.board.parts.tasks
  tasks-same = ap (λ (b : Board). b.parts.tasks) same

  task-same : {X : Type 0} (r : Option Task → X) (u : ℕ) → r (slice_get after.board.parts.tasks u) ≡ r (slice_get s.board.parts.tasks u)
  task-same r u = ap (λ (tasks : List Task). r (slice_get tasks u)) tasks-same

  ready-after : has_ready_state (slice_get after.board.parts.tasks t) ≡ true
  ready-after = task-same has_ready_state t ∙ ready

  caller-is : (u : ℕ) → IsCaller u s (Step c) → u ≡ t
  caller-is u h =
      let cpu : c ≡ h.0 = cc in
      let runs : current c s.board.parts ≡ Some u = subst (λ (d : ℕ). current d s.board.parts ≡ Some u) (sym cpu) h.2 in
      let one : Some u ≡ Some t = sym runs ∙ actor-runs c t s.board act in cc

  no-caller : (u pc : ℕ) → IsCaller u s (Step c) → IsAtCall u pc s → ⊥
  no-caller u pc h at = none pc (subst (λ (v : ℕ). IsAtCall v pc s) (caller-is u h) at)

  goes : (d : ℕ) → Some c ≡ Some d → stopped_at d after ≡ true → ⊥
  goes d e h =
      let cpu : c ≡ d = cc in
      let now = acts c t s.board act in
      let on : stopped_at c s ≡ false = ap is_stopped now.at ∙ now.goes in
      let still : stopped_at d after ≡ stopped_at d s = ap (λ (b : Board). is_stopped (slice_get b.parts.processors d)) same in
      let off : stopped_at d s ≡ false = subst (λ (n : ℕ). stopped_at n s ≡ false) cpu on in
      let no : true ≡ false = sym h ∙ still ∙ off in cc

  no-fault : (u : ℕ) → answer ≡ Ran u → faulted_at u after ≡ true → ⊥
  no-fault u e h =
      let both-ran : Ran t ≡ Ran u = sym ran ∙ e in
      let one : t ≡ u = cc in
      let not : faulted_at u after ≡ false = subst (λ (v : ℕ). faulted_at v after ≡ false) one (unfaulted (slice_get after.board.parts.tasks t) ready-after) in
      let no : true ≡ false = sym h ∙ not in cc

  no-deadlock : (lines : List ℕ) → IsDeadlock lines after → ⊥
  no-deadlock lines h =
      let stuck = h.each t (task-below after.board.parts.tasks t ready-after) in
      let no : true ≡ false = sym stuck ∙ free lines after.board.parts.timers (slice_get after.board.parts.tasks t) ready-after in cc

  no-abandoned : (u m : ℕ) → IsAbandoned u m s after → ⊥
  no-abandoned u m h =
      let alive : is_ended_task (slice_get s.board.parts.tasks u) ≡ false = live-owns (owner s.board.parts.mutexes m) s.board.parts.tasks u h.0 in
      let ended = (both (ended_at u after) (is_another u (owner after.board.parts.mutexes m)) h.1).0 in
      let no : true ≡ false = sym ended ∙ task-same is_ended_task u ∙ alive in cc

  no-demoted : (u : ℕ) → IsDemoted u s (Step c) after → ⊥
  no-demoted u h =
      let out = (both (is_out_of_band (slice_get s.board.parts.tasks u)) (not (leaves u s)) h.1).0 in
      let no : true ≡ false = sym h.2 ∙ task-same is_in_band_task u ∙ out-of-band (slice_get s.board.parts.tasks u) out in cc

  no-overrun : (u : ℕ) → IsOverrun u s (Step c) after → ⊥
  no-overrun u (inl woken) =
      let wakes = (both (is_task_ready (slice_get after.board.parts.tasks u)) (tells_many (slice_get after.board.parts.harts u)) woken.1).0 in
      let no : true ≡ false = sym wakes ∙ task-same is_task_ready u ∙ unready (slice_get s.board.parts.tasks u) woken.0 in cc
  no-overrun u (inr late) = no-caller u late.1 late.0 late.2

  pub private-harmless : FailsAsWanted wanted s (Step c) answer after → ⊥
  private-harmless (failures.Ebreak d, sought, fails) = goes d fails.0 fails.1
  private-harmless (failures.Fault u, sought, fails) = no-fault u fails.1 fails.2
  private-harmless (failures.Deadlock, sought, fails) = no-deadlock wanted.lines fails
  private-harmless (failures.Notice u kind, sought, fails) = fails.0 (ap (λ (b : Board). b.parts.notices.total) same)
  private-harmless (failures.Refused u e, sought, fails) = no-caller u fails.1.0 fails.0 fails.1.1
  private-harmless (failures.Abandoned u m, sought, fails) = no-abandoned u m fails.1
  private-harmless (failures.Demoted u, sought, fails) = no-demoted u fails
  private-harmless (failures.Overrun u, sought, fails) = no-overrun u fails.1
  private-harmless (failures.Lost d line, sought, fails) = cc
  private-harmless (failures.Held m, sought, fails) = cc
  private-harmless (failures.KeptBack u, sought, fails) = cc
  private-harmless (failures.Stuck u, sought, fails) = cc
