-- The first of those that wait for something isn't ready, so that it isn't ahead.
use Rattle.std.proofs.Common.{◌≡◌, ℕ, zero, suc, Bool, true, false, Option, Some, None, length, refl, ◌∙◌}
use Rattle.std.specs.Prelude.{slice_get, ◌==◌, ◌&&◌, if◌then◌else◌}
use Rattle.evm_model.specs.Good.{is_ready}
use Rattle.evm_model.specs.Ranks.{first, leader, goes_before, rank, stamp}
use Rattle.evm_model.specs.State.{Parts}
use Rattle.evm_model.specs.Waits.{awaits, awaits_line, awaits_task, first_waiter, is_wait_for}
use Rattle.evm_model.specs.declared.task.Task.{Task}
use Rattle.evm_model.specs.declared.task.TaskState.{TaskState}
use Rattle.evm_model.specs.declared.task.TaskState.TheVariants.{InReady, OobReady}
use Rattle.evm_model.specs.declared.task.Wait.{Wait}
use Rattle.evm_model.specs.declared.task.Wait.TheVariants.{Line}
use Rattle.law_runs.specs.Ahead.{HeadStart, Ahead, has_ready_state}
use Rattle.law_runs.proofs.Alike.AheadReading.{at_task, still}

-- what is so of the members is so of the first
chosen : (m : ℕ → Bool) (b : Bool) (t u : ℕ) → m t ≡ true → m u ≡ true → m (if b then t else u) ≡ true
chosen m true t u e f = e
chosen m false t u e f = f

leader-member : (m : ℕ → Bool) (r s : ℕ → ℕ) (o : Option ℕ) (n : ℕ) → ((t : ℕ) → o ≡ Some t → m t ≡ true) → m n ≡ true → m (leader r s o n) ≡ true
leader-member m r s None n h e = e
leader-member m r s (Some b) n h e = chosen m (goes_before r s n b) n b e (h b refl)

member-step : (m : ℕ → Bool) (r s : ℕ → ℕ) (n : ℕ) (o : Option ℕ) (b : Bool) (t : ℕ) → m n ≡ b → ((t : ℕ) → o ≡ Some t → m t ≡ true)
    → (if b then Some (leader r s o n) else o) ≡ Some t → m t ≡ true
member-step m r s n o true t at h e = let is : leader r s o n ≡ t = cc in rw (← is) (leader-member m r s o n h at)
member-step m r s n o false t at h e = h t e

first-member : (m : ℕ → Bool) (r s : ℕ → ℕ) (n t : ℕ) → first m r s n ≡ Some t → m t ≡ true
unfolding first
first-member m r s zero t e = cc
first-member m r s (suc n) t e = member-step m r s n (first m r s n) (m n) t refl (first-member m r s n) e

waits-state : (wait : Wait) (state : TaskState) → is_wait_for wait state ≡ true → is_ready state ≡ false
waits-state wait InReady e = cc
waits-state wait OobReady e = cc
waits-state wait _ e = refl

waits-not : (wait : Wait) (task : Option Task) → awaits_task wait task ≡ true → has_ready_state task ≡ false
waits-not wait None e = refl
waits-not wait (Some task) e = waits-state wait task.state e

line-waits : (c l : ℕ) (task : Option Task) → awaits_line c l task ≡ true → has_ready_state task ≡ false
line-waits c l None e = cc
line-waits c l (Some task) e = waits-state (Line l) task.state (and_first (is_wait_for (Line l) task.state) (task.cpu == c) e)
  where
    and_first : (a b : Bool) → (a && b) ≡ true → a ≡ true
    and_first true b e = refl
    and_first false b e = cc

-- what is found, if it is, is no task that is ahead
abbrev pub IsStill : HeadStart → Option ℕ → Type 0
IsStill lead o = (t : ℕ) → o ≡ Some t → lead.rows t ≡ 0

module _ {lead : HeadStart} {p q : Parts} (a : Ahead lead p q) where
  -- a task that isn't ready isn't ahead
  pub other-still : (t : ℕ) → has_ready_state (slice_get q.tasks t) ≡ false → lead.rows t ≡ 0
  other-still t e = still a t (at_task a has_ready_state t ∙ e)

  pub line-still : (c l t : ℕ) → awaits_line c l (slice_get q.tasks t) ≡ true → lead.rows t ≡ 0
  line-still c l t e = other-still t (line-waits c l (slice_get q.tasks t) e)

  pub waiter-still : (wait : Wait) → IsStill lead (first_waiter wait q)
  unfolding first_waiter
  waiter-still wait t e =
      other-still t (waits-not wait (slice_get q.tasks t) (first-member (awaits wait q.tasks) (rank q.mutexes q.tasks) (stamp q.tasks) (length q.tasks) t e))
