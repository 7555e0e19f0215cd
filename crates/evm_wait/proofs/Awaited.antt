-- What the entries of tasks that wait say is what their tasks say.
use Rattle.std.proofs.Common.{◌≡◌, ℕ, zero, suc, List, [], ◌∷◌, true, length, refl}
use Rattle.std.specs.Prelude.{map}
use Rattle.std.proofs.lemmas.List.{length-map}
use Rattle.evm_model.specs.Ranks.{first, stamp}
use Rattle.evm_model.specs.Waits.{awaits, is_wait_for}
use Rattle.evm_model.specs.declared.task.Task.{Task}
use Rattle.evm_model.specs.declared.task.TaskState.{TaskState}
use Rattle.evm_model.specs.declared.task.TaskState.TheVariants.{InReady, OobReady, Waits, Exit, Faulted}
use Rattle.evm_model.specs.declared.task.Wait.{Wait}
use Rattle.evm_ready.proofs.Firsts.{first-agree}
use Rattle.evm_ready.specs.Places.{entry}
use Rattle.evm_wait.specs.Waiters.{awaited, awaited_in, waiter_stamp, waits_for}

-- ---- one task
waits-in : (state : TaskState) (stamp : ℕ) (wait : Wait) → waits_for wait (awaited_in state stamp) ≡ is_wait_for wait state
waits-in InReady stamp wait = refl
waits-in OobReady stamp wait = refl
waits-in (Waits other) stamp wait = refl
waits-in Exit stamp wait = refl
waits-in (Faulted fault) stamp wait = refl

stamp-in : (state : TaskState) (stamp : ℕ) (wait : Wait) → waits_for wait (awaited_in state stamp) ≡ true → waiter_stamp (awaited_in state stamp) ≡ stamp
stamp-in InReady stamp wait e = cc
stamp-in OobReady stamp wait e = cc
stamp-in (Waits other) stamp wait e = refl
stamp-in Exit stamp wait e = cc
stamp-in (Faulted fault) stamp wait e = cc

-- ---- by number
waits-at : (tasks : List Task) (wait : Wait) (t : ℕ) → waits_for wait (entry (map awaited tasks) t) ≡ awaits wait tasks t
waits-at [] wait t = refl
waits-at (task ∷ tasks) wait zero = waits-in task.state task.stamp wait
waits-at (task ∷ tasks) wait (suc t) = waits-at tasks wait t

stamp-at : (tasks : List Task) (wait : Wait) (t : ℕ) → waits_for wait (entry (map awaited tasks) t) ≡ true
    → waiter_stamp (entry (map awaited tasks) t) ≡ stamp tasks t
stamp-at [] wait t e = refl
stamp-at (task ∷ tasks) wait zero e = stamp-in task.state task.stamp wait e
stamp-at (task ∷ tasks) wait (suc t) e = stamp-at tasks wait t e

-- the first of them
pub first-awaited : (wait : Wait) (rank : ℕ → ℕ) (tasks : List Task)
    → first (λ t. waits_for wait (entry (map awaited tasks) t)) rank (λ t. waiter_stamp (entry (map awaited tasks) t)) (length (map awaited tasks))
    ≡ first (awaits wait tasks) rank (stamp tasks) (length tasks)
first-awaited wait rank tasks =
    rw (length-map tasks awaited) (first-agree _ _ rank _ _ (length tasks) (waits-at tasks wait) (stamp-at tasks wait))
