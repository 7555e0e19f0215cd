-- The turns of tasks that wait: a queue for each object that they wait for.
use Rattle.std.specs.Prelude.{◌≡◌, ◌<◌, ℕ, ◌+◌, ◌*◌, List, Option, Some, None, length}
use Rattle.evm_model.specs.Waits.{same_wait}
use Rattle.evm_model.specs.declared.task.Wait.{Wait}
use Rattle.evm_model.specs.declared.task.Wait.TheVariants.{Line, Lock, Reacquire, Semaphore, Event, Flags, Sleep, Timer}
use Rattle.evm_ready.specs.Queues.{Queued, is_queue, turns_for}
use Rattle.evm_ready.specs.declared.turn.Turn.{Turn}
use Rattle.evm_wait.specs.declared.waiter.Waiter.{Waiter}
use Rattle.evm_wait.specs.declared.TheConstants.{WAIT_QUEUE_LIMIT}

-- the queue of a task that waits for this: 8 for each number, by kinds; none for lines and sleeps
abbrev pub wait_queue : Wait → Option ℕ
wait_queue (Line l) = None
wait_queue (Lock m) = Some (m * 8)
wait_queue (Reacquire m answer) = Some (m * 8)
wait_queue (Semaphore s) = Some (s * 8 + 1)
wait_queue (Event e) = Some (e * 8 + 2)
wait_queue (Flags f) = Some (f * 8 + 3)
wait_queue Sleep = None
wait_queue (Timer n) = Some (n * 8 + 4)

abbrev pub waiter_turn : Waiter → ℕ → Turn
waiter_turn waiter rank = record { queue = wait_queue waiter.wait; rank = rank; stamp = waiter.stamp }

-- the turns of all tasks
abbrev pub wait_turns : List (Option Waiter) → List ℕ → List Turn
wait_turns waiters ranks = turns_for waiter_turn waiters ranks

-- each task has a rank and the turn that its wait gives it
pub record AreWaiting (waiters : List (Option Waiter)) (ranks : List ℕ) (queued : Queued) : Type 0 where
  pub ranked : length ranks ≡ length waiters
  pub turns : queued.turns ≡ wait_turns waiters ranks
  pub queues : queued.count ≡ WAIT_QUEUE_LIMIT

-- there is queue q, and in it are all tasks that wait for this, and no others
pub record IsQueueFor (wait : Wait) (q : ℕ) : Type 0 where
  pub there : q < WAIT_QUEUE_LIMIT
  pub members : (other : Wait) → is_queue q (wait_queue other) ≡ same_wait other wait
