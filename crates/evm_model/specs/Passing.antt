-- How a mutex passes on, and how a task ends.
use Rattle.std.specs.Prelude.{ℕ, zero, suc, Option, Some, None, false, if◌then◌else◌, slice_get, length}
use Rattle.evm_model.specs.Boosts.{is_number}
use Rattle.evm_model.specs.Mutexes.{owner, held_by, freed}
use Rattle.evm_model.specs.Pipes.{set_stall}
use Rattle.evm_model.specs.State.{Parts, on_pipe, on_mutex}
use Rattle.evm_model.specs.Tasks.{set_state, leave_in_band}
use Rattle.evm_model.specs.Waits.{first_waiter, wake, kept_of}
use Rattle.evm_model.specs.declared.stage.Stage.TheVariants.{InBand}
use Rattle.evm_model.specs.declared.task.TaskState.{TaskState}
use Rattle.evm_model.specs.declared.task.Wait.TheVariants.{Lock}

-- a task that waited for mutex m owns it and wakes, with the answer that it kept; if there is none, the mutex is free
abbrev pub hand_over_to : Option ℕ → ℕ → Parts → Parts
hand_over_to None m p = on_mutex m freed p
hand_over_to (Some t) m p = wake t (kept_of (slice_get p.tasks t)) (on_mutex m (held_by t 1) p)

unfoldable pub hand_over : ℕ → Parts → Parts
hand_over m p = hand_over_to (first_waiter (Lock m) p) m p

-- mutex m passes on if task t owns it
abbrev pub hand_over_if : ℕ → ℕ → Parts → Parts
hand_over_if t m p = if is_number (owner p.mutexes m) t then hand_over m p else p

-- of the mutexes below a number those of task t have passed on, by number
unfoldable pub hand_over_below : ℕ → ℕ → Parts → Parts
hand_over_below t zero p = p
hand_over_below t (suc m) p = hand_over_if t m (hand_over_below t m p)

-- task t of processor c ends: its mutexes pass on, in-band isn't stalled there afterwards, and it is in-band current
-- no more
unfoldable pub end_task : ℕ → ℕ → TaskState → Parts → Parts
end_task c t state p =
    set_state t state (leave_in_band c (on_pipe c (set_stall InBand false) (hand_over_below t (length p.mutexes) p)))
