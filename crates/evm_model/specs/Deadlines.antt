-- The deadlines of waits, and the sleep.
use Rattle.std.specs.Prelude.{ℕ, zero, suc, List, Option, Some, None, Bool, false, not, ◌==◌, ◌&&◌, nat_le, if◌then◌else◌, slice_get, length}
use Rattle.evm_model.specs.Errnos.{refusal_answer}
use Rattle.evm_model.specs.Events.{reacquire}
use Rattle.evm_model.specs.Ranks.{first}
use Rattle.evm_model.specs.Stages.{is_stalled, wait_refusal, wait_unless}
use Rattle.evm_model.specs.State.{Parts}
use Rattle.evm_model.specs.Waits.{wake}
use Rattle.evm_model.specs.declared.call.Outcome.{Outcome}
use Rattle.evm_model.specs.declared.call.Outcome.TheVariants.{Returns}
use Rattle.evm_model.specs.declared.errno.Errno.TheVariants.{TimedOut}
use Rattle.evm_model.specs.declared.stage.Stage.TheVariants.{OutOfBand}
use Rattle.evm_model.specs.declared.task.Task.{Task}
use Rattle.evm_model.specs.declared.task.TaskState.{TaskState}
use Rattle.evm_model.specs.declared.task.TaskState.TheVariants.{Waits}
use Rattle.evm_model.specs.declared.task.Wait.{Wait}
use Rattle.evm_model.specs.declared.task.Wait.TheVariants.{Event, Sleep}

-- ---- 47: a sleep
-- the task waits until a tick, if it is still to come
unfoldable pub sleep_until : ℕ → ℕ → ℕ → Parts → Parts × Outcome
sleep_until c t until p =
    if nat_le until p.ticks then (p, Returns 0)
    else wait_unless (wait_refusal (is_stalled OutOfBand c p) None p.ticks until) t Sleep until p

-- ---- deadlines that have come
abbrev pub deadline_of : Option Task → ℕ
deadline_of None = 0
deadline_of (Some task) = task.deadline

abbrev pub deadline : List Task → ℕ → ℕ
deadline tasks t = deadline_of (slice_get tasks t)

abbrev pub is_due_task : ℕ → ℕ → Option Task → Bool
is_due_task c now None = false
is_due_task c now (Some task) = not (task.deadline == 0) && (nat_le task.deadline now && task.cpu == c)

-- task t of processor c has a deadline, and it has come
abbrev pub is_due : ℕ → ℕ → List Task → ℕ → Bool
is_due c now tasks t = is_due_task c now (slice_get tasks t)

-- of these tasks the one of least deadline, then of least number
unfoldable pub next_due : ℕ → Parts → Option ℕ
next_due c p = first (is_due c p.ticks p.tasks) (λ _. 0) (deadline p.tasks) (length p.tasks)

-- the wait of task t ends by its deadline: a sleep is answered 0, any other wait -110
abbrev pub end_wait_for : Wait → ℕ → Parts → Parts
end_wait_for Sleep t p = wake t 0 p
end_wait_for (Event e) t p = reacquire e t (refusal_answer TimedOut) p
end_wait_for _ t p = wake t (refusal_answer TimedOut) p

abbrev pub end_wait_in : TaskState → ℕ → Parts → Parts
end_wait_in (Waits wait) t p = end_wait_for wait t p
end_wait_in _ t p = p

abbrev pub end_wait_of : Option Task → ℕ → Parts → Parts
end_wait_of None t p = p
end_wait_of (Some task) t p = end_wait_in task.state t p

unfoldable pub end_wait : ℕ → Parts → Parts
end_wait t p = end_wait_of (slice_get p.tasks t) t p

abbrev pub end_next : Option ℕ → Parts → Parts
end_next None p = p
end_next (Some t) p = end_wait t p

-- the next whose deadline has come, again and again
unfoldable pub end_rounds : ℕ → ℕ → Parts → Parts
end_rounds c zero p = p
end_rounds c (suc n) p = let x = end_rounds c n p in end_next (next_due c x) x

-- the waits on c whose deadlines have come end
unfoldable pub end_waits : ℕ → Parts → Parts
end_waits c p = end_rounds c (length p.tasks) p
