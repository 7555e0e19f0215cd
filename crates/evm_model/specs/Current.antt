-- The task that a processor runs, and the stage that it is on.
use Rattle.std.specs.Prelude.{ℕ, List, Option, Some, None, Bool, true, false, not, ◌==◌, slice_get}
use Rattle.evm_model.specs.Ranks.{is_oob_ready}
use Rattle.evm_model.specs.State.{Parts}
use Rattle.evm_model.specs.declared.processor.Processor.{Processor}
use Rattle.evm_model.specs.declared.task.Task.{Task}

abbrev pub current_of : Option Processor → Option ℕ
current_of None = None
current_of (Some p) = p.current

-- the number of the task that processor c runs
abbrev pub current : ℕ → Parts → Option ℕ
current c p = current_of (slice_get p.processors c)

abbrev pub is_oob_task : Option Task → Bool
is_oob_task None = false
is_oob_task (Some t) = is_oob_ready t.state

-- whether there is such a task and it is ready out-of-band
abbrev pub is_oob : Option ℕ → List Task → Bool
is_oob None tasks = false
is_oob (Some t) tasks = is_oob_task (slice_get tasks t)

-- whether a processor that should run the first runs another, or none
abbrev pub differs : Option ℕ → Option ℕ → Bool
differs None now = false
differs (Some t) None = true
differs (Some t) (Some u) = not (t == u)
