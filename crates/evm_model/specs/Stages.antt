-- What calls ask of a task's stage, and how they are refused.
use Rattle.std.specs.Prelude.{ℕ, Option, Some, None, Bool, true, false, not, ◌==◌, ◌&&◌, nat_le, if◌then◌else◌, slice_get}
use Rattle.evm_model.specs.Errnos.{refusal_answer}
use Rattle.evm_model.specs.Pipes.{Pipe, log_of}
use Rattle.evm_model.specs.Current.{is_oob}
use Rattle.evm_model.specs.State.{Parts}
use Rattle.evm_model.specs.Waits.{begin_wait}
use Rattle.evm_model.specs.declared.call.Outcome.{Outcome}
use Rattle.evm_model.specs.declared.call.Outcome.TheVariants.{Returns, Blocks}
use Rattle.evm_model.specs.declared.errno.Errno.{Errno}
use Rattle.evm_model.specs.declared.errno.Errno.TheVariants.{NotPermitted, TimedOut}
use Rattle.evm_model.specs.declared.stage.Stage.{Stage}
use Rattle.evm_model.specs.declared.stage.Stage.TheVariants.{OutOfBand, InBand}
use Rattle.evm_model.specs.declared.task.Class.{Class}
use Rattle.evm_model.specs.declared.task.Class.TheVariants.{Unattached}
use Rattle.evm_model.specs.declared.task.Task.{Task}
use Rattle.evm_model.specs.declared.task.Wait.{Wait}

-- a call that is refused changes nothing, and answers its error
abbrev pub refused : Errno → Parts → Parts × Outcome
refused e p = (p, Returns (refusal_answer e))

abbrev pub bit : Bool → ℕ
bit b = if b then 1 else 0

abbrev pub stalled_pipe : Stage → Option Pipe → Bool
stalled_pipe stage None = false
stalled_pipe stage (Some pipe) = (log_of stage pipe).stalled

-- whether a stage is stalled on c
abbrev pub is_stalled : Stage → ℕ → Parts → Bool
is_stalled stage c p = stalled_pipe stage (slice_get p.pipes c)

abbrev pub is_class : Class → Bool
is_class Unattached = false
is_class _ = true

abbrev pub is_attached_task : Option Task → Bool
is_attached_task None = false
is_attached_task (Some task) = is_class task.class

-- whether task t has a class
abbrev pub is_attached : ℕ → Parts → Bool
is_attached t p = is_attached_task (slice_get p.tasks t)

-- the stage that task t is on
abbrev pub stage_at : ℕ → Parts → Stage
stage_at t p = if is_oob (Some t) p.tasks then OutOfBand else InBand

-- a task of c may go out-of-band where it has a class and in-band isn't stalled
abbrev pub may_promote : ℕ → ℕ → Parts → Bool
may_promote c t p = is_attached t p && not (is_stalled InBand c p)

-- ---- why a call may not wait
-- a deadline that has come; 0 is none
abbrev pub late : ℕ → ℕ → Option Errno
late now deadline = if deadline == 0 then None else (if nat_le deadline now then Some TimedOut else None)

abbrev pub or_else : Option Errno → Option Errno → Option Errno
or_else None second = second
or_else (Some e) second = Some e

-- why a call may not wait, in this order: its stage is stalled, the call's own reason, its deadline
abbrev pub wait_refusal : Bool → Option Errno → ℕ → ℕ → Option Errno
wait_refusal stalled own now deadline = or_else (if stalled then Some NotPermitted else None) (or_else own (late now deadline))

-- task t waits, unless the call is refused
abbrev pub wait_unless : Option Errno → ℕ → Wait → ℕ → Parts → Parts × Outcome
wait_unless (Some e) t wait deadline p = refused e p
wait_unless None t wait deadline p = (begin_wait t wait deadline p, Blocks)
