-- Which lines of which processors an event may raise.
use Rattle.std.specs.Prelude.{ℕ, ◌-◌, ◌==◌, ◌&&◌, ◌||◌, Option, Some, None, Bool, false, nat_le, slice_get}
use Rattle.evm_model.specs.Boosts.{is_number}
use Rattle.evm_isa.specs.Decoded.{decoded}
use Rattle.evm_isa.specs.declared.inst.Inst.{Inst}
use Rattle.evm_exec.specs.Does.{does}
use Rattle.evm_exec.specs.Memory.{width_of_load}
use Rattle.evm_exec.specs.declared.hart.Hart.{Hart}
use Rattle.evm_exec.specs.declared.outcome.Effect.{Effect}
use Rattle.evm_exec.specs.declared.outcome.Effect.TheVariants.{Load, Store}
use Rattle.evm_dev.specs.Rows.{ticked}
use Rattle.evm_model.specs.Current.{current}
use Rattle.evm_model.specs.Devices.{Attached, Accessed}
use Rattle.evm_model.specs.Memory.{fetch, read, write}
use Rattle.evm_model.specs.State.{Board, Memory}
use Rattle.evm_model.specs.Event.{Event}
use Rattle.evm_model.specs.declared.event.Event.TheVariants.{Step, Tick, Raise, Bell, StepI}
use Rattle.evm_model.specs.declared.limits.TheConstants.{DEVICE_LINE}

-- ---- an instruction
-- the load or store that it is
abbrev pub access_of : Effect → Memory → Option Accessed
access_of (Load op rd address) m = read address (width_of_load op) m
access_of (Store width address value) m = write address width value m
access_of _ m = None

abbrev pub inst_access : Option Inst → Hart → Memory → Option Accessed
inst_access None hart m = None
inst_access (Some inst) hart m = access_of (does inst hart.regs hart.pc) m

abbrev pub word_access : Option ℕ → Hart → Memory → Option Accessed
word_access None hart m = None
word_access (Some word) hart m = inst_access (decoded word) hart m

abbrev pub hart_access : Option Hart → Memory → Option Accessed
hart_access None m = None
hart_access (Some hart) m = word_access (fetch hart.pc m) hart m

abbrev pub task_access : Option ℕ → Board → Option Accessed
task_access None b = None
task_access (Some t) b = hart_access (slice_get b.parts.harts t) b.memory

-- the access of the instruction at the pc of processor c's current task
abbrev pub step_access : ℕ → Board → Option Accessed
step_access c b = task_access (current c b.parts) b

-- the line that a device raises by it
abbrev pub line_of : Option Accessed → Option ℕ
line_of None = None
line_of (Some access) = access.line

-- ---- a tick
abbrev pub raises_by_tick : Option Attached → Bool
raises_by_tick None = false
raises_by_tick (Some device) = (ticked device.kind device.words).raise

-- ---- an event
-- devices raise lines from DEVICE_LINE on, of processor 0
abbrev pub by_device : ℕ → ℕ → Bool → Bool
by_device d l raised = nat_le DEVICE_LINE l && (d == 0 && raised)

-- line l of processor d: a step tells other processors by line 1, and a tick raises line 0 on each
abbrev pub may_raise : Event → Board → ℕ → ℕ → Bool
may_raise (Step c) b d l = l == 1 || by_device d l (is_number (line_of (step_access c b)) l)
may_raise (StepI c) b d l = l == 1 || by_device d l (is_number (line_of (step_access c b)) l)
may_raise Tick b d l = l == 0 || by_device d l (raises_by_tick (slice_get b.memory.devices (l - DEVICE_LINE)))
may_raise (Raise c m) b d l = c == d && m == l
may_raise (Bell c m) b d l = c == d && m == l
may_raise _ b d l = false
