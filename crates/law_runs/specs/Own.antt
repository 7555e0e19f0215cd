-- What an ECALL leaves alone of the task that makes it.
use Rattle.std.specs.Prelude.{◌≡◌, ◌⊎◌, ℕ, Bool, true, false, Option, Some, None, slice_get}
use Rattle.evm_exec.specs.Registers.{register_of, with_register}
use Rattle.evm_exec.specs.declared.hart.Hart.{Hart}
use Rattle.evm_model.specs.Calls.{call_of, call}
use Rattle.evm_model.specs.Good.{is_ready}
use Rattle.evm_model.specs.Harts.{A0, A7}
use Rattle.evm_model.specs.State.{Parts}
use Rattle.evm_model.specs.declared.call.Call.{Call}
use Rattle.evm_model.specs.declared.call.Call.TheVariants.{Exit as Ends, Yield, WaitLine, Attach, Detach, SwitchInBand, SetSched, SetMode, Lock, SemGet, EventWait, FlagsWait, SleepUntil, TimerWait, YieldOob, Migrate}
use Rattle.evm_model.specs.declared.task.Task.{Task}

-- what may change of a task
pub record Fields : Type 0 where
  pub cpu : Bool
  -- the class and the priority
  pub policy : Bool
  pub slice : Bool
  pub mode : Bool
  pub stamp : Bool
  pub deadline : Bool
  pub state : Bool

abbrev pub nothing : Fields
nothing = record { cpu = false; policy = false; slice = false; mode = false; stamp = false; deadline = false; state = false }

abbrev pub waiting : Fields
waiting = record nothing { stamp = true; deadline = true; state = true }

-- what each call may change of its own task
abbrev pub changes : Call → Fields
changes Ends = record nothing { state = true }
changes Yield = record nothing { stamp = true }
changes WaitLine = waiting
changes Attach = record nothing { policy = true; slice = true }
changes Detach = record nothing { policy = true; mode = true }
changes SwitchInBand = record nothing { stamp = true; state = true }
changes SetSched = record nothing { policy = true; slice = true }
changes SetMode = record nothing { mode = true }
changes Lock = waiting
changes SemGet = waiting
changes EventWait = waiting
changes FlagsWait = waiting
changes SleepUntil = waiting
changes TimerWait = waiting
changes YieldOob = record nothing { stamp = true }
changes Migrate = record nothing { cpu = true; stamp = true; state = true }
changes _ = nothing

-- .. and a number that no call has
abbrev pub may_change : Option Call → Fields
may_change None = nothing
may_change (Some made) = changes made

-- x became y, by a call that may change these; its stage may be another one, with another stamp, and it is ready still
pub record Leaves (may : Fields) (x y : Task) : Type 0 where
  pub cpu : may.cpu ≡ false → y.cpu ≡ x.cpu
  pub class : may.policy ≡ false → y.class ≡ x.class
  pub priority : may.policy ≡ false → y.priority ≡ x.priority
  pub slice : may.slice ≡ false → y.slice ≡ x.slice
  pub mode : may.mode ≡ false → y.mode ≡ x.mode
  pub deadline : may.deadline ≡ false → y.deadline ≡ x.deadline
  pub stamp : may.stamp ≡ false → y.state ≡ x.state → y.stamp ≡ x.stamp
  pub state : may.state ≡ false → is_ready y.state ≡ true

-- of the registers at most a0 has another value
abbrev pub OnlyAnswers : Hart → Hart → Type 0
OnlyAnswers x y = (y.regs ≡ x.regs) ⊎ ((value : ℕ) × (y.regs ≡ with_register x.regs A0 value))

-- the caller after its call
pub record CallerAfter (t : ℕ) (task : Task) (hart : Hart) (new : Parts) : Type 0 where
  pub after : Task
  pub left : Hart
  pub there : slice_get new.tasks t ≡ Some after
  pub has : slice_get new.harts t ≡ Some left
  pub leaves : Leaves (may_change (call_of (register_of hart.regs A7))) task after
  pub answers : OnlyAnswers hart left

-- a task that is ready makes an ECALL
abbrev pub CallsLeave : Type 0
CallsLeave = (c t : ℕ) (k : Parts) (task : Task) (hart : Hart) → slice_get k.tasks t ≡ Some task → is_ready task.state ≡ true → slice_get k.harts t ≡ Some hart → CallerAfter t task hart (call c t k)
