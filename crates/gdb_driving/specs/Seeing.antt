-- What a processor does next, and what stops it there.
use Rattle.std.specs.Prelude.{◌≡◌, ℕ, ◌-◌, Bool, true, false, ◌&&◌, Option, Some, None, nat_le, nat_lt, if◌then◌else◌}
use Rattle.evm_exec.specs.declared.outcome.Access.{Access}
use Rattle.evm_exec.specs.declared.outcome.Direction.{Direction}
use Rattle.evm_exec.specs.declared.outcome.Direction.TheVariants.{Load, Store}
use Rattle.gdb_packets.specs.declared.command.WatchKind.{WatchKind}
use Rattle.gdb_packets.specs.declared.command.WatchKind.TheVariants as kinds
use Rattle.evm_model.specs.Current.{current}
use Rattle.evm_model.specs.Event.{Event}
use Rattle.evm_model.specs.State.{State}
use Rattle.evm_model.specs.declared.event.Event.TheVariants.{Step, StepI}
use Rattle.evm_ram.specs.Width.{bytes_of}
use Rattle.gdb_driving.specs.declared.points.WatchPoint.{WatchPoint}

-- the processor that steps by an event
abbrev pub stepper : Event → Option ℕ
stepper (Step c) = Some c
stepper (StepI c) = Some c
stepper _ = None

-- an event is a step of the processor whose current task is t
pub record IsStepOf (t : ℕ) (event : Event) (s : State) : Type 0 where
  pub cpu : ℕ
  pub steps : stepper event ≡ Some cpu
  pub runs : current cpu s.board.parts ≡ Some t

-- ---- watchpoints
-- a watchpoint is for stores, for loads, or for both
abbrev pub concerns : WatchKind → Direction → Bool
concerns kinds.Write Store = true
concerns kinds.Write Load = false
concerns kinds.Read Store = false
concerns kinds.Read Load = true
concerns kinds.Access direction = true

-- `count` bytes from an address on have one in common with `width` bytes from another
abbrev pub overlaps : ℕ → ℕ → ℕ → ℕ → Bool
overlaps first count other width = if nat_le first other then nat_lt (other - first) count else nat_lt (first - other) width

abbrev pub touches : WatchPoint → Access → Bool
touches point access = concerns point.kind access.direction && overlaps point.address point.count access.address (bytes_of access.width)
