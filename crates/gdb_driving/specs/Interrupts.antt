-- Why a continue ends: it is reported as interrupted only where a stop was asked for.
use Rattle.std.specs.Prelude.{ℕ, ◌-◌, ◌*◌, ◌==◌, Bool, length, Option, Some, None}
use Rattle.evm_model.specs.State.{State}
use Rattle.gdb_driving.specs.declared.stops.TargetHalt.{TargetHalt}
use Rattle.gdb_driving.specs.declared.stops.Why.{Why}
use Rattle.gdb_driving.specs.declared.stops.Why.TheVariants.{Interrupted}

abbrev pub OnlyIfAsked : Type 0 → Why → Type 0
OnlyIfAsked asked Interrupted = asked
OnlyIfAsked asked _ = Unit {0}

-- the machine stopped by itself
abbrev pub IsAlone : Why → Type 0
IsAlone why = OnlyIfAsked ⊥ why

abbrev pub HaltsAlone : Option TargetHalt → Type 0
HaltsAlone None = Unit {0}
HaltsAlone (Some halt) = IsAlone halt.why

-- how many events the journal has room for, if each processor is first let go and stopped at the end
abbrev pub room_to_run : State → ℕ
room_to_run s = s.boot.capacity - length s.journal - length s.board.parts.processors * 2

abbrev pub lacks_room : State → Bool
lacks_room s = room_to_run s == 0
