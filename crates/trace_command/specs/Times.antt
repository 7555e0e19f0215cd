-- The clock of a trace: when an item of a journal is told.
use Rattle.std.specs.Prelude.{ℕ, ◌+◌, ◌-◌, ◌*◌, ◌/◌, ◌^◌, Bool, true, false, if◌then◌else◌, min}
use Rattle.evm_model.specs.declared.event.Event.{Event as EventOf}
use Rattle.evm_model.specs.declared.event.Event.TheVariants.{Step, StepI, Tick}
use Rattle.run_walk.specs.declared.item.Item.{Item}
use Rattle.trace_command.specs.declared.clock.Clock.{Clock}
use Rattle.trace_command.specs.declared.clock.Clock.TheVariants.{Events, Steps, Ticks}

abbrev pub is_step : EventOf ℕ → Bool
is_step (Step c) = true
is_step (StepI c) = true
is_step _ = false

abbrev pub is_tick_event : EventOf ℕ → Bool
is_tick_event Tick = true
is_tick_event _ = false

-- a time has 64 bits
abbrev pub bounded : ℕ → ℕ
bounded at = min at (2 ^ 64 - 1)

-- a tick lasts for 1,000: behind it the next thousand begins, behind another event there is one more, up to the last of this thousand
abbrev pub ticks_behind : Bool → ℕ → ℕ → ℕ
ticks_behind true count at = bounded ((at / 1000 + 1) * 1000)
ticks_behind false count at = min (bounded (at + count)) (bounded (at / 1000 * 1000 + 999))

-- the time behind an item that is told at a time
abbrev pub time_behind : Clock → Item → ℕ → ℕ
time_behind Events item at = bounded (at + item.count)
time_behind Steps item at = if is_step item.event then bounded (at + item.count) else at
time_behind Ticks item at = ticks_behind (is_tick_event item.event) item.count at
