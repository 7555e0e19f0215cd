-- A task wakes, where it is known whether it owns a mutex.
use Rattle.std.specs.Prelude.{ℕ, Bool}
use Rattle.evm_model.specs.Harts.{A0, set_register}
use Rattle.evm_model.specs.State.{Parts, on_hart, on_task}
use Rattle.evm_model.specs.Tasks.{restamp}
use Rattle.evm_model.specs.Waits.{woken}

-- task t wakes, and its call is answered with this value: in-band if it is weak, unless it owns a mutex
abbrev pub woken_with : ℕ → ℕ → Bool → Parts → Parts
woken_with t value owns p = restamp t (on_task t (woken owns) (on_hart t (set_register A0 value) p))
