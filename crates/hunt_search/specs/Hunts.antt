-- What a hunt finds.
use Rattle.std.specs.Prelude.{List, ℕ, Option, Some, None, All, ⊤}
use Rattle.evm_ram.specs.Images.{Contents}
use Rattle.evm_model.specs.State.{State}
use Rattle.evm_model.specs.declared.boot.Boot.{Boot}
use Rattle.hunt_schedules.specs.Runs.{IsFound}
use Rattle.hunt_failures.specs.declared.failure.Failure.{Failure}
use Rattle.hunt_search.specs.declared.hunting.Row.{Row}

-- a machine has failed so, and is the replay of its journal from the boot with the image
abbrev pub IsMet : Contents → Boot → List ℕ → Option Failure → Type 0
IsMet image boot lines None = ⊤
IsMet image boot lines (Some failure) = (s : State) × IsFound image boot lines failure s

-- each row is a failure of a machine
abbrev pub AreFound : Contents → Boot → List ℕ → List Row → Type 0
AreFound image boot lines rows = All (λ (row : Row). IsMet image boot lines row.failure) rows
