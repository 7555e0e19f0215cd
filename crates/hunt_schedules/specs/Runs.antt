-- What a run finds.
use Rattle.std.specs.Prelude.{◌≡◌, List, ℕ, Ok, ⊤}
use Rattle.evm_ram.specs.Images.{Contents}
use Rattle.evm_model.specs.Event.{Event}
use Rattle.evm_model.specs.Replay.{apply}
use Rattle.evm_model.specs.State.{State}
use Rattle.evm_model.specs.declared.boot.Boot.{Boot}
use Rattle.evm_model.specs.declared.event.Answer.{Answer}
use Rattle.hunt_schedules.specs.Beginning.{ComesFrom}
use Rattle.hunt_failures.specs.Failures.{Fails}
use Rattle.hunt_failures.specs.declared.failure.Failure.{Failure}
use Rattle.hunt_schedules.specs.declared.running.RunOutcome.{RunOutcome}
use Rattle.hunt_schedules.specs.declared.running.RunOutcome.TheVariants.{Failed, Over, Full}

-- a machine whose last event has made it fail
abbrev pub HasFailed : List ℕ → Failure → State → Type 0
HasFailed lines failure s = (before : State) × (event : Event) × (answer : Answer) × (apply before event ≡ Ok (s, answer)) × Fails lines failure before event answer s

-- a machine that has failed, and is the replay of its journal from the boot with the image
abbrev pub IsFound : Contents → Boot → List ℕ → Failure → State → Type 0
IsFound image boot lines failure s = ComesFrom image boot s × HasFailed lines failure s

-- a run that ended as failed left a machine that has failed
abbrev pub Ends : List ℕ → RunOutcome → State → Type 0
Ends lines (Failed failure) s = HasFailed lines failure s
Ends lines Over s = ⊤
Ends lines Full s = ⊤
