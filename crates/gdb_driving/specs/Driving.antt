-- Processors that are stopped and that go on, and one instruction, by events.
use Rattle.std.specs.Prelude.{◌≡◌, ◌≢◌, ℕ, ◌<◌, ◌⊎◌, Bool, true, Option, length, option_map, slice_get, Some, Ok}
use Rattle.evm_model.specs.Event.{Event}
use Rattle.evm_model.specs.Replay.{apply}
use Rattle.evm_model.specs.State.{State}
use Rattle.evm_model.specs.declared.event.Answer.{Answer}
use Rattle.evm_model.specs.declared.event.Event.TheVariants.{Go, StepI, Stop}
use Rattle.evm_model.specs.declared.processor.Processor.{Processor}

-- whether a processor is stopped, if there is one
abbrev pub stop_bit : ℕ → State → Option Bool
stop_bit c s = option_map (λ (p : Processor). p.stopped) (slice_get s.board.parts.processors c)

-- one machine becomes the other by an event
abbrev pub ChangesBy : Event → State → State → Type 0
ChangesBy event old new = (answer : Answer) × (apply old event ≡ Ok (new, answer))

-- a processor was stopped already, or is by the event
abbrev pub IsStopped : ℕ → State → State → Type 0
IsStopped c old new = ((stop_bit c old ≡ Some true) × (new ≡ old)) ⊎ ChangesBy (Stop c) old new

-- a processor isn't stopped, or goes on by the event
abbrev pub GoesBy : ℕ → State → State → Type 0
GoesBy c old new = ((stop_bit c old ≢ Some true) × (new ≡ old)) ⊎ ChangesBy (Go c) old new

-- all processors are stopped, or all go on
abbrev pub AllAre : Bool → State → Type 0
AllAre stopped s = (c : ℕ) → c < length s.board.parts.processors → stop_bit c s ≡ Some stopped

-- the last event is one instruction of a processor
abbrev pub EndsWithStep : ℕ → State → Type 0
EndsWithStep c s = (before : State) × ChangesBy (StepI c) before s
