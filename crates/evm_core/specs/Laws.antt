-- What holds of all states and events.
use Rattle.std.specs.Prelude.{◌≡◌, ℕ, ◌<◌, ◌≤◌, ◌⊎◌, List, length, Err}
use Rattle.evm_model.specs.Event.{Event}
use Rattle.evm_model.specs.Good.{GoodState}
use Rattle.evm_model.specs.Profiles.{line_count}
use Rattle.evm_model.specs.Replay.{apply, replay}
use Rattle.evm_model.specs.State.{State}
use Rattle.evm_model.specs.declared.event.Event.TheVariants.{Step, Bell, Tick}
use Rattle.evm_model.specs.declared.refusal.Refusal.{Refusal}
use Rattle.evm_model.specs.declared.refusal.Refusal.TheVariants.{Full, NoSuchCpu}

-- the journal takes no more, and an event is refused for that
abbrev pub IsFull : State → Refusal → Type 0
IsFull s refusal = (refusal ≡ Full) × (s.boot.capacity ≤ length s.journal)

-- there is no processor c, and an event is refused for that
abbrev pub IsAbsent : ℕ → State → Refusal → Type 0
IsAbsent c s refusal = (refusal ≡ NoSuchCpu) × (length s.board.parts.processors ≤ c)

-- a Step is refused on a full journal, or where there is no such processor
abbrev pub StepRefusals : Type 0
StepRefusals = (s : State) (c : ℕ) (refusal : Refusal) → apply s (Step c) ≡ Err refusal → IsFull s refusal ⊎ IsAbsent c s refusal

-- a Bell of one of the lines of one of the processors is refused on a full journal alone
abbrev pub BellRefusals : Type 0
BellRefusals = (s : State) (c line : ℕ) (refusal : Refusal) → apply s (Bell c line) ≡ Err refusal → c < length s.board.parts.processors → line < line_count s.board.parts.profile → IsFull s refusal

-- a Tick is refused on a full journal alone
abbrev pub TickRefusals : Type 0
TickRefusals = (s : State) (refusal : Refusal) → apply s Tick ≡ Err refusal → IsFull s refusal

-- no event changes the numbers of the boot
abbrev pub KeepsBoot : Type 0
KeepsBoot = (s : State) (events : List Event) → (replay s events).boot ≡ s.boot

-- no event changes how many processors there are, which the boot said
abbrev pub KeepsProcessors : Type 0
KeepsProcessors = (s : State) (events : List Event) → GoodState s → length (replay s events).board.parts.processors ≡ length s.board.parts.processors

-- a machine on which the rules hold has as many processors as it was booted with
abbrev pub BootedProcessors : Type 0
BootedProcessors = (s : State) → GoodState s → length s.board.parts.processors ≡ s.boot.cpus
