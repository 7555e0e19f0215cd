-- Where a line's word stays, and so what every later Step at the line does.
use Rattle.std.specs.Prelude.{◌≡◌, ◌⊎◌, ℕ, ◌+◌, ◌<◌, ◌≤◌, List, [], ◌∷◌, Some, Ok, slice_get, length, All}
use Rattle.evm_isa.specs.Decoded.{decoded}
use Rattle.evm_isa.specs.declared.inst.Inst.{Inst}
use Rattle.evm_elf.specs.evm_asm.Assembled.{Assembled, program_of}
use Rattle.evm_elf.specs.evm_asm.declared.output.ProgramLine.{ProgramLine}
use Rattle.evm_exec.specs.Does.{does}
use Rattle.evm_exec.specs.declared.hart.Hart.{Hart}
use Rattle.evm_exec.specs.declared.outcome.Effect.{Effect}
use Rattle.evm_exec.specs.declared.outcome.Effect.TheVariants.{Store}
use Rattle.evm_ram.specs.Width.{bytes_of}
use Rattle.evm_model.specs.Devices.{Attached}
use Rattle.evm_model.specs.Memory.{fetch}
use Rattle.evm_model.specs.Pipes.{Pipe}
use Rattle.evm_model.specs.Replay.{accept, apply, left_by, replay}
use Rattle.evm_model.specs.Settle.{current}
use Rattle.evm_model.specs.State.{State, Board}
use Rattle.evm_model.specs.declared.boot.Boot.{Boot}
use Rattle.evm_model.specs.declared.event.Answer.TheVariants.{Ran}
use Rattle.evm_model.specs.Event.{Event}
use Rattle.evm_model.specs.declared.event.Event.TheVariants.{Step, StepI, Poke}
use Rattle.evm_model.specs.declared.processor.Processor.{Processor}
use Rattle.claims_texts.specs.Running.{HasLine, Proceeds, line_stepped}
use Rattle.claims_texts.specs.Loading.{booted_with}

-- n bytes from an address on are none of the line's four
abbrev pub IsBeside : ProgramLine → ℕ → ℕ → Type 0
IsBeside l address count = (address + count ≤ l.address) ⊎ (l.address + 4 ≤ address)

-- what an instruction does writes none of the line's bytes: it is no store, or one beside them
abbrev pub EffectSpares : ProgramLine → Effect → Type 0
EffectSpares l (Store width address value) = IsBeside l address (bytes_of width)
EffectSpares l _ = Unit {0}

-- nor does the instruction at the pc of the current task of processor c, if there is one
abbrev pub StepSpares : ProgramLine → ℕ → Board → Type 0
StepSpares l c b =
    (t : ℕ) (hart : Hart) (word : ℕ) (inst : Inst) → current c b.parts ≡ Some t → slice_get b.parts.harts t ≡ Some hart
    → fetch hart.pc b.memory ≡ Some word → decoded word ≡ Some inst → EffectSpares l (does inst hart.regs hart.pc)

-- nor does an event
abbrev pub Spares : ProgramLine → Event → Board → Type 0
Spares l (Step c) b = StepSpares l c b
Spares l (StepI c) b = StepSpares l c b
Spares l (Poke address bytes) b = IsBeside l address (length bytes.items)
Spares l _ b = Unit {0}

-- nor does any of a list of events
abbrev pub AllSpare : ProgramLine → State → List Event → Type 0
AllSpare l s [] = Unit {0}
AllSpare l s (event ∷ events) = Spares l event s.board × AllSpare l (left_by (apply s event) s) events

-- what nothing writes stays
abbrev pub ALineStays : Type 0
ALineStays = (l : ProgramLine) (s : State) (events : List Event) → AllSpare l s events → HasLine s.board.memory l → HasLine (replay s events).board.memory l

-- a Step of a processor whose task comes to the line's address does the line, where the journal has room
abbrev pub DoesLine : State → ProgramLine → Type 0
DoesLine s l =
    (c t : ℕ) (p : Processor) (pipe : Pipe) (hart : Hart) → length s.journal < s.boot.capacity → Proceeds l.address t c p pipe s.board
    → slice_get s.board.parts.harts t ≡ Some hart → hart.pc ≡ l.address
    → apply s (Step c) ≡ Ok (accept (Step c) (line_stepped l hart c t s.board, Ran t) s)

-- a program that was assembled, loaded and run does each of its lines whenever a task comes to it, as long as nothing was written over the line
abbrev pub RunsAsAssembled : Type 0
RunsAsAssembled =
    (source : List ℕ) (p : Assembled) (devices : List Attached) (boot : Boot) (s : State) (events : List Event) → program_of source ≡ Ok p
    → booted_with devices boot p ≡ Ok s
    → All (λ l. AllSpare l s events → DoesLine (replay s events) l) p.lines
