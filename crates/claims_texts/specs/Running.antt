-- What a processor does where a program's line stands: the line's instruction.
use Rattle.std.specs.Prelude.{◌≡◌, ◌⊎◌, ℕ, ◌<◌, List, [], Option, Some, None, Ok, true, false, slice_get, length, All}
use Rattle.evm_elf.specs.evm_asm.Assembled.{Assembled, program_of}
use Rattle.evm_elf.specs.evm_asm.declared.output.ProgramLine.{ProgramLine}
use Rattle.evm_exec.specs.Does.{does}
use Rattle.evm_exec.specs.declared.hart.Hart.{Hart}
use Rattle.evm_model.specs.Commands.{is_set}
use Rattle.evm_model.specs.Instructions.{execute, finish}
use Rattle.evm_model.specs.Memory.{fetch}
use Rattle.evm_model.specs.Pipes.{Pipe}
use Rattle.evm_model.specs.Replay.{accept, apply}
use Rattle.evm_model.specs.Rows.{row}
use Rattle.evm_model.specs.Settle.{settle_and_nudge}
use Rattle.evm_model.specs.State.{State, Board, Memory, on_processor, on_parts}
use Rattle.evm_model.specs.declared.event.Answer.TheVariants.{Ran}
use Rattle.evm_model.specs.declared.event.Event.TheVariants.{Step}
use Rattle.evm_model.specs.declared.processor.Processor.{Processor}

-- the line's word stands in memory at the line's address
abbrev pub HasLine : Memory → ProgramLine → Type 0
HasLine m l = fetch l.address m ≡ Some l.word

-- the pc of task t is the line's address, and the line's word stands there
pub record IsAtLine (l : ProgramLine) (t : ℕ) (hart : Hart) (b : Board) : Type 0 where
  pub there : slice_get b.parts.harts t ≡ Some hart
  pub pc : hart.pc ≡ l.address
  pub word : HasLine b.memory l

abbrev pub execute_some : Option Hart → ℕ → ℕ → Board → Board
execute_some None c t b = b
execute_some (Some hart) c t b = execute hart c t b

-- task t of processor c, if there is one, does the instruction at its pc
abbrev pub execute_task : ℕ → ℕ → Board → Board
execute_task c t b = execute_some (slice_get b.parts.harts t) c t b

-- the line's instruction, done to task t of processor c
abbrev pub line_done : ProgramLine → Hart → ℕ → ℕ → Board → Board
line_done l hart c t b = finish (does l.instruction hart.regs l.address) c t b

-- a task that is at the line executes the line's instruction
abbrev pub ExecutesLine : ProgramLine → Type 0
ExecutesLine l = (c t : ℕ) (hart : Hart) (b : Board) → IsAtLine l t hart b → execute_task c t b ≡ line_done l hart c t b

-- a processor whose step is an instruction of task t at an address: it isn't stopped, nothing is on its wire, t is its current task, and no breakpoint stops it
pub record Proceeds (address t c : ℕ) (p : Processor) (pipe : Pipe) (b : Board) : Type 0 where
  pub there : slice_get b.parts.processors c ≡ Some p
  pub its_pipe : slice_get b.parts.pipes c ≡ Some pipe
  pub goes : p.stopped ≡ false
  pub wire : pipe.wire ≡ []
  pub current : p.current ≡ Some t
  pub passes : (is_set b.breakpoints address ≡ false) ⊎ (p.skip ≡ true)

-- a breakpoint isn't passed another time
abbrev pub skip_off : ℕ → Board → Board
skip_off c b = on_parts (on_processor c (λ p. record p { skip = false })) b

-- the line's instruction is done, a breakpoint isn't passed another time, and the processor settles
abbrev pub line_stepped : ProgramLine → Hart → ℕ → ℕ → Board → Board
line_stepped l hart c t b = on_parts (settle_and_nudge (Some t) c) (line_done l hart c t (skip_off c b))

-- a Step of such a processor, whose task is at the line, does so and answers that the task ran
abbrev pub StepsLine : ProgramLine → Type 0
StepsLine l =
    (c t : ℕ) (p : Processor) (pipe : Pipe) (hart : Hart) (b : Board) → Proceeds l.address t c p pipe b → IsAtLine l t hart b
    → row (Step c) b ≡ (line_stepped l hart c t b, Ran t)

-- it is accepted where the journal has room
abbrev pub AcceptsStep : ProgramLine → Type 0
AcceptsStep l =
    (c t : ℕ) (p : Processor) (pipe : Pipe) (hart : Hart) (s : State) → length s.journal < s.boot.capacity
    → Proceeds l.address t c p pipe s.board → IsAtLine l t hart s.board
    → apply s (Step c) ≡ Ok (accept (Step c) (line_stepped l hart c t s.board, Ran t) s)

-- a law of each line of the program of each source
abbrev pub OfEachLine : (ProgramLine → Type 0) → Type 0
OfEachLine Law = (source : List ℕ) (p : Assembled) → program_of source ≡ Ok p → All Law p.lines
