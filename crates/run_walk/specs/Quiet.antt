-- Steps that change only registers and RAM.
use Rattle.std.specs.Prelude.{◌≡◌, ℕ, ◌⊎◌, Option, Some, None, Bool, true, false, not, ◌&&◌, if◌then◌else◌, Ok, Err, is_ok, is_none, slice_get}
use Rattle.evm_diagnostics.specs.evm_core.Steps.{steps}
use Rattle.evm_exec.specs.declared.hart.Hart.{Hart}
use Rattle.evm_lines.specs.Lines.{least_line}
use Rattle.evm_model.specs.Pipes.{Pipe}
use Rattle.evm_model.specs.Ranks.{next_in_band}
use Rattle.evm_model.specs.Replay.{apply}
use Rattle.evm_model.specs.State.{Board, State}
use Rattle.evm_model.specs.declared.event.Answer.{Answer}
use Rattle.evm_model.specs.declared.event.Event.TheVariants.{Step}
use Rattle.evm_model.specs.declared.processor.Processor.{Processor}
use Rattle.evm_model.specs.declared.refusal.Refusal.{Refusal}
use Rattle.evm_quiet.specs.Quiet.{quiet}

-- nothing changed but registers and RAM
pub record OnlyRuns (old new : Board) : Type 0 where
  pub parts : new.parts ≡ record old.parts { harts = new.parts.harts }
  pub memory : new.memory ≡ record old.memory { ram = new.memory.ram }
  pub breakpoints : new.breakpoints ≡ old.breakpoints

-- the next Step of processor c changes nothing else
abbrev pub StepOnlyRuns : ℕ → State → Type 0
StepOnlyRuns c s = (new : State) (answer : Answer) → apply s (Step c) ≡ Ok (new, answer) → OnlyRuns s.board new.board

-- ---- which Steps are quiet
-- of a task: no breakpoint stands at its instruction, which is no call, no fault and no access outside RAM
abbrev pub is_quiet_at : Option Hart → Board → Bool
is_quiet_at None b = false
is_quiet_at (Some hart) b = is_ok (quiet None b.breakpoints hart b.memory.ram)

-- of a processor without a task: none waits for it in-band
abbrev pub is_quiet_task : Option ℕ → ℕ → Board → Bool
is_quiet_task None c b = is_none (next_in_band c b.parts.tasks)
is_quiet_task (Some t) c b = is_quiet_at (slice_get b.parts.harts t) b

-- whether nothing is on the wire
abbrev pub is_wire_clear : Option Pipe → Bool
is_wire_clear None = false
is_wire_clear (Some pipe) = is_none (least_line pipe.wire)

-- it passes no breakpoint and has nothing on its wire
abbrev pub is_unhindered : Processor → ℕ → Board → Bool
is_unhindered p c b = not p.skip && is_wire_clear (slice_get b.parts.pipes c)

abbrev pub is_quiet_cpu : Option Processor → ℕ → Board → Bool
is_quiet_cpu None c b = false
is_quiet_cpu (Some p) c b = if p.stopped then true else (is_unhindered p c b && is_quiet_task p.current c b)

-- whether the next Step of processor c is quiet: it is stopped, or goes on quietly
unfoldable pub is_quiet : ℕ → Board → Bool
is_quiet c b = is_quiet_cpu (slice_get b.parts.processors c) c b

-- the next Step of processor c isn't quiet, or is refused
abbrev pub IsLoudNext : ℕ → State → Type 0
IsLoudNext c s = (is_quiet c s.board ≡ false) ⊎ ((why : Refusal) × (apply s (Step c) ≡ Err why))

-- ---- which Steps change nothing
-- of a processor without a task: none waits for it in-band
abbrev pub is_still_task : Option ℕ → ℕ → Board → Bool
is_still_task None c b = is_none (next_in_band c b.parts.tasks)
is_still_task (Some t) c b = false

abbrev pub is_still_cpu : Option Processor → ℕ → Board → Bool
is_still_cpu None c b = false
is_still_cpu (Some p) c b = if p.stopped then true else (is_unhindered p c b && is_still_task p.current c b)

-- whether no Step of processor c changes anything: it is stopped, or has nothing to do
unfoldable pub is_still : ℕ → Board → Bool
is_still c b = is_still_cpu (slice_get b.parts.processors c) c b

-- no number of them does
abbrev pub StepsChangeNothing : ℕ → State → Type 0
StepsChangeNothing c s = (n : ℕ) (new : State) (why : Option Refusal) → steps c n s ≡ (new, why) → new.board ≡ s.board
