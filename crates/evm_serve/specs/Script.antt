-- The report of a script: its text, and the verdict on the run.
use Rattle.std.specs.Prelude.{ℕ, ◌+◌, List, [], ◌∷◌, ◌++◌, Option, Some, None, Result, Ok, Err, codes}
use Rattle.evm_model.specs.declared.refusal.Refusal.{Refusal}
use Rattle.evm_diagnostics.specs.evm_core.Steps.{steps}
use Rattle.evm_model.specs.State.{State}
use Rattle.evm_model.specs.Replay.{apply}
use Rattle.evm_model.specs.declared.event.Answer.{Answer}
use Rattle.evm_model.specs.Event.{Event}
use Rattle.evm_diagnostics.specs.evm_debug.LineReading.{line_at}
use Rattle.evm_diagnostics.specs.evm_debug.Views.{shown}
use Rattle.evm_diagnostics.specs.evm_debug.declared.line.Line.{Line}
use Rattle.evm_diagnostics.specs.evm_debug.declared.line.Line.TheVariants as lines
use Rattle.evm_diagnostics.specs.evm_debug.declared.line.View.{View}
use Rattle.evm_diagnostics.specs.evm_text.Lines.{text_lines}
use Rattle.evm_serve.specs.RunOptions.{RunOptions}
use Rattle.evm_diagnostics.specs.Faults.{event_refused, view_refused}
use Rattle.evm_serve.specs.FaultLines.{fault_text}
use Rattle.evm_serve.specs.Starting.{started}
use Rattle.evm_serve.specs.declared.ending.Verdict.{Verdict}
use Rattle.evm_serve.specs.declared.ending.Verdict.TheVariants as verdicts
use Rattle.evm_diagnostics.specs.declared.fault.InputFault.{InputFault}
use Rattle.evm_diagnostics.specs.declared.fault.InputFault.TheVariants.{BadLine, Refused}
use Rattle.evm_streams.specs.declared.line_fault.LineFault.TheVariants.{OutsideGrammar, NotBooted, BootedAgain}

-- the last line of a run to which memory was refused
abbrev pub memory_text : List ℕ
memory_text = codes "memory\n"

-- The outcome of a line. The run goes on, with a text and the machine, if one is booted; or it ends at a fault.
pub data LineOutcome : Type 0 where
  Goes : (text : List ℕ) → (machine : Option State) → LineOutcome
  Ends : (fault : InputFault) → LineOutcome

-- an event: its answer is not reported
abbrev pub event_outcome : ℕ → Event → Result (State × Answer) Refusal → LineOutcome
event_outcome n event (Ok after) = Goes [] (Some after.0)
event_outcome n event (Err refusal) = Ends (event_refused n event refusal)

-- Steps of processor c: the machine after them, with which the run goes on, or the refusal of one, which ends it
abbrev pub after_steps : ℕ → ℕ → State → Option Refusal → LineOutcome
after_steps n c s None = Goes [] (Some s)
after_steps n c s (Some refusal) = Ends (Refused n (Some c) refusal)

abbrev pub steps_outcome : ℕ → ℕ → State × Option Refusal → LineOutcome
steps_outcome n c after = after_steps n c after.0 after.1

-- a machine with which the run goes on, or the refusal of the boot, which ends it
abbrev pub boot_outcome : ℕ → Result State Refusal → LineOutcome
boot_outcome n (Ok s) = Goes [] (Some s)
boot_outcome n (Err refusal) = Ends (Refused n None refusal)

abbrev pub view_outcome : ℕ → View → State → Result (List ℕ) Refusal → LineOutcome
view_outcome n view s (Ok text) = Goes text (Some s)
view_outcome n view s (Err refusal) = Ends (view_refused n view refusal)

-- a line, if no machine is booted: only a boot goes on, with the options of the run
abbrev pub unbooted_outcome : RunOptions → ℕ → Line → LineOutcome
unbooted_outcome options n lines.Blank = Goes [] None
unbooted_outcome options n (lines.Boot boot) = boot_outcome n (started options boot)
unbooted_outcome options n (lines.Steps c count) = Ends (BadLine n NotBooted)
unbooted_outcome options n (lines.One event) = Ends (BadLine n NotBooted)
unbooted_outcome options n (lines.Show view) = Ends (BadLine n NotBooted)

-- a line, if a machine is booted: only one boot line is allowed
abbrev pub booted_outcome : ℕ → State → Line → LineOutcome
booted_outcome n s lines.Blank = Goes [] (Some s)
booted_outcome n s (lines.Boot boot) = Ends (BadLine n BootedAgain)
booted_outcome n s (lines.Steps c count) = steps_outcome n c (steps c count s)
booted_outcome n s (lines.One event) = event_outcome n event (apply s event)
booted_outcome n s (lines.Show view) = view_outcome n view s (shown view s)

abbrev pub outcome_at : RunOptions → ℕ → Option State → Line → LineOutcome
outcome_at options n None line = unbooted_outcome options n line
outcome_at options n (Some s) line = booted_outcome n s line

-- line n of a script; one outside the grammar is bad
abbrev pub line_outcome : RunOptions → ℕ → Option State → Option Line → LineOutcome
line_outcome options n machine None = Ends (BadLine n OutsideGrammar)
line_outcome options n machine (Some line) = outcome_at options n machine line

-- the text of a run, and its verdict
pub record Report : Type 0 where
  pub text : List ℕ
  pub verdict : Verdict

abbrev pub behind : List ℕ → Report → Report
behind text report = record report { text = text ++ report.text }

abbrev pub run_on : LineOutcome → (Option State → Report) → Report
run_on (Goes text machine) others = behind text (others machine)
run_on (Ends fault) others = record { text = fault_text fault; verdict = verdicts.Refused fault }

-- the lines of a script, whose numbers begin at n
unfoldable pub lines_report : RunOptions → ℕ → List (List ℕ) → Option State → Report
lines_report options n [] machine = record { text = []; verdict = verdicts.Done }
lines_report options n (line ∷ rest) machine = run_on (line_outcome options n machine (line_at line)) (lines_report options (n + 1) rest)

-- a script, with the options of its run
unfoldable pub script_report : RunOptions → List ℕ → Report
script_report options script = lines_report options 1 (text_lines script) None
