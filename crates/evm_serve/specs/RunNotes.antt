-- The reports on standard error while a script runs: on each line `step C N` whose processor is stopped; at the end, one on the script for
-- each task that ended by a fault.
use Rattle.std.specs.Prelude.{ℕ, ◌+◌, Bool, List, [], ◌∷◌, ◌++◌, Option, Some, None, Result, Ok, Err, slice_get}
use Rattle.evm_diagnostics.specs.Notes.{is_cpu_stopped, note_of, note_places, ended_places}
use Rattle.evm_diagnostics.specs.declared.note.StepNote.{StepNote}
use Rattle.evm_diagnostics.specs.evm_core.Steps.{steps}
use Rattle.evm_diagnostics.specs.evm_debug.LineReading.{line_at}
use Rattle.evm_diagnostics.specs.evm_debug.declared.line.Line.{Line}
use Rattle.evm_diagnostics.specs.evm_debug.declared.line.Line.TheVariants as lines
use Rattle.evm_diagnostics.specs.evm_text.Lines.{text_lines}
use Rattle.evm_streams.specs.Diagnostic.{Place, TellsAll, TellsSome}
use Rattle.evm_model.specs.State.{State}
use Rattle.evm_model.specs.declared.refusal.Refusal.{Refusal}
use Rattle.evm_streams.specs.declared.sink.Writing.{Writing}
use Rattle.evm_serve.specs.RunOptions.{RunOptions}
use Rattle.evm_serve.specs.Script.{LineOutcome, Goes, Ends, line_outcome}
use Rattle.evm_serve.specs.declared.ending.Ending.{Ending}
use Rattle.evm_serve.specs.declared.ending.Ending.TheVariants.{Complete}
use Rattle.evm_serve.specs.declared.ending.Halt.{Halt}
use Rattle.evm_serve.specs.declared.ending.Reply.{Reply}
use Rattle.evm_serve.specs.declared.ending.Reply.TheVariants as replies
use Rattle.evm_serve.specs.declared.ending.Verdict.{Verdict}

-- ---- lines `step C N`

-- a refused Step has its own message
abbrev pub note_after : ℕ → Bool → State → Option Refusal → Option StepNote
note_after c earlier s None = note_of c earlier (slice_get s.board.parts.processors c) s.board
note_after c earlier s (Some refusal) = None

abbrev pub steps_noted : ℕ → Bool → State × Option Refusal → Option StepNote
steps_noted c earlier after = note_after c earlier after.0 after.1

abbrev pub line_noted : State → Line → Option StepNote
line_noted s lines.Blank = None
line_noted s (lines.Boot boot) = None
line_noted s (lines.Steps c count) = steps_noted c (is_cpu_stopped c s) (steps c count s)
line_noted s (lines.One event) = None
line_noted s (lines.Show view) = None

abbrev pub noted_booted : State → Option Line → Option StepNote
noted_booted s None = None
noted_booted s (Some line) = line_noted s line

abbrev pub noted_at : Option State → Option Line → Option StepNote
noted_at None line = None
noted_at (Some s) line = noted_booted s line

-- the note of a reply
abbrev pub reply_note : Reply → Option StepNote
reply_note (replies.Goes noted) = noted
reply_note (replies.Ends fault) = None

-- ---- a script of this name

abbrev pub notes_on : LineOutcome → (Option State → List Place) → List Place
notes_on (Goes text machine) others = others machine
notes_on (Ends fault) others = []

-- the lines whose numbers begin at n
unfoldable pub lines_noted : RunOptions → List ℕ → ℕ → List (List ℕ) → Option State → List Place
lines_noted options name n [] machine = ended_places name machine
lines_noted options name n (line ∷ rest) machine =
    note_places name n (noted_at machine (line_at line)) ++ notes_on (line_outcome options n machine (line_at line)) (lines_noted options name (n + 1) rest)

unfoldable pub notes : RunOptions → List ℕ → List ℕ → List Place
notes options name script = lines_noted options name 1 (text_lines script) None

module _ {E : Type 0} (takes : E → Writing → List ℕ → E → Type 0) where
  -- A run that comes to a verdict has made all of them; one that halts the first of them.
  abbrev pub PlaysNotes : List Place → Result Verdict Halt → E → E → Type 0
  PlaysNotes places (Ok verdict) e e' = TellsAll takes places e e'
  PlaysNotes places (Err halt) e e' = TellsSome takes places e e'

  abbrev pub EndsNotes : List Place → Ending → E → E → Type 0
  EndsNotes places (Complete verdict) e e' = TellsAll takes places e e'
  EndsNotes places ending e e' = TellsSome takes places e e'
