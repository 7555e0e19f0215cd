-- What a script leaves behind.
use Rattle.std.specs.Prelude.{◌≡◌, ℕ, ◌+◌, List, [], ◌∷◌, ◌++◌, Option, Some, None, codes}
use Rattle.evm_ram.specs.Images.{Contents}
use Rattle.evm_model.specs.State.{State}
use Rattle.evm_serve.specs.evm_journal.Journal.{journal_text}
use Rattle.evm_serve.specs.evm_debug.LineReading.{line_at}
use Rattle.evm_serve.specs.evm_debug.Summary.{summary_text}
use Rattle.evm_serve.specs.evm_text.Lines.{text_lines}
use Rattle.evm_serve.specs.RunOptions.{Attached, RunOptions, image_options}
use Rattle.evm_serve.specs.Script.{LineOutcome, Goes, Ends, line_outcome, lines_report}
use Rattle.evm_serve.specs.Replaying.{replay_report}
use Rattle.evm_serve.specs.declared.ending.Verdict.TheVariants.{Done}

-- a line goes on with its machine to the others, or ends the run
abbrev pub goes_on : LineOutcome → (Option State → Option State) → Option State
goes_on (Goes text machine) others = others machine
goes_on (Ends fault) others = None

-- the machine with which a run of lines comes to its end, the first being line n; none where none is booted, or a line
-- is bad or refused
unfoldable pub machine_after : RunOptions → ℕ → List (List ℕ) → Option State → Option State
machine_after options n [] machine = machine
machine_after options n (line ∷ lines) machine = goes_on (line_outcome options n machine (line_at line)) (machine_after options (n + 1) lines)

-- the machine that a script leaves
abbrev pub machine_left : RunOptions → List ℕ → Option State
machine_left options script = machine_after options 1 (text_lines script) None

-- one more line, `journal`, prints the journal of that machine behind the rest
abbrev pub PrintsItsJournal : Type 0
PrintsItsJournal = (options : RunOptions) (script : List ℕ) (s : State) → machine_left options script ≡ Some s
    → lines_report options 1 (text_lines script ++ codes "journal" ∷ []) None
    ≡ record { text = (lines_report options 1 (text_lines script) None).text ++ journal_text s.boot s.journal; verdict = Done }

-- its journal, replayed with the same devices and image, shows it
abbrev pub ShowsItsMachine : Type 0
ShowsItsMachine = (devices : List Attached) (image : Contents) (script : List ℕ) (s : State) → machine_left (image_options devices image) script ≡ Some s
    → replay_report (image_options devices image) (journal_text s.boot s.journal) ≡ record { text = summary_text s; verdict = Done }
