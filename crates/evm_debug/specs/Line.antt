-- The table of the lines of a script, and their spelling.
use Rattle.std.specs.Prelude.{◌≡◌, ℕ, Bool, true, List, [], ◌∷◌, ◌++◌, ◌==◌, ◌⊎◌, Option, Some, codes}
use Rattle.evm_journal.specs.evm_text.Rows.{Byte, Decimal, Hexadecimal, LineRow, line_row, Filled, with_values, row_text, Fit, values_at, rows_as}
use Rattle.evm_journal.specs.evm_text.Reading.{◌>>=◌}
use Rattle.evm_journal.specs.EventLine.{event_rows, event_line_text, HasEventLine}
use Rattle.evm_journal.specs.Journal.{unwatched_row, watched_row, unwatched_numbers, watched_numbers}
use Rattle.evm_journal.specs.evm_history.EventLine.{EventLine}
use Rattle.evm_journal.specs.evm_history.declared.event_line.EventLine.TheVariants as events
use Rattle.evm_model.specs.declared.boot.Boot.{Boot as Numbers}
use Rattle.evm_model.specs.declared.limits.TheConstants.{PROFILE_LIMIT}
use Rattle.evm_debug.specs.declared.line.View.{View}
use Rattle.evm_debug.specs.declared.line.View.TheVariants.{Regs, Mem, Stages, Tasks, Owners, Rank, Notices, Counts, Journal, Console, Words}
use Rattle.evm_debug.specs.declared.line.Line.{Line}
use Rattle.evm_debug.specs.declared.line.Line.TheVariants.{Blank, Boot, Steps, One, Show}

-- ---- views

abbrev pub regs_row : LineRow View
regs_row = line_row (codes "regs") (Byte ∷ []) Regs

abbrev pub mem_row : LineRow View
mem_row = line_row (codes "mem") (Hexadecimal ∷ Decimal ∷ []) Mem

abbrev pub stages_row : LineRow View
stages_row = line_row (codes "stages") (Byte ∷ []) Stages

abbrev pub rank_row : LineRow View
rank_row = line_row (codes "rank") (Byte ∷ []) Rank

abbrev pub counts_row : LineRow View
counts_row = line_row (codes "counts") (Byte ∷ Byte ∷ []) Counts

abbrev pub words_row : LineRow View
words_row = line_row (codes "words") (Byte ∷ []) Words

abbrev pub tasks_row : LineRow View
tasks_row = line_row (codes "tasks") [] Tasks

abbrev pub owners_row : LineRow View
owners_row = line_row (codes "owners") [] Owners

abbrev pub notices_row : LineRow View
notices_row = line_row (codes "notices") [] Notices

abbrev pub journal_row : LineRow View
journal_row = line_row (codes "journal") [] Journal

abbrev pub console_row : LineRow View
console_row = line_row (codes "console") [] Console

-- the views whose keyword is all of their line
abbrev pub bare_rows : List (LineRow View)
bare_rows = tasks_row ∷ owners_row ∷ notices_row ∷ journal_row ∷ console_row ∷ []

abbrev pub view_rows : List (LineRow View)
view_rows = regs_row ∷ mem_row ∷ stages_row ∷ rank_row ∷ counts_row ∷ words_row ∷ bare_rows

-- the row of a view, with what stands in its fields
abbrev pub view_row : View → Filled View
view_row (Regs cpu) = with_values regs_row cpu
view_row (Mem address count) = with_values mem_row (address, count)
view_row (Stages cpu) = with_values stages_row cpu
view_row Tasks = with_values tasks_row tt
view_row Owners = with_values owners_row tt
view_row (Rank task) = with_values rank_row task
view_row Notices = with_values notices_row tt
view_row (Counts cpu line) = with_values counts_row (cpu, line)
view_row Journal = with_values journal_row tt
view_row Console = with_values console_row tt
view_row (Words device) = with_values words_row device

abbrev pub view_text : View → List ℕ
view_text view = row_text (view_row view)

-- a view has values that its fields take
abbrev pub HasViewLine : View → Type 0
HasViewLine view = Fit (view_row view)

-- ---- a script

-- a line of events in a script
abbrev pub script_line : EventLine → Line
script_line (events.Steps cpu count) = Steps cpu count
script_line (events.One event) = One event

-- what a view says whose keyword is all of its line, where nothing stands behind
abbrev pub bare_said : View → List ℕ → Option Line
bare_said view rest = values_at [] rest >>= λ values. Some (Show view)

-- the lines of a script but boot lines, of which two forms begin alike
abbrev pub script_rows : List (LineRow Line)
script_rows = rows_as Show view_rows ++ rows_as script_line event_rows

-- the rows of a boot line: a machine of the newest profile without a watchdog's number, or with it
abbrev pub script_unwatched : LineRow Numbers
script_unwatched = unwatched_row PROFILE_LIMIT

abbrev pub script_watched : LineRow Numbers
script_watched = watched_row PROFILE_LIMIT

-- no bytes, or a # first and any bytes behind it
abbrev pub is_blank_line : List ℕ → Bool
is_blank_line [] = true
is_blank_line (b ∷ bytes) = b == 35

-- A boot line has a machine of the newest profile. The number of its watchdog may be left out where there is none.
pub record IsBootLine (boot : Numbers) (bytes : List ℕ) : Type 0 where
  pub newest : boot.profile ≡ PROFILE_LIMIT
  pub text : (bytes ≡ row_text (watched_numbers boot)) ⊎ ((boot.watchdog ≡ 0) × (bytes ≡ row_text (unwatched_numbers boot)))
  pub fit : Fit (watched_numbers boot)

-- The bytes, without a newline, are a spelling of the line. Only a blank line, and the boot line of a machine without a
-- watchdog, have more than one.
abbrev pub IsSpelled : Line → List ℕ → Type 0
IsSpelled Blank bytes = is_blank_line bytes ≡ true
IsSpelled (Boot boot) bytes = IsBootLine boot bytes
IsSpelled (Steps cpu count) bytes = (bytes ≡ event_line_text (events.Steps cpu count)) × HasEventLine (events.Steps cpu count)
IsSpelled (One event) bytes = (bytes ≡ event_line_text (events.One event)) × HasEventLine (events.One event)
IsSpelled (Show view) bytes = (bytes ≡ view_text view) × HasViewLine view
