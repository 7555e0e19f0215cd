-- What the lines of a script make: the first boots a machine, with its devices and an image in it, and each of the others changes it.
use Rattle.std.specs.Prelude.{◌≡◌, ℕ, Bool, true, false, ◌&&◌, ◌==◌, if◌then◌else◌, List, [], ◌∷◌, ◌++◌, Option, Some, None, Result, Ok, Err}
use Rattle.evm_ram.specs.Images.{Contents}
use Rattle.evm_model.specs.Devices.{Attached}
use Rattle.evm_model.specs.State.{State}
use Rattle.evm_model.specs.Replay.{apply, bad_boot, start}
use Rattle.evm_model.specs.declared.event.Answer.{Answer}
use Rattle.evm_model.specs.declared.refusal.Refusal.{Refusal}
use Rattle.evm_diagnostics.specs.evm_core.Load.{load}
use Rattle.evm_diagnostics.specs.evm_core.Steps.{steps}
use Rattle.evm_diagnostics.specs.evm_debug.LineReading.{line_at}
use Rattle.evm_diagnostics.specs.evm_debug.Views.{shown}
use Rattle.evm_diagnostics.specs.evm_debug.declared.line.Line.{Line}
use Rattle.evm_diagnostics.specs.evm_debug.declared.line.Line.TheVariants.{Blank, Boot, Steps, One, Show}
use Rattle.evm_serve.specs.Sitting.{Sitting}

-- ---- what a line makes of a machine: nothing is there where it is refused, or boots once more

abbrev pub after_event : Result (State × Answer) Refusal → Option State
after_event (Ok after) = Some after.0
after_event (Err refusal) = None

abbrev pub unless_refused : Option Refusal → State → Option State
unless_refused None s = Some s
unless_refused (Some refusal) s = None

abbrev pub after_view : Result (List ℕ) Refusal → State → Option State
after_view (Ok text) s = Some s
after_view (Err refusal) s = None

abbrev pub after_line : Line → State → Option State
after_line Blank s = Some s
after_line (Boot boot) s = None
after_line (Steps c n) s = unless_refused (steps c n s).1 (steps c n s).0
after_line (One event) s = after_event (apply s event)
after_line (Show view) s = after_view (shown view s) s

abbrev pub after_read : Option Line → State → Option State
after_read None s = None
after_read (Some line) s = after_line line s

-- the text that a line shows: that of its view
abbrev pub text_shown : Result (List ℕ) Refusal → List ℕ
text_shown (Ok text) = text
text_shown (Err refusal) = []

abbrev pub line_text : Option Line → State → List ℕ
line_text (Some (Show view)) s = text_shown (shown view s)
line_text line s = []

-- ---- a script

abbrev pub with_state : Option State → (State → Option State) → Option State
with_state None others = None
with_state (Some s) others = others s

abbrev pub after_lines : List (List ℕ) → State → Option State
after_lines [] s = Some s
after_lines (line ∷ lines) s = with_state (after_read (line_at line) s) (after_lines lines)

abbrev pub loaded_state : Result State Refusal → Option State
loaded_state (Ok s) = Some s
loaded_state (Err refusal) = None

abbrev pub booted_by : List Attached → Contents → Option Line → Option State
booted_by devices image (Some (Boot boot)) = if bad_boot boot then None else loaded_state (load image (start devices boot))
booted_by devices image line = None

-- the machine that a script leaves, whose first line boots
abbrev pub script_machine : List Attached → Contents → List (List ℕ) → Option State
script_machine devices image [] = None
script_machine devices image (line ∷ lines) = with_state (booted_by devices image (line_at line)) (after_lines lines)

-- none of its bytes is a newline
abbrev pub is_one_line : List ℕ → Bool
is_one_line [] = true
is_one_line (byte ∷ bytes) = if byte == 10 then false else is_one_line bytes

abbrev pub are_lines : List (List ℕ) → Bool
are_lines [] = true
are_lines (line ∷ lines) = is_one_line line && are_lines lines

-- The machine is the one that the lines leave as a script.
pub record IsScripted (devices : List Attached) (image : Contents) (s : Sitting) : Type 0 where
  pub made : script_machine devices image s.lines ≡ Some s.machine
  pub each : are_lines s.lines ≡ true

-- a line was done: it is behind the others, and the machine is what it made of the one before
pub record IsLineDone (line : List ℕ) (old new : Sitting) (text : List ℕ) : Type 0 where
  pub one_line : is_one_line line ≡ true
  pub machine : after_read (line_at line) old.machine ≡ Some new.machine
  pub lines : new.lines ≡ old.lines ++ line ∷ []
  pub shows : text ≡ line_text (line_at line) old.machine

-- the lines as a text
abbrev pub script_of : List (List ℕ) → List ℕ
script_of [] = []
script_of (line ∷ lines) = line ++ (10 ∷ script_of lines)
