-- A scripted machine: an image, and the session that was begun with it, if a machine is booted.
use Rattle.std.specs.Prelude.{◌≡◌, ℕ, List, [], ◌∷◌, Option, Some, None, Ok}
use Rattle.evm_ram.specs.Images.{Contents}
use Rattle.evm_devs.specs.Devices.{program_devices}
use Rattle.evm_model.specs.State.{State}
use Rattle.evm_diagnostics.specs.evm_debug.LineReading.{line_at}
use Rattle.evm_diagnostics.specs.evm_journal.Journal.{journal_text}
use Rattle.evm_diagnostics.specs.evm_text.Lines.{text_lines}
use Rattle.evm_serve.specs.Noted.{line_begun}
use Rattle.evm_serve.specs.Notes.{Noted}
use Rattle.evm_serve.specs.Noting.{noted_read}
use Rattle.evm_serve.specs.Replaying.{replay_at}
use Rattle.evm_serve.specs.RunOptions.{image_options}
use Rattle.evm_serve.specs.Sitting.{Sitting}
use Rattle.evm_serve.specs.Scripted.{IsScripted, IsLineDone, booted_by, script_machine, script_of}

pub record ScriptedMachineState : Type 0 where
  pub image : Contents
  pub sitting : Option Sitting

-- its machine, if one is booted, and the lines that were done
abbrev pub machine_in : Option Sitting → Option State
machine_in None = None
machine_in (Some s) = Some s.machine

abbrev pub lines_done : Option Sitting → List (List ℕ)
lines_done None = []
lines_done (Some s) = s.lines

-- the journal of a machine as text; nothing, if there is none
abbrev pub journal_in : Option State → List ℕ
journal_in None = []
journal_in (Some m) = journal_text m.boot m.journal

-- the lines of the session make its machine
abbrev pub IsScriptedIn : Contents → Option Sitting → Type 0
IsScriptedIn image None = Unit {0}
IsScriptedIn image (Some s) = IsScripted program_devices image s

-- a line was done: it booted a machine, or the machine did it
abbrev pub DoneFrom : Contents → List ℕ → Option Sitting → Sitting → List ℕ → Type 0
DoneFrom image line None new text = (booted_by program_devices image (line_at line) ≡ Some new.machine) × (new.lines ≡ line ∷ []) × (text ≡ [])
DoneFrom image line (Some old) new text = IsLineDone line old new text

abbrev pub IsDoneBy : List ℕ → ScriptedMachineState → ScriptedMachineState → List ℕ → Type 0
IsDoneBy line old new text = (new.image ≡ old.image) × ((s : Sitting) × (new.sitting ≡ Some s) × DoneFrom old.image line old.sitting s text)

-- it left these notes
abbrev pub NotedFrom : Option Sitting → List ℕ → Noted → Noted → Type 0
NotedFrom None line old new = new ≡ line_begun old
NotedFrom (Some sitting) line old new = new ≡ noted_read (line_at line) sitting.machine old

-- The lines as the text of a script leave the machine.
abbrev pub LeavesMachine : Contents → Option Sitting → Type 0
LeavesMachine image None = Unit {0}
LeavesMachine image (Some s) = script_machine program_devices image (text_lines (script_of s.lines)) ≡ Some s.machine

-- The journal of the machine, replayed with the image, is the machine.
abbrev pub ReplaysMachine : Contents → Option Sitting → Type 0
ReplaysMachine image None = Unit {0}
ReplaysMachine image (Some s) = replay_at (image_options program_devices image) (journal_in (Some s.machine)) ≡ Ok s.machine
