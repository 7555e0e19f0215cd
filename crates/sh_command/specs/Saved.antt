-- What a shell saves at the end: the lines that were done, as a script, and the journal of the machine that they made.
use Rattle.std.specs.Prelude.{◌≡◌, ◌⊎◌, ℕ, List, ◌++◌, Option, Some, None, Result, Ok, Err, codes}
use Rattle.clap.specs.Words.{Row, Text, first_of}
use Rattle.evm_streams.specs.declared.source.Reading.{Reading}
use Rattle.evm_streams.specs.declared.source.ReadStop.TheVariants as stops
use Rattle.evm_streams.specs.declared.sink.Writing.{Writing}
use Rattle.evm_host.specs.evm_serve.Memory.{MemoryRefused}
use Rattle.evm_host.specs.evm_serve.Scripted.{script_of}
use Rattle.evm_host.specs.evm_serve.ScriptedMachine.{IsDoneBy, LeavesMachine, ReplaysMachine, ScriptedMachineState, journal_in, lines_done, machine_in}
use Rattle.evm_host.specs.evm_serve.Serving.{WritesAll}
use Rattle.evm_host.specs.evm_serve.declared.ending.Ending.{Ending}
use Rattle.evm_host.specs.evm_serve.declared.ending.Verdict.TheVariants.{Done}
use Rattle.evm_host.specs.declared.system.OpenFault.{OpenFault}
use Rattle.evm_host.specs.declared.system.World.{World}
use Rattle.evm_host.specs.Asks.{AsksNothing, Loads, NotOpened, NotRead}
use Rattle.evm_host.specs.Exit.{Ended}
use Rattle.sh_answers.specs.Kept.{IsKept, IsKeptIf}

-- a line is done, and the text of its view stands behind what was answered
abbrev pub ShowsLine : List ℕ → ScriptedMachineState → ScriptedMachineState → List ℕ → List ℕ → Type 0
ShowsLine line old new before after = (text : List ℕ) × IsDoneBy line old new text × (after ≡ before ++ text)

-- ---- a file

module _ {S O C I W E : Type 0} (creates : S → List ℕ → Result C OpenFault → S → Type 0) (created : C → Writing → List ℕ → C → Type 0)
    (writes : W → Writing → List ℕ → W → Type 0) (reports : E → Writing → List ℕ → E → Type 0) where
  -- the file that was created takes a text; where it can't be created, or does not take all, that is reported
  abbrev pub SavesIn : List ℕ → List ℕ → Result C OpenFault → World S O C I W E → World S O C I W E → ℕ → Type 0
  SavesIn path text (Err fault) w w' status = NotOpened reports path w w' status
  SavesIn path text (Ok file) w w' status = AsksNothing w w' × (w'.output ≡ w.output)
      × ((ending : Ending) × (took : C) × WritesAll created (record { text = text; verdict = Done }) file took ending × Ended reports path ending w.errors w'.errors status)

  -- a file is created under a name, and takes a text
  abbrev pub Saves : List ℕ → List ℕ → World S O C I W E → World S O C I W E → ℕ → Type 0
  Saves path text w w' status = (answer : Result C OpenFault) × (files : S) × creates w.files path answer files × SavesIn path text answer (record w { files = files }) w' status

  -- .. unless memory was refused for the text
  abbrev pub SavesText : List ℕ → List ℕ → World S O C I W E → World S O C I W E → ℕ → Type 0
  SavesText path text w w' status = Saves path text w w' status ⊎ (MemoryRefused × NotRead writes reports (codes "vardozek sh") stops.NoMemory w w' status)

  -- no file is asked for where no name was given
  abbrev pub SavesIf : Option (List ℕ) → List ℕ → World S O C I W E → World S O C I W E → ℕ → Type 0
  SavesIf None text w w' status = (w' ≡ w) × (status ≡ 0)
  SavesIf (Some path) text w w' status = SavesText path text w w' status

  -- a test suite is saved, if there is one and a name is given for it; its text is not told
  abbrev pub SavesSuite : Option (List ℕ) → World S O C I W E → World S O C I W E → ℕ → Type 0
  SavesSuite None w w' status = (w' ≡ w) × (status ≡ 0)
  SavesSuite (Some path) w w' status = ((w' ≡ w) × (status ≡ 0)) ⊎ ((text : List ℕ) × Saves path text w w' status)
      ⊎ NotRead writes reports (codes "vardozek sh") stops.NoMemory w w' status

-- ---- the files of a session

-- what the words name: the file of the image, and where the script, the journal and the test suite are saved, if they are
pub record AreNamed (rows : List Row) (path : Text) (script_path journal_path suite_path : Option Text) : Type 0 where
  pub image : first_of (codes "IMAGE") rows ≡ Some path
  pub script : first_of (codes "script") rows ≡ script_path
  pub journal : first_of (codes "journal") rows ≡ journal_path
  pub suite : first_of (codes "junit") rows ≡ suite_path

module _ {S C : Type 0} (creates : S → List ℕ → Result C OpenFault → S → Type 0) (created : C → Writing → List ℕ → C → Type 0) where
  -- a test suite may have been saved, and nothing else
  abbrev pub MayKeepSuite : Option (List ℕ) → S → S → Type 0
  MayKeepSuite None files files' = files' ≡ files
  MayKeepSuite (Some path) files files' = (files' ≡ files) ⊎ ((text : List ℕ) × IsKept creates created path text files files')

  -- A session was saved. Its lines, as a script, make its machine; and its journal, replayed with the image, is that machine.
  pub record KeepsSession (script_path journal_path suite_path : Option (List ℕ)) (session : ScriptedMachineState) (files files' : S) : Type 0 where
    pub leaves : LeavesMachine session.image session.sitting
    pub replays : ReplaysMachine session.image session.sitting
    pub between : S
    pub behind : S
    pub script : IsKeptIf creates created script_path (script_of (lines_done session.sitting)) files between
    pub journal : IsKeptIf creates created journal_path (journal_in (machine_in session.sitting)) between behind
    pub suite : MayKeepSuite suite_path behind files'

module _ {S O C I W E : Type 0} (opens : S → List ℕ → Result O OpenFault → S → Type 0) (opened : O → Reading → List ℕ → O → Type 0)
    (creates : S → List ℕ → Result C OpenFault → S → Type 0) (created : C → Writing → List ℕ → C → Type 0)
    (writes : W → Writing → List ℕ → W → Type 0) (reports : E → Writing → List ℕ → E → Type 0) where
  -- a session with the image of a file was saved
  pub record SavesSession (path : List ℕ) (script journal suite : Option (List ℕ)) (w w' : World S O C I W E) : Type 0 where
    pub session : ScriptedMachineState
    pub loaded : World S O C I W E
    pub loads : Loads opens opened writes reports path w loaded (Ok session.image)
    pub served : S
    pub keeps : KeepsSession creates created script journal suite session served w'.files

  -- .. as the words ask for
  pub record SavesNamed (rows : List Row) (w w' : World S O C I W E) : Type 0 where
    pub image : Text
    pub script : Option Text
    pub journal : Option Text
    pub suite : Option Text
    pub named : AreNamed rows image script journal suite
    pub saves : SavesSession image script journal suite w w'
