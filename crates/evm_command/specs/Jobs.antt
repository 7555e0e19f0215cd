-- What each job asks of the system, one call after another, and the status that it ends with. What a call answered is known by that call
-- alone, so these clauses fix which files are opened or created, in which order, and what is never asked for.
use Rattle.std.specs.Prelude.{◌≡◌, ℕ, List, Option, Some, None, Result, Ok, Err, codes}
use Rattle.std.specs.Str.{bytes_eq}
use Rattle.evm_host.specs.evm_serve.evm_streams.declared.source.Reading.{Reading}
use Rattle.evm_host.specs.evm_serve.evm_streams.declared.source.ReadStop.{ReadStop}
use Rattle.evm_host.specs.evm_serve.evm_streams.declared.sink.Writing.{Writing}
use Rattle.evm_host.specs.evm_serve.evm_streams.Reads.{Reads, ReadsText}
use Rattle.evm_ram.specs.Images.{Contents}
use Rattle.evm_host.specs.evm_serve.evm_asm.Assembled.{program_of}
use Rattle.evm_host.specs.evm_serve.evm_asm_lexer.Faults.{reported}
use Rattle.evm_host.specs.evm_serve.RunOptions.{Attached, RunOptions, image_options, bare_options}
use Rattle.evm_host.specs.evm_serve.RunNotes.{notes, EndsNotes}
use Rattle.evm_host.specs.evm_serve.Script.{script_report}
use Rattle.evm_host.specs.evm_serve.Serving.{Finishes}
use Rattle.evm_host.specs.evm_serve.Replaying.{replay_report}
use Rattle.evm_host.specs.evm_serve.Assembling.{Assembles}
use Rattle.evm_host.specs.evm_serve.declared.ending.Ending.{Ending}
use Rattle.evm_host.specs.Asks.{AsksNothing, Behind, NotRead, NotOpened, Loads}
use Rattle.evm_host.specs.declared.system.OpenFault.{OpenFault}
use Rattle.evm_host.specs.declared.system.World.{World}
use Rattle.evm_host.specs.Exit.{Source, Lines, EndedWith, Leaves}

-- the name of a script in front of its lines
abbrev pub script_name : List ℕ
script_name = codes "script"

-- the name of the stream that it comes from
abbrev pub input_name : List ℕ
input_name = codes "standard input"

module _ {S O C I W E : Type 0} (creates : S → List ℕ → Result C OpenFault → S → Type 0) (created : C → Writing → List ℕ → C → Type 0)
    (writes : W → Writing → List ℕ → W → Type 0) (reports : E → Writing → List ℕ → E → Type 0) where
  -- the text of a source is assembled into the file that was created
  abbrev pub AssemblesSource : List ℕ → List ℕ → List ℕ → Result C OpenFault → World S O C I W E → World S O C I W E → ℕ → Type 0
  AssemblesSource source out text (Err fault) w w' status = NotOpened reports out w w' status
  AssemblesSource source out text (Ok file) w w' status = AsksNothing w w' × ((ending : Ending) × (file' : C)
      × (between : E) × Assembles created writes (reported (program_of text)) file file' w.output w'.output ending × EndedWith reports Source source ending w.errors between status
      × Leaves reports (bytes_eq source out) out ending between w'.errors)

  -- OUT is created for a source that was read
  abbrev pub Creates : List ℕ → List ℕ → List ℕ → World S O C I W E → World S O C I W E → ℕ → Type 0
  Creates source out text w w' status = (answer : Result C OpenFault) × (files : S) × creates w.files out answer files × AssemblesSource source out text answer (record w { files = files }) w' status

module _ {S O C I W E : Type 0} (opens : S → List ℕ → Result O OpenFault → S → Type 0) (creates : S → List ℕ → Result C OpenFault → S → Type 0)
    (opened : O → Reading → List ℕ → O → Type 0) (created : C → Writing → List ℕ → C → Type 0)
    (writes : W → Writing → List ℕ → W → Type 0) (reports : E → Writing → List ℕ → E → Type 0) where
  -- Where the source was not read, OUT is never asked for.
  abbrev pub ReadsSource : List ℕ → List ℕ → Result (List ℕ) ReadStop → World S O C I W E → World S O C I W E → ℕ → Type 0
  ReadsSource source out (Ok text) w w' status = Creates creates created writes reports source out text w w' status
  ReadsSource source out (Err stop) w w' status = NotRead writes reports source stop w w' status

  -- the source is read to its end from the file that was opened
  abbrev pub OpensSource : List ℕ → List ℕ → Result O OpenFault → World S O C I W E → World S O C I W E → ℕ → Type 0
  OpensSource source out (Err fault) w w' status = NotOpened reports source w w' status
  OpensSource source out (Ok file) w w' status = (read : Result (List ℕ) ReadStop) × (file' : O) × ReadsText opened file file' read × ReadsSource source out read w w' status

  -- `asm SRC OUT`: SRC is opened and read, and then OUT is created.
  abbrev pub AssemblesFile : List ℕ → List ℕ → World S O C I W E → World S O C I W E → ℕ → Type 0
  AssemblesFile source out w w' status = (answer : Result O OpenFault) × (files : S) × opens w.files source answer files × OpensSource source out answer (record w { files = files }) w' status

module _ {S O C I W E : Type 0} (writes : W → Writing → List ℕ → W → Type 0) (reports : E → Writing → List ℕ → E → Type 0) where
  -- the text of a journal is replayed with devices and an image
  abbrev pub ReplaysText : List Attached → List ℕ → Contents → List ℕ → World S O C I W E → World S O C I W E → ℕ → Type 0
  ReplaysText devices path image text w w' status = AsksNothing w w' × ((ending : Ending)
      × Finishes writes (replay_report (image_options devices image) text) w.output w'.output ending × EndedWith reports (Lines text) path ending w.errors w'.errors status)

  abbrev pub ReplaysRead : List Attached → List ℕ → Contents → Result (List ℕ) ReadStop → World S O C I W E → World S O C I W E → ℕ → Type 0
  ReplaysRead devices path image (Ok text) w w' status = ReplaysText devices path image text w w' status
  ReplaysRead devices path image (Err stop) w w' status = NotRead writes reports path stop w w' status

  -- a script is served, with the options of its run; its notes come before its ending
  abbrev pub ServesScript : RunOptions → List ℕ → World S O C I W E → World S O C I W E → ℕ → Type 0
  ServesScript options script w w' status = AsksNothing w w' × ((ending : Ending)
      × (between : E) × Finishes writes (script_report options script) w.output w'.output ending × EndsNotes reports (notes options script_name script) ending w.errors between
      × EndedWith reports (Lines script) script_name ending between w'.errors status)

  abbrev pub ServesRead : RunOptions → Result (List ℕ) ReadStop → World S O C I W E → World S O C I W E → ℕ → Type 0
  ServesRead options (Ok script) w w' status = ServesScript options script w w' status
  ServesRead options (Err stop) w w' status = NotRead writes reports input_name stop w w' status

module _ {S O C I W E : Type 0} (opens : S → List ℕ → Result O OpenFault → S → Type 0)
    (opened : O → Reading → List ℕ → O → Type 0) (writes : W → Writing → List ℕ → W → Type 0) (reports : E → Writing → List ℕ → E → Type 0) where
  -- a journal is read to its end from the file that was opened
  abbrev pub ReplaysFile : List Attached → List ℕ → Contents → Result O OpenFault → World S O C I W E → World S O C I W E → ℕ → Type 0
  ReplaysFile devices path image (Err fault) w w' status = NotOpened reports path w w' status
  ReplaysFile devices path image (Ok file) w w' status = (read : Result (List ℕ) ReadStop) × (file' : O) × ReadsText opened file file' read × ReplaysRead writes reports devices path image read w w' status

  abbrev pub ReplaysJournal : List Attached → List ℕ → Contents → World S O C I W E → World S O C I W E → ℕ → Type 0
  ReplaysJournal devices path image w w' status = (answer : Result O OpenFault) × (files : S) × opens w.files path answer files × ReplaysFile devices path image answer (record w { files = files }) w' status

  -- `replay IMAGE JOURNAL`: once IMAGE is imported, JOURNAL is opened.
  abbrev pub Replays : List Attached → List ℕ → List ℕ → World S O C I W E → World S O C I W E → ℕ → Type 0
  Replays devices path journal w w' status = (loaded : Result Contents ℕ) × (between : World S O C I W E) × Loads opens opened writes reports path w between loaded × Behind loaded (ReplaysJournal devices journal) between w' status

module _ {S O C I W E : Type 0} (gives : I → Reading → List ℕ → I → Type 0) (writes : W → Writing → List ℕ → W → Type 0) (reports : E → Writing → List ℕ → E → Type 0) where
  -- the script of standard input is read to its end, and then served
  abbrev pub ServesInput : RunOptions → World S O C I W E → World S O C I W E → ℕ → Type 0
  ServesInput options w w' status = (read : Result (List ℕ) ReadStop) × (input : I) × Reads gives w.input input read × ServesRead writes reports options read (record w { input = input }) w' status

module _ {S O C I W E : Type 0} (opens : S → List ℕ → Result O OpenFault → S → Type 0) (opened : O → Reading → List ℕ → O → Type 0)
    (gives : I → Reading → List ℕ → I → Type 0) (writes : W → Writing → List ℕ → W → Type 0) (reports : E → Writing → List ℕ → E → Type 0) where
  -- `run IMAGE`: once IMAGE is imported, standard input is served with it.
  abbrev pub RunsImage : List Attached → List ℕ → World S O C I W E → World S O C I W E → ℕ → Type 0
  RunsImage devices path w w' status = (loaded : Result Contents ℕ) × (between : World S O C I W E)
      × Loads opens opened writes reports path w between loaded × Behind loaded (λ image. ServesInput gives writes reports (image_options devices image)) between w' status

  -- `run` alone opens nothing.
  abbrev pub Runs : List Attached → Option (List ℕ) → World S O C I W E → World S O C I W E → ℕ → Type 0
  Runs devices None w w' status = ServesInput gives writes reports (bare_options devices) w w' status
  Runs devices (Some path) w w' status = RunsImage devices path w w' status
