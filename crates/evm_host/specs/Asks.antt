-- What a program asks of the system before its job: the words, and the files that it reads. What a call answered is known by that call
-- alone, so these clauses fix which files are opened, in which order, and what is never asked for.
use Rattle.std.specs.Prelude.{◌≡◌, ℕ, List, Result, Ok, Err}
use Rattle.evm_serve.specs.evm_streams.declared.source.Reading.{Reading}
use Rattle.evm_serve.specs.evm_streams.declared.source.ReadStop.{ReadStop}
use Rattle.evm_serve.specs.evm_streams.declared.sink.Writing.{Writing}
use Rattle.evm_serve.specs.evm_streams.Reads.{Reads, ReadsText}
use Rattle.evm_ram.specs.Images.{Contents}
use Rattle.evm_streams.specs.Diagnostic.{Tells}
use Rattle.evm_serve.specs.Serving.{Unread}
use Rattle.evm_serve.specs.Imaging.{Checks}
use Rattle.evm_serve.specs.declared.ending.Ending.{Ending}
use Rattle.evm_host.specs.declared.system.OpenFault.{OpenFault}
use Rattle.evm_host.specs.declared.system.World.{World}
use Rattle.evm_host.specs.Exit.{shown_path, Ended}

module _ {S O C I W E : Type 0} where
  -- no file is asked for, and standard input is not read
  abbrev pub AsksNothing : World S O C I W E → World S O C I W E → Type 0
  AsksNothing w w' = (w'.files ≡ w.files) × (w'.input ≡ w.input)

  -- What comes behind an image: a job with it, or, where there is none, nothing but the status.
  abbrev pub Behind : Result Contents ℕ → (Contents → World S O C I W E → World S O C I W E → ℕ → Type 0) → World S O C I W E → World S O C I W E → ℕ → Type 0
  Behind (Ok image) job w w' status = job image w w' status
  Behind (Err ended) job w w' status = (w' ≡ w) × (status ≡ ended)

  -- Words that are no text end a run of a program with status 2, which is reported by its name.
  abbrev pub NotWords : List ℕ → (E → Writing → List ℕ → E → Type 0) → World S O C I W E → World S O C I W E → ℕ → Type 0
  NotWords program reports w w' status = AsksNothing w w' × ((w'.output ≡ w.output) × Tells reports program w.errors w'.errors × (status ≡ 2))

  -- An input that can't be read ends a job, and nothing else is asked for; where memory was refused, the line `memory` is written.
  abbrev pub NotRead : (W → Writing → List ℕ → W → Type 0) → (E → Writing → List ℕ → E → Type 0) → List ℕ → ReadStop → World S O C I W E → World S O C I W E → ℕ → Type 0
  NotRead writes reports name stop w w' status = AsksNothing w w' × ((ending : Ending) × Unread writes stop w.output w'.output ending × Ended reports name ending w.errors w'.errors status)

  -- A file that can't be opened or created ends a job with status 4: its name is reported, and nothing else is asked for.
  abbrev pub NotOpened : (E → Writing → List ℕ → E → Type 0) → List ℕ → World S O C I W E → World S O C I W E → ℕ → Type 0
  NotOpened reports path w w' status = AsksNothing w w' × ((w'.output ≡ w.output) × Tells reports (shown_path path) w.errors w'.errors × (status ≡ 4))

module _ {S O C I W E : Type 0} (writes : W → Writing → List ℕ → W → Type 0) (reports : E → Writing → List ℕ → E → Type 0) where
  -- the image of the bytes of a file, or the status of a job whose file has a fault
  abbrev pub ImportsBytes : List ℕ → List ℕ → World S O C I W E → World S O C I W E → Result Contents ℕ → Type 0
  ImportsBytes path file w w' (Ok image) = AsksNothing w w' × Checks writes file w.output w'.output (Ok image) × (w'.errors ≡ w.errors)
  ImportsBytes path file w w' (Err status) = AsksNothing w w' × ((ending : Ending) × Checks writes file w.output w'.output (Err ending) × Ended reports path ending w.errors w'.errors status)

module _ {S O C I W E : Type 0} (opens : S → List ℕ → Result O OpenFault → S → Type 0)
    (opened : O → Reading → List ℕ → O → Type 0) (writes : W → Writing → List ℕ → W → Type 0) (reports : E → Writing → List ℕ → E → Type 0) where
  -- the image of a file that was read, or the status of a job that has none
  abbrev pub Imported : List ℕ → Result (List ℕ) ReadStop → World S O C I W E → World S O C I W E → Result Contents ℕ → Type 0
  Imported path (Ok file) w w' result = ImportsBytes writes reports path file w w' result
  Imported path (Err stop) w w' (Ok image) = ⊥
  Imported path (Err stop) w w' (Err status) = NotRead writes reports path stop w w' status

  abbrev pub ReadsImage : List ℕ → Result O OpenFault → World S O C I W E → World S O C I W E → Result Contents ℕ → Type 0
  ReadsImage path (Err fault) w w' (Ok image) = ⊥
  ReadsImage path (Err fault) w w' (Err status) = NotOpened reports path w w' status
  ReadsImage path (Ok file) w w' result = (read : Result (List ℕ) ReadStop) × (file' : O) × Reads opened file file' read × Imported path read w w' result

  -- IMAGE is opened and imported.
  abbrev pub Loads : List ℕ → World S O C I W E → World S O C I W E → Result Contents ℕ → Type 0
  Loads path w w' result = (answer : Result O OpenFault) × (files : S) × opens w.files path answer files × ReadsImage path answer (record w { files = files }) w' result

  -- the text of a file that was read, or the status of a job that has none
  abbrev pub HasText : List ℕ → Result (List ℕ) ReadStop → World S O C I W E → World S O C I W E → Result (List ℕ) ℕ → Type 0
  HasText path (Ok text) w w' (Ok result) = (w' ≡ w) × (result ≡ text)
  HasText path (Ok text) w w' (Err status) = ⊥
  HasText path (Err stop) w w' (Ok result) = ⊥
  HasText path (Err stop) w w' (Err status) = NotRead writes reports path stop w w' status

  abbrev pub ReadsFile : List ℕ → Result O OpenFault → World S O C I W E → World S O C I W E → Result (List ℕ) ℕ → Type 0
  ReadsFile path (Err fault) w w' (Ok text) = ⊥
  ReadsFile path (Err fault) w w' (Err status) = NotOpened reports path w w' status
  ReadsFile path (Ok file) w w' result = (read : Result (List ℕ) ReadStop) × (file' : O) × ReadsText opened file file' read × HasText path read w w' result

  -- A file is opened, and read to its end as text.
  abbrev pub LoadsText : List ℕ → World S O C I W E → World S O C I W E → Result (List ℕ) ℕ → Type 0
  LoadsText path w w' result = (answer : Result O OpenFault) × (files : S) × opens w.files path answer files × ReadsFile path answer (record w { files = files }) w' result
