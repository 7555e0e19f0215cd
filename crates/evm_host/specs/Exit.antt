-- Of which file or which line of it a job reports on standard error, and the status that it ends with.
use Rattle.std.specs.Prelude.{◌≡◌, ℕ, List, codes, Bool, true, false, nat_eq, length, if◌then◌else◌}
use Rattle.evm_serve.specs.evm_streams.declared.sink.Writing.{Writing}
use Rattle.evm_serve.specs.evm_diagnostics.Faults.{line_at_fault}
use Rattle.evm_serve.specs.evm_diagnostics.Lookup.{has_boot}
use Rattle.evm_streams.specs.Diagnostic.{Tells, TellsLine}
use Rattle.evm_serve.specs.Serving.{status_at}
use Rattle.evm_serve.specs.declared.ending.Verdict.TheVariants as verdicts
use Rattle.evm_serve.specs.declared.ending.Ending.{Ending}
use Rattle.evm_serve.specs.declared.ending.Ending.TheVariants.{Complete, NoMemory, ReadFailed, WriteFailed}
use Rattle.evm_host.specs.declared.exit.Input as declared
use Rattle.evm_host.specs.declared.exit.Input.TheVariants as inputs

-- a path, or '' if it is empty
abbrev pub shown_path : List ℕ → List ℕ
shown_path path = if nat_eq (length path) 0 then codes "''" else path

-- the input of a job: nothing is known of it, it is a source, or the script or the journal that it takes line by line
pub data Input : Type 0 where
  Nothing : Input
  Source : Input
  Lines : (text : List ℕ) → Input

-- what the code has of it
abbrev pub input_of : declared.Input → Input
input_of inputs.Nothing = Nothing
input_of (inputs.Source text) = Source
input_of (inputs.Lines image text) = Lines text.now
input_of (inputs.File bytes) = Nothing

-- the stream that reports are written to
abbrev pub report_name : List ℕ
report_name = codes "standard output"

-- the name of what a job writes to; `asm` writes to two files
abbrev pub output_name : Input → List ℕ
output_name Source = codes "OUT or standard output"
output_name input = report_name

module _ {E : Type 0} (takes : E → Writing → List ℕ → E → Type 0) where
  -- A script without a boot line does nothing, which is reported.
  abbrev pub TellsIdle : List ℕ → Bool → E → E → Type 0
  TellsIdle name true e e' = e' ≡ e
  TellsIdle name false e e' = Tells takes name e e'

  -- What a job reports of input of which all is done.
  abbrev pub Finished : Input → List ℕ → E → E → Type 0
  Finished (Lines text) name e e' = TellsIdle name (has_boot text) e e'
  Finished Nothing name e e' = e' ≡ e
  Finished Source name e e' = e' ≡ e

  -- What a job on a file reports of its ending: the line of the fault, or the file or the stream that failed.
  abbrev pub Explains : Input → List ℕ → Ending → E → E → Type 0
  Explains input name (Complete verdicts.Done) e e' = Finished input name e e'
  Explains input name (Complete (verdicts.Refused fault)) e e' = TellsLine takes name (line_at_fault fault) e e'
  Explains input name (Complete (verdicts.ImageRefused fault)) e e' = Tells takes name e e'
  Explains input name NoMemory e e' = Tells takes name e e'
  Explains input name (ReadFailed fault) e e' = Tells takes name e e'
  Explains input name (WriteFailed fault) e e' = Tells takes (output_name input) e e'

  -- A job that ends so has the status of its ending, and has reported why.
  abbrev pub EndedWith : Input → List ℕ → Ending → E → E → ℕ → Type 0
  EndedWith input name ending e e' status = Explains input name ending e e' × (status ≡ status_at ending)

  -- likewise a job that knows nothing of its input
  abbrev pub Ended : List ℕ → Ending → E → E → ℕ → Type 0
  Ended name ending e e' status = EndedWith Nothing name ending e e' status

  -- OUT is reported if it is empty, since the source has a fault.
  abbrev pub Emptied : List ℕ → Ending → E → E → Type 0
  Emptied out (Complete (verdicts.Refused fault)) e e' = Tells takes (shown_path out) e e'
  Emptied out ending e e' = e' ≡ e

  -- It is reported too if it was the source, which is lost then.
  abbrev pub Leaves : (lost : Bool) → List ℕ → Ending → E → E → Type 0
  Leaves true out ending e e' = Tells takes (shown_path out) e e'
  Leaves false out ending e e' = Emptied out ending e e'
