-- How the reading of an image may end, and what it has written then.
use Rattle.std.specs.Prelude.{◌≡◌, ℕ, List, [], None, ◌⊎◌, Result, Ok, Err, IsSomeAnd}
use Rattle.evm_streams.specs.declared.sink.Writing.{Writing}
use Rattle.evm_streams.specs.declared.source.ReadStop.{ReadStop}
use Rattle.evm_ram.specs.Images.{Contents}
use Rattle.evm_elf.specs.Faults.{fault_of, image_of}
use Rattle.evm_elf.specs.declared.fault.ElfFault.{ElfFault}
use Rattle.evm_serve.specs.Script.{Report}
use Rattle.evm_serve.specs.FaultLines.{no_image_text}
use Rattle.evm_serve.specs.Serving.{WritesAll, EndsInMemory, Unread}
use Rattle.evm_serve.specs.declared.ending.Ending.{Ending}
use Rattle.evm_serve.specs.declared.ending.Verdict.TheVariants.{ImageRefused}

-- the report of a file that has a fault
abbrev pub no_image_report : ElfFault → Report
no_image_report fault = record { text = no_image_text fault; verdict = ImageRefused fault }

module _ {W : Type 0} (takes : W → Writing → List ℕ → W → Type 0) where
  -- Bytes without a fault give their image, and the writer has no call. Of others the first fault is reported; or memory was refused, and
  -- the line `memory` is written.
  abbrev pub Checks : List ℕ → W → W → Result Contents Ending → Type 0
  Checks file w w' (Ok image) = (fault_of file ≡ None) × (image ≡ image_of file) × (w' ≡ w)
  Checks file w w' (Err ending) = IsSomeAnd (fault_of file) (λ fault. WritesAll takes (no_image_report fault) w w' ending) ⊎ EndsInMemory takes [] w w' ending

  -- likewise of a file that was read; or the end of a run that could not read it
  abbrev pub Imports : Result (List ℕ) ReadStop → W → W → Result Contents Ending → Type 0
  Imports (Ok file) w w' result = Checks file w w' result
  Imports (Err stop) w w' (Ok image) = ⊥
  Imports (Err stop) w w' (Err ending) = Unread takes stop w w' ending
