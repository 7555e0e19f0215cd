-- What runs do over readers and writers of std whose bytes are known, as a slice's or a Vec's are.
use Rattle.std.specs.Prelude.{◌≡◌, ◌<◌, ◌≤◌, ℕ, List, [], ◌++◌, ◌⊎◌, Option, None, Result, Ok, Err, IfSome, IsSomeAnd, IsUtf8, length, ⊤}
use Rattle.std.specs.Io.KnownBytes.{Appends, Keeps}
use Rattle.evm_streams.specs.declared.source.ReadFault.TheVariants.{Failed, TooLong, NotUtf8}
use Rattle.evm_streams.specs.declared.source.ReadStop.{ReadStop}
use Rattle.evm_streams.specs.declared.reads.TheConstants.{FILE_LIMIT}
use Rattle.evm_streams.specs.Reads.{Reads, ReadsText}
use Rattle.evm_streams.specs.Known.{ReaderGives, WriterTakes, AppendsPrefix}
use Rattle.evm_ram.specs.Images.{Contents}
use Rattle.evm_elf.specs.Faults.{fault_of, image_of}
use Rattle.evm_elf.specs.Files.{file_of}
use Rattle.evm_elf.specs.evm_asm.Assembled.{Assembled}
use Rattle.evm_elf.specs.evm_asm_lexer.declared.fault.AsmFault.{AsmFault}
use Rattle.evm_serve.specs.Script.{Report, memory_text}
use Rattle.evm_serve.specs.Serving.{IsPrefix, Serves}
use Rattle.evm_serve.specs.Imaging as imaging
use Rattle.evm_serve.specs.Assembling as assembling
use Rattle.evm_serve.specs.declared.ending.Ending.{Ending}
use Rattle.evm_serve.specs.declared.ending.Verdict.TheVariants.{Done}
use Rattle.evm_serve.specs.declared.ending.Ending.TheVariants.{Complete, NoMemory, ReadFailed, WriteFailed}

-- all of a report stands behind known contents, with its verdict, or a prefix of it
abbrev pub AppendsAll : Report → Option (List ℕ) → Option (List ℕ) → Ending → Type 0
AppendsAll all old new (Complete verdict) = Appends old new all.text × (verdict ≡ all.verdict)
AppendsAll all old new NoMemory = ⊥
AppendsAll all old new (ReadFailed fault) = ⊥
AppendsAll all old new (WriteFailed fault) = AppendsPrefix old new all.text

-- a prefix and then the line `memory` stand there, or a prefix of these
abbrev pub AppendsMemory : List ℕ → Option (List ℕ) → Option (List ℕ) → Ending → Type 0
AppendsMemory prefix old new (Complete verdict) = ⊥
AppendsMemory prefix old new NoMemory = Appends old new (prefix ++ memory_text)
AppendsMemory prefix old new (ReadFailed fault) = ⊥
AppendsMemory prefix old new (WriteFailed fault) = AppendsPrefix old new (prefix ++ memory_text)

-- what a run has written of its report by its end: after a failed read nothing
abbrev pub AppendsReport : Report → Option (List ℕ) → Option (List ℕ) → Ending → Type 0
AppendsReport all old new (ReadFailed fault) = Keeps old new
AppendsReport all old new ending = AppendsAll all old new ending ⊎ ((prefix : List ℕ) × IsPrefix prefix all.text × AppendsMemory prefix old new ending)

-- only an input within the limit has its report written to the end, and the end says why it was not read
abbrev pub IsWithin : List ℕ → Ending → Type 0
IsWithin input (Complete verdict) = length input ≤ FILE_LIMIT
IsWithin input NoMemory = ⊤
IsWithin input (ReadFailed (Failed cause)) = ⊤
IsWithin input (ReadFailed TooLong) = FILE_LIMIT < length input
IsWithin input (ReadFailed NotUtf8) = ⊥
IsWithin input (WriteFailed fault) = ⊤

-- likewise an input that is a text
abbrev pub IsTextWithin : List ℕ → Ending → Type 0
IsTextWithin input (Complete verdict) = (length input ≤ FILE_LIMIT) × IsUtf8 input
IsTextWithin input (ReadFailed NotUtf8) = ¬ IsUtf8 input
IsTextWithin input ending = IsWithin input ending

-- what reading an image of a known file answers, and what it has written then
abbrev pub ImportsKnown : List ℕ → Option (List ℕ) → Option (List ℕ) → Result Contents Ending → Type 0
ImportsKnown file old new (Ok image) = (fault_of file ≡ None) × (image ≡ image_of file) × Keeps old new × (length file ≤ FILE_LIMIT)
ImportsKnown file old new (Err (ReadFailed fault)) = Keeps old new × IsWithin file (ReadFailed fault)
ImportsKnown file old new (Err ending) = (IsSomeAnd (fault_of file) (λ fault. AppendsAll (imaging.no_image_report fault) old new ending) ⊎ AppendsMemory [] old new ending) × IsWithin file ending

-- what assembling has written to a file and reported, each of known contents
abbrev pub AssemblesKnown : Result Assembled AsmFault → Option (List ℕ) → Option (List ℕ) → Option (List ℕ) → Option (List ℕ) → Ending → Type 0
AssemblesKnown (Ok p) out out' report report' ending =
    (AppendsAll (record { text = file_of p.bytes; verdict = Done }) out out' ending × Keeps report report')
    ⊎ (Keeps out out' × AppendsMemory [] report report' ending)
AssemblesKnown (Err fault) out out' report report' ending =
    Keeps out out' × (AppendsAll (assembling.no_program_report fault) report report' ending ⊎ AppendsMemory [] report report' ending)

module _ {R W : Type 0} (remaining : R → Option (List ℕ)) (contents : W → Option (List ℕ)) where
  -- a run that reads known bytes is the run of these
  abbrev pub ServesKnown : Type 0
  ServesKnown = (report : List ℕ → Report) (s t : R) (w w' : W) (read : Result (List ℕ) ReadStop) (ending : Ending)
      → Reads (ReaderGives remaining) s t read → Serves (WriterTakes contents) report read w w' ending
      → IfSome (remaining s) (λ input. AppendsReport (report input) (contents w) (contents w') ending × IsWithin input ending)

  -- likewise one that reads a text
  abbrev pub ServesKnownText : Type 0
  ServesKnownText = (report : List ℕ → Report) (s t : R) (w w' : W) (read : Result (List ℕ) ReadStop) (ending : Ending)
      → ReadsText (ReaderGives remaining) s t read → Serves (WriterTakes contents) report read w w' ending
      → IfSome (remaining s) (λ input. AppendsReport (report input) (contents w) (contents w') ending × IsTextWithin input ending)

  -- an image that is read from known bytes is that of these
  abbrev pub ImportsKnownFile : Type 0
  ImportsKnownFile = (s t : R) (w w' : W) (read : Result (List ℕ) ReadStop) (result : Result Contents Ending)
      → Reads (ReaderGives remaining) s t read → imaging.Imports (WriterTakes contents) read w w' result
      → IfSome (remaining s) (λ file. ImportsKnown file (contents w) (contents w') result)

module _ {W T : Type 0} (contents : W → Option (List ℕ)) (reported : T → Option (List ℕ)) where
  -- a source assembled into known contents
  abbrev pub AssemblesIntoKnown : Type 0
  AssemblesIntoKnown = (made : Result Assembled AsmFault) (out out' : W) (report report' : T) (ending : Ending)
      → assembling.Assembles (WriterTakes contents) (WriterTakes reported) made out out' report report' ending
      → AssemblesKnown made (contents out) (contents out') (reported report) (reported report') ending
