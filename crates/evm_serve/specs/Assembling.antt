-- What assembling a source writes to a file and reports.
use Rattle.std.specs.Prelude.{◌≡◌, ℕ, List, [], ◌⊎◌, Result, Ok, Err}
use Rattle.evm_streams.specs.declared.sink.Writing.{Writing}
use Rattle.evm_elf.specs.evm_asm.Assembled.{Assembled}
use Rattle.evm_elf.specs.evm_asm_lexer.declared.fault.AsmFault.{AsmFault}
use Rattle.evm_elf.specs.Files.{file_of}
use Rattle.evm_serve.specs.Script.{Report}
use Rattle.evm_serve.specs.FaultLines.{fault_text}
use Rattle.evm_serve.specs.Serving.{WritesAll, EndsInMemory}
use Rattle.evm_serve.specs.declared.ending.Ending.{Ending}
use Rattle.evm_serve.specs.declared.ending.Verdict.TheVariants.{Done, Refused}
use Rattle.evm_diagnostics.specs.declared.fault.InputFault.TheVariants.{NoProgram}

-- the report of a source that has a fault
abbrev pub no_program_report : AsmFault → Report
no_program_report fault = record { text = fault_text (NoProgram fault); verdict = Refused (NoProgram fault) }

module _ {W T : Type 0} (takes : W → Writing → List ℕ → W → Type 0) (takes_report : T → Writing → List ℕ → T → Type 0) where
  -- The file of a program is written and nothing reported; a fault is reported and no file written; or memory was refused, the line
  -- `memory` is reported and no file written. Where nothing is written there is no call.
  abbrev pub Assembles : Result Assembled AsmFault → W → W → T → T → Ending → Type 0
  Assembles (Ok p) out out' report report' ending =
      (WritesAll takes (record { text = file_of p.bytes; verdict = Done }) out out' ending × (report' ≡ report))
      ⊎ ((out' ≡ out) × EndsInMemory takes_report [] report report' ending)
  Assembles (Err fault) out out' report report' ending =
      (out' ≡ out) × (WritesAll takes_report (no_program_report fault) report report' ending ⊎ EndsInMemory takes_report [] report report' ending)
