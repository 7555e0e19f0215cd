-- The line that a report ends with, if the run ends at a fault.
use Rattle.std.specs.Prelude.{ℕ, List, ◌++◌, codes}
use Rattle.evm_diagnostics.specs.evm_text.Written.{decimal}
use Rattle.evm_model.specs.Refusals.{number_of}
use Rattle.evm_model.specs.declared.refusal.Refusal.{Refusal}
use Rattle.evm_elf.specs.evm_asm_lexer.Faults as words
use Rattle.evm_elf.specs.Faults.{file_fault_number}
use Rattle.evm_elf.specs.declared.fault.ElfFault.{ElfFault}
use Rattle.evm_diagnostics.specs.evm_journal.Faults as journals
use Rattle.evm_diagnostics.specs.declared.fault.InputFault.{InputFault}
use Rattle.evm_diagnostics.specs.declared.fault.InputFault.TheVariants.{BadLine, Refused, NoProgram, NoJournal}

-- of a run that ends at line n
abbrev pub bad_text : ℕ → List ℕ
bad_text n = codes "bad " ++ decimal n ++ codes "\n"

abbrev pub refused_text : ℕ → Refusal → List ℕ
refused_text n refusal = codes "refused " ++ decimal n ++ codes " " ++ decimal (number_of refusal) ++ codes "\n"

abbrev pub fault_text : InputFault → List ℕ
fault_text (BadLine n fault) = bad_text n
fault_text (Refused n cpu refusal) = refused_text n refusal
fault_text (NoProgram fault) = codes "asm " ++ decimal fault.line ++ codes " " ++ decimal (words.kind_number fault.kind) ++ codes "\n"
fault_text (NoJournal fault) = codes "journal " ++ decimal fault.line ++ codes " " ++ decimal (journals.journal_kind_number fault.kind) ++ codes "\n"

-- of a file that is not an image
abbrev pub no_image_text : ElfFault → List ℕ
no_image_text fault = codes "image " ++ decimal (file_fault_number fault) ++ codes "\n"
