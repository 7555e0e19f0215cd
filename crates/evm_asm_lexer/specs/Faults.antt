-- The faults of a source, and which fault of a line is reported: the one of the least number.
use Rattle.std.specs.Prelude.{ℕ, nat_le, if◌then◌else◌, Result, Ok, Err}
use Rattle.evm_asm_lexer.specs.declared.fault.AsmFault.{AsmFault}
use Rattle.evm_asm_lexer.specs.declared.fault.AsmFaultKind.{AsmFaultKind}
use Rattle.evm_asm_lexer.specs.declared.fault.AsmFaultKind.TheVariants as report
use Rattle.evm_asm_lexer.specs.declared.source_fault.SourceFault.{SourceFault}
use Rattle.evm_asm_lexer.specs.declared.source_fault.SourceFaultKind.{SourceFaultKind}
use Rattle.evm_asm_lexer.specs.declared.source_fault.SourceFaultKind.TheVariants.{BadToken, UnknownName, BadOperand, RangeOfImmediate, LabelTwice, LabelMissing, TooLarge}

abbrev pub kind_number : AsmFaultKind → ℕ
kind_number report.BadToken = 1
kind_number report.UnknownName = 2
kind_number report.BadOperand = 3
kind_number report.RangeOfImmediate = 4
kind_number report.LabelTwice = 5
kind_number report.LabelMissing = 6
kind_number report.TooLarge = 7
kind_number report.NoMemory = 8

-- The kind that is reported. A source has no fault NoMemory.
abbrev pub reported_kind : SourceFaultKind → AsmFaultKind
reported_kind BadToken = report.BadToken
reported_kind UnknownName = report.UnknownName
reported_kind BadOperand = report.BadOperand
reported_kind RangeOfImmediate = report.RangeOfImmediate
reported_kind LabelTwice = report.LabelTwice
reported_kind LabelMissing = report.LabelMissing
reported_kind TooLarge = report.TooLarge

abbrev pub reported_fault : SourceFault → AsmFault
reported_fault fault = record { line = fault.line; kind = reported_kind fault.kind }

-- what a source has, or the fault that is reported
abbrev pub reported : {A : Type 0} → Result A SourceFault → Result A AsmFault
reported (Ok a) = Ok a
reported (Err fault) = Err (reported_fault fault)

abbrev pub source_number : SourceFaultKind → ℕ
source_number kind = kind_number (reported_kind kind)

abbrev pub least : SourceFaultKind → SourceFaultKind → SourceFaultKind
least a b = if nat_le (source_number a) (source_number b) then a else b

-- Two things that are read at once: both, or the least of their faults.
unfoldable pub both : {A B : Type 0} → Result A SourceFaultKind → Result B SourceFaultKind → Result (A × B) SourceFaultKind
both (Ok a) (Ok b) = Ok (a, b)
both (Ok a) (Err f) = Err f
both (Err e) (Ok b) = Err e
both (Err e) (Err f) = Err (least e f)

infixl 10 ◌>>=◌
abbrev pub ◌>>=◌ : {A B : Type 0} → Result A SourceFaultKind → (A → Result B SourceFaultKind) → Result B SourceFaultKind
(Ok x) >>= f = f x
(Err e) >>= f = Err e
