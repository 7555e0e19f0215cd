-- The fault that is reported of a source: the least of the first line that has any.
use Rattle.std.specs.Prelude.{◌≡◌, ◌<◌, ◌↔◌, ℕ, zero, suc, List, [], take, slice_get, IsOk, Option, Some, None, option_and_then, Result, Ok, Err}
use Rattle.evm_asm.specs.evm_asm_lexer.declared.source_fault.SourceFault.{SourceFault}
use Rattle.evm_asm.specs.evm_asm_lexer.declared.source_fault.SourceFaultKind.{SourceFaultKind}
use Rattle.evm_asm.specs.declared.item.Placed.{Placed}
use Rattle.evm_asm.specs.declared.place.SectionPlace.{SectionPlace}
use Rattle.evm_asm.specs.evm_asm_lexer.Faults.{least}
use Rattle.evm_asm.specs.Sources.{Laid, nothing_laid, laid, line_laid, source_lines, code_of, statement_text}
use Rattle.evm_asm.specs.Items.{line_meant, layout_of, meaning_of}

abbrev pub fault_in : {A : Type 0} → Result A SourceFaultKind → Option SourceFaultKind
fault_in (Ok a) = None
fault_in (Err kind) = Some kind

-- the least of two faults, if there are any
abbrev pub lesser : Option SourceFaultKind → Option SourceFaultKind → Option SourceFaultKind
lesser None fault = fault
lesser (Some kind) None = Some kind
lesser (Some kind) (Some other) = Some (least kind other)

-- the fault that a line at a place has by itself, once all labels are known
abbrev pub meaning_fault : Laid → SectionPlace → List ℕ → Option SourceFaultKind
meaning_fault whole place line = fault_in (line_meant whole.labels whole.place.text_size 0 place (statement_text (code_of line)) [])

-- The least fault of a line: of those found when it is laid out behind the lines before it, and the one it has by itself.
abbrev pub line_fault : Laid → Laid → List ℕ → Option SourceFaultKind
line_fault whole before line = lesser (line_laid before.labels before.place (code_of line)).1.1 (meaning_fault whole before.place line)

-- The least fault of line n of a source, from 1, if the lines before it have none.
unfoldable pub fault_at : List ℕ → ℕ → Option SourceFaultKind
fault_at source zero = None
fault_at source (suc n) =
    option_and_then (line_fault (layout_of source) (laid nothing_laid (take n (source_lines source)))) (slice_get (source_lines source) n)

abbrev pub IsFirstFault : List ℕ → SourceFault → Type 0
IsFirstFault source fault = (fault_at source fault.line ≡ Some fault.kind) × ((n : ℕ) → n < fault.line → fault_at source n ≡ None)

-- A source is refused with the least fault of its first line that has any.
abbrev pub RefusesTheLeast : Type 0
RefusesTheLeast = (source : List ℕ) (fault : SourceFault) → meaning_of source ≡ Err fault ↔ IsFirstFault source fault

-- A source means something if and only if no line has a fault.
abbrev pub MeansWithoutFaults : Type 0
MeansWithoutFaults = (source : List ℕ) → IsOk (meaning_of source) ↔ ((n : ℕ) → fault_at source n ≡ None)

-- Where a source means something, laying it out found no fault.
abbrev pub NoFaultIsIgnored : Type 0
NoFaultIsIgnored = (source : List ℕ) (items : List Placed) → meaning_of source ≡ Ok items → (layout_of source).first ≡ None
