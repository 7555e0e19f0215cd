-- What a source means: its instructions and data in their order. No instruction bits stand here.
use Rattle.std.specs.Prelude.{◌≡◌, ◌≤◌, ℕ, zero, suc, ◌+◌, ◌-◌, ◌*◌, ◌/◌, ◌%◌, ◌&&◌, ◌==◌, nat_le, if◌then◌else◌, List, [], ◌∷◌, ◌++◌, Option, Some, None, Result, Ok, Err, ℤ, pos, neg_ℤ}
use Rattle.evm_isa.specs.declared.inst.ImmediateOp.TheVariants.{Addi, Addiw}
use Rattle.evm_isa.specs.declared.inst.Inst.TheVariants as inst
use Rattle.evm_asm_parser.specs.evm_asm_lexer.declared.fault.AsmFault.{AsmFault}
use Rattle.evm_asm_parser.specs.evm_asm_lexer.declared.fault.AsmFaultKind.TheVariants.{NoMemory}
use Rattle.evm_asm_parser.specs.evm_asm_lexer.declared.source_fault.SourceFault.{SourceFault}
use Rattle.evm_asm_parser.specs.evm_asm_lexer.declared.source_fault.SourceFaultKind.{SourceFaultKind}
use Rattle.evm_asm_parser.specs.evm_asm_lexer.declared.source_fault.SourceFaultKind.TheVariants.{RangeOfImmediate, LabelMissing}
use Rattle.evm_ram.specs.declared.ram.TheConstants.{BASE}
use Rattle.evm_asm.specs.declared.failure.AssemblyFailure.{AssemblyFailure}
use Rattle.evm_asm.specs.declared.failure.AssemblyFailure.TheVariants as failure
use Rattle.evm_asm.specs.declared.meaning.LineFailure.{LineFailure}
use Rattle.evm_asm.specs.declared.meaning.LineFailure.TheVariants as stop
use Rattle.evm_asm.specs.declared.item.Expansion.{Expansion}
use Rattle.evm_asm.specs.declared.item.Expansion.TheVariants as expansion
use Rattle.evm_asm.specs.declared.item.SourceItem.{SourceItem}
use Rattle.evm_asm.specs.declared.item.SourceItem.TheVariants as item
use Rattle.evm_asm.specs.declared.item.Placed.{Placed}
use Rattle.evm_asm_parser.specs.evm_asm_lexer.declared.mnemonic.Section.{Section as Part}
use Rattle.evm_asm_parser.specs.evm_asm_lexer.declared.mnemonic.Section.TheVariants as section
use Rattle.evm_asm_parser.specs.evm_asm_lexer.declared.mnemonic.DataWidth.{DataWidth}
use Rattle.evm_asm_parser.specs.declared.spot.Spot.{Spot}
use Rattle.evm_asm.specs.declared.place.SectionPlace.{SectionPlace}
use Rattle.evm_asm_parser.specs.declared.statement.Datum.{Datum}
use Rattle.evm_asm_parser.specs.declared.statement.Datum.TheVariants as datum
use Rattle.evm_asm_parser.specs.declared.statement.Statement.{Statement}
use Rattle.evm_asm_parser.specs.declared.statement.Statement.TheVariants.{One, Branch, Jump, LoadImmediate, LoadAddress, Numbers, Space, Align}
use Rattle.evm_asm_parser.specs.evm_asm_lexer.Faults.{least, ◌>>=◌}
use Rattle.evm_asm_parser.specs.evm_asm_lexer.Text.{skip_blanks, behind_word}
use Rattle.evm_asm_parser.specs.Operands.{Spots, datum_in, first_operand, other_operands}
use Rattle.evm_asm.specs.Places.{offset, place_behind, statement_in, is_small, low_word, low_part, high_part, needs_low_part, padding, is_text}
use Rattle.evm_asm.specs.Sources.{Laid, nothing_laid, laid, source_start, source_lines, code_of, statement_text}

-- The text begins where RAM does, the data at the first multiple of 4,096 at or after its end.
abbrev pub text_base : ℕ
text_base = BASE

abbrev pub data_base : ℕ → ℕ
data_base text_size = text_base + (text_size + 4095) / 4096 * 4096

abbrev pub address_of_offset : ℕ → Part → ℕ → ℕ
address_of_offset text_size section.Text offset = text_base + offset
address_of_offset text_size section.Data offset = data_base text_size + offset

abbrev pub address : ℕ → Spot → ℕ
address text_size spot = address_of_offset text_size spot.section spot.offset

-- From an instruction to its target: an even number, from -below to above.
unfoldable pub distance : ℕ → ℕ → ℕ → ℕ → Result ℤ SourceFaultKind
distance below above from target =
    if nat_le from target
    then (if (target - from) % 2 == 0 && nat_le (target - from) above then Ok (pos (target - from)) else Err RangeOfImmediate)
    else (if (from - target) % 2 == 0 && nat_le (from - target) below then Ok (neg_ℤ (pos (from - target))) else Err RangeOfImmediate)

-- the distance to a label
abbrev pub distance_to : ℕ → ℕ → ℕ → ℕ → Option Spot → Result ℤ SourceFaultKind
distance_to below above text_size from (Some spot) = distance below above from (address text_size spot)
distance_to below above text_size from None = Err LabelMissing

-- addi from x0, or lui and what is left, if anything is
unfoldable pub load_immediate : ℕ → ℤ → Expansion
load_immediate rd value =
    if is_small value then expansion.Single (inst.Immediate Addi rd 0 value)
    else (if needs_low_part (low_word value)
    then expansion.Double (inst.Lui rd (high_part (low_word value))) (inst.Immediate Addiw rd rd (low_part (low_word value)))
    else expansion.Single (inst.Lui rd (high_part (low_word value))))

-- auipc and addi, by the 32 bits of the distance
abbrev pub load_address_by : ℕ → ℕ → Expansion
load_address_by rd by = expansion.Double (inst.Auipc rd (high_part by)) (inst.Immediate Addi rd rd (low_part by))

unfoldable pub load_address : ℕ → ℕ → ℕ → Option Spot → Result Expansion SourceFaultKind
load_address text_size from rd (Some spot) = Ok (load_address_by rd ((address text_size spot + 4294967296 - from) % 4294967296))
load_address text_size from rd None = Err LabelMissing

-- the instructions of a statement that stands at an address
unfoldable pub expanded : ℕ → ℕ → Statement → Result Expansion SourceFaultKind
expanded text_size from (One i) = Ok (expansion.Single i)
expanded text_size from (Branch op rs1 rs2 target) = do
  d ← distance_to 4096 4094 text_size from target
  Ok (expansion.Single (inst.Branch op rs1 rs2 d))
expanded text_size from (Jump rd target) = do
  d ← distance_to 1048576 1048574 text_size from target
  Ok (expansion.Single (inst.Jal rd d))
expanded text_size from (LoadImmediate rd value) = Ok (load_immediate rd value)
expanded text_size from (LoadAddress rd target) = load_address text_size from rd target
expanded text_size from statement = Ok expansion.Empty

abbrev pub with_item : Part → SourceItem → List Placed → List Placed
with_item part i so_far = so_far ++ record { section = part; item = i } ∷ []

-- the items so far, and behind them the instructions
unfoldable pub with_instructions : ℕ → Expansion → List Placed → List Placed
with_instructions line expansion.Empty so_far = so_far
with_instructions line (expansion.Single a) so_far = with_item section.Text (item.Instruction line a) so_far
with_instructions line (expansion.Double a b) so_far = with_item section.Text (item.Instruction line b) (with_item section.Text (item.Instruction line a) so_far)

abbrev pub value_of : ℕ → Datum → Result ℕ SourceFaultKind
value_of text_size (datum.Value n) = Ok n
value_of text_size (datum.Label (Some spot)) = Ok (address text_size spot)
value_of text_size (datum.Label None) = Err LabelMissing

unfoldable pub value_in : Spots → ℕ → DataWidth → List ℕ → Result ℕ SourceFaultKind
value_in labels text_size width text = datum_in labels width text >>= value_of text_size

-- the items so far, and behind them one number
unfoldable pub number_pushed : Spots → ℕ → Part → DataWidth → List ℕ → List Placed → Result (List Placed) SourceFaultKind
number_pushed labels text_size part width text so_far = do
  v ← value_in labels text_size width text
  Ok (with_item part (item.Number width v) so_far)

-- the items so far, and behind them the first n numbers of a list
unfoldable pub with_numbers : Spots → ℕ → Part → DataWidth → ℕ → List ℕ → List Placed → Result (List Placed) SourceFaultKind
with_numbers labels text_size part width zero text so_far = Ok so_far
with_numbers labels text_size part width (suc n) text so_far = do
  items ← number_pushed labels text_size part width (first_operand text) so_far
  with_numbers labels text_size part width n (other_operands text) items

-- In the text, at a multiple of 4, an alignment to a multiple of 4 is filled with nops, else with zeros.
unfoldable pub filling : SectionPlace → ℕ → SourceItem
filling place power =
    if is_text place.section && (place.text_size % 4 == 0 && nat_le 2 power)
    then item.Nops (padding (offset place) power / 4) else item.Zeros (padding (offset place) power)

abbrev pub operands : List ℕ → List ℕ
operands text = behind_word (skip_blanks text)

-- the items so far, and behind them those of a statement on a line
unfoldable pub with_statement : Spots → ℕ → ℕ → SectionPlace → List ℕ → Statement → List Placed → Result (List Placed) SourceFaultKind
with_statement labels text_size line place text (Numbers width count) so_far = with_numbers labels text_size place.section width count (operands text) so_far
with_statement labels text_size line place text (Space size) so_far = Ok (with_item place.section (item.Zeros size) so_far)
with_statement labels text_size line place text (Align power) so_far = Ok (with_item place.section (filling place power) so_far)
with_statement labels text_size line place text statement so_far = do
  e ← expanded text_size (text_base + place.text_size) statement
  Ok (with_instructions line e so_far)

-- the place behind a statement, and the items so far with its own
unfoldable pub statement_meant : Spots → ℕ → ℕ → SectionPlace → List ℕ → Statement → List Placed → Result (SectionPlace × List Placed) SourceFaultKind
statement_meant labels text_size line place text statement so_far = do
  items ← with_statement labels text_size line place text statement so_far
  next ← place_behind place statement
  Ok (next, items)

-- the place behind a line, and the items so far with those of the line
unfoldable pub line_meant : Spots → ℕ → ℕ → SectionPlace → List ℕ → List Placed → Result (SectionPlace × List Placed) SourceFaultKind
line_meant labels text_size line place text so_far = do
  statement ← statement_in labels place text
  statement_meant labels text_size line place text statement so_far

-- the fault of a line whose labels cause one, beside what was found before: the least of them
abbrev pub least_so_far : Option SourceFault → ℕ → SourceFaultKind → SourceFault
least_so_far None line kind = record { line = line; kind = kind }
least_so_far (Some fault) line kind = record { line = line; kind = if fault.line == line then least fault.kind kind else kind }

-- the fault that was found in this line before
abbrev pub stop_at : Option SourceFault → ℕ → Option SourceFault
stop_at None line = None
stop_at (Some fault) line = if fault.line == line then Some fault else None

abbrev pub unless_stopped : {A : Type 0} → Option SourceFault → A → Result A SourceFault
unless_stopped None a = Ok a
unless_stopped (Some fault) a = Err fault

-- what a line means, or the least of its faults
abbrev pub meaning_or_fault : {A : Type 0} → Option SourceFault → ℕ → Result A SourceFaultKind → Result A SourceFault
meaning_or_fault first line (Ok a) = unless_stopped (stop_at first line) a
meaning_or_fault first line (Err kind) = Err (least_so_far first line kind)

abbrev pub and_then : {A B : Type 0} → Result A SourceFault → (A → Result B SourceFault) → Result B SourceFault
and_then (Ok a) f = f a
and_then (Err e) f = Err e

-- the place behind a line, and the items so far with those of the line, or the least of its faults
unfoldable pub line_or_fault : Spots → ℕ → Option SourceFault → ℕ → SectionPlace → List ℕ → List Placed → Result (SectionPlace × List Placed) SourceFault
line_or_fault labels text_size first line place code so_far = meaning_or_fault first line (line_meant labels text_size line place (statement_text code) so_far)

-- the items so far, and behind them those of the lines, before which there are n lines
unfoldable pub lines_meant : Laid → ℕ → SectionPlace → List (List ℕ) → List Placed → Result (List Placed) SourceFault
lines_meant l before place [] so_far = Ok so_far
lines_meant l before place (line ∷ lines) so_far =
    and_then (line_or_fault l.labels l.place.text_size l.first (before + 1) place (code_of line) so_far) (λ x. lines_meant l (before + 1) x.0 lines x.1)

abbrev pub layout_of : List ℕ → Laid
layout_of source = laid nothing_laid (source_lines source)

-- What a source means, or its fault: the least line that has one, and the least of its faults.
unfoldable pub meaning_of : List ℕ → Result (List Placed) SourceFault
meaning_of source = lines_meant (layout_of source) 0 source_start (source_lines source) []

-- What a function returned, seen by view, is what is meant, unless room for one element more was refused.
abbrev pub StopsAsMeant : {Y : Type 0} → LineFailure → Result Y SourceFaultKind → Type 0
StopsAsMeant (stop.Memory asked) meant = asked ≤ 1
StopsAsMeant (stop.Fault kind) meant = meant ≡ Err kind

abbrev pub IsMeant : {X Y : Type 0} → (X → Y) → Result X LineFailure → Result Y SourceFaultKind → Type 0
IsMeant view (Ok x) meant = meant ≡ Ok (view x)
IsMeant view (Err e) meant = StopsAsMeant e meant

-- A source or its items, unless room for that many more was refused.
abbrev pub FailsBy : {Y : Type 0} → ℕ → AssemblyFailure → Result Y SourceFault → Type 0
FailsBy most (failure.Fault fault) meant = meant ≡ Err fault
FailsBy most (failure.Memory shortage) meant = shortage.refused ≤ most

abbrev pub Gives : {X Y : Type 0} → (X → Y) → ℕ → Result X AssemblyFailure → Result Y SourceFault → Type 0
Gives view most (Ok x) meant = meant ≡ Ok (view x)
Gives view most (Err e) meant = FailsBy most e meant

-- A fault that was reported is the source's, unless memory ran out.
abbrev pub ReportsAsMeant : {X Y : Type 0} → (X → Y) → Result X AsmFault → Result Y AsmFault → Type 0
ReportsAsMeant view (Ok x) meant = meant ≡ Ok (view x)
ReportsAsMeant view (Err e) meant = (e.kind ≡ NoMemory → ⊥) → meant ≡ Err e
