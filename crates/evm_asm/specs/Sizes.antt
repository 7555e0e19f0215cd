-- Where the lines of a source stand, how many bytes its sections have, and what its lines mean there.
use Rattle.std.specs.Prelude.{◌≡◌, ℕ, ◌+◌, ◌-◌, ◌<◌, ◌⊎◌, List, take, slice_get, Any, Some, Ok}
use Rattle.evm_isa.specs.declared.inst.Inst.{Inst}
use Rattle.evm_asm.specs.declared.item.Expansion.{Expansion}
use Rattle.evm_asm.specs.declared.item.Expansion.TheVariants.{Empty, Single, Double}
use Rattle.evm_asm.specs.declared.place.SectionPlace.{SectionPlace}
use Rattle.evm_asm_parser.specs.declared.statement.Statement.{Statement}
use Rattle.evm_asm.specs.Places.{statement_in}
use Rattle.evm_asm.specs.Sources.{nothing_laid, laid, source_lines, code_of, statement_text}
use Rattle.evm_asm.specs.Items.{text_base, expanded, layout_of}
use Rattle.evm_asm.specs.Assembled.{Assembled, program_of}

abbrev pub size_of_text : List ℕ → ℕ
size_of_text source = (layout_of source).place.text_size

abbrev pub size_of_data : List ℕ → ℕ
size_of_data source = (layout_of source).place.data_size

-- the place before line n, which is where laying out the lines before it ends
abbrev pub place_before : List ℕ → ℕ → SectionPlace
place_before source n = (laid nothing_laid (take (n - 1) (source_lines source))).place

-- where the statement of line n stands, if it is in the text
abbrev pub address_of_line : List ℕ → ℕ → ℕ
address_of_line source n = text_base + (place_before source n).text_size

-- Line n of a source, from 1, says a statement.
pub record Says (source : List ℕ) (n : ℕ) (statement : Statement) : Type 0 where
  pub line : List ℕ
  pub from_one : 0 < n
  pub is_line : slice_get (source_lines source) (n - 1) ≡ Some line
  pub reads : statement_in (layout_of source).labels (place_before source n) (statement_text (code_of line)) ≡ Ok statement

-- An instruction at an address is one of those that stand from `first` on, 4 bytes apart.
abbrev pub IsAmong : Expansion → ℕ → Inst → ℕ → Type 0
IsAmong Empty first i address = ⊥
IsAmong (Single a) first i address = (i ≡ a) × (address ≡ first)
IsAmong (Double a b) first i address = ((i ≡ a) × (address ≡ first)) ⊎ ((i ≡ b) × (address ≡ first + 4))

-- Line n says a statement that becomes this instruction, or this and another, at its place: there it has this address.
pub record Means (source : List ℕ) (n address : ℕ) (i : Inst) : Type 0 where
  pub statement : Statement
  pub expansion : Expansion
  pub says : Says source n statement
  pub becomes : expanded (size_of_text source) (address_of_line source n) statement ≡ Ok expansion
  pub stands : IsAmong expansion (address_of_line source n) i address

-- Each instruction that a line of the source means stands in the program, at its address.
abbrev pub AllThatIsMeantStands : Type 0
AllThatIsMeantStands = (source : List ℕ) (p : Assembled) → program_of source ≡ Ok p → (n address : ℕ) (i : Inst) → Means source n address i
    → Any (λ l. (l.line ≡ n) × (l.address ≡ address) × (l.instruction ≡ i)) p.lines
