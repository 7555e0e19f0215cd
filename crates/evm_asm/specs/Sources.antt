-- The lines of a source, its labels, and where they are.
use Rattle.std.specs.Prelude.{◌≡◌, ℕ, zero, suc, ◌+◌, Bool, true, false, ◌==◌, if◌then◌else◌, List, [], ◌∷◌, ◌++◌, length, Option, Some, None, is_some, Result, Ok, Err}
use Rattle.std.specs.Option.{option_map}
use Rattle.evm_asm_parser.specs.evm_asm_lexer.Characters.{newline, hash, colon}
use Rattle.evm_asm_parser.specs.evm_asm_lexer.declared.source_fault.SourceFault.{SourceFault}
use Rattle.evm_asm_parser.specs.evm_asm_lexer.declared.source_fault.SourceFaultKind.{SourceFaultKind}
use Rattle.evm_asm_parser.specs.evm_asm_lexer.declared.source_fault.SourceFaultKind.TheVariants.{LabelTwice}
use Rattle.evm_asm_parser.specs.evm_asm_lexer.declared.mnemonic.Section.TheVariants as section
use Rattle.evm_asm_parser.specs.declared.spot.Spot.{Spot}
use Rattle.evm_asm.specs.declared.place.SectionPlace.{SectionPlace}
use Rattle.evm_asm_parser.specs.evm_asm_lexer.Faults.{least, ◌>>=◌}
use Rattle.evm_asm_parser.specs.evm_asm_lexer.Text.{before, after, has_byte}
use Rattle.evm_asm_parser.specs.evm_asm_lexer.Names.{named}
use Rattle.evm_asm_parser.specs.Operands.{Spots, name_in}
use Rattle.evm_asm_parser.specs.Statements.{StatementReading}
use Rattle.evm_asm.specs.Places.{here, place_behind, statement_in}

abbrev pub in_front : ℕ → List (List ℕ) → List (List ℕ)
in_front b [] = (b ∷ []) ∷ []
in_front b (line ∷ lines) = (b ∷ line) ∷ lines

-- Lines end with a newline; the last may lack it.
unfoldable pub source_lines : List ℕ → List (List ℕ)
source_lines [] = []
source_lines (b ∷ bs) = if b == newline then [] ∷ source_lines bs else in_front b (source_lines bs)

-- a line without its comment
unfoldable pub code_of : List ℕ → List ℕ
code_of line = before hash line

-- The label at the front of a text: one name and a ':'. Behind it the text goes on.
unfoldable pub label_at : List ℕ → Option (List ℕ × List ℕ)
label_at text = if has_byte colon text then option_map (λ name. (name, after colon text)) (name_in (before colon text)) else None

-- the text behind its labels, of which there are at most n
unfoldable pub behind_labels : ℕ → List ℕ → List ℕ
behind_labels zero text = text
behind_labels (suc n) text = elim (label_at text) [ None ↦ text | Some label ↦ behind_labels n label.1 ]

-- the labels of a source so far, and whether one of them came twice in this line
pub record Defined : Type 0 where
  pub labels : Spots
  pub twice : Bool

-- A label stands for the place before its line's statement; the first of its name counts.
unfoldable pub with_label : Spot → List ℕ → Defined → Defined
with_label spot name d =
    if is_some (named d.labels name) then record { labels = d.labels; twice = true }
    else record { labels = d.labels ++ (name, spot) ∷ []; twice = d.twice }

-- the labels at the front of a text, of which there are at most n, behind those so far
unfoldable pub defined : ℕ → Spot → List ℕ → Defined → Defined
defined zero spot text d = d
defined (suc n) spot text d = elim (label_at text) [ None ↦ d | Some label ↦ defined n spot label.1 (with_label spot label.0 d) ]

abbrev pub statement_text : List ℕ → List ℕ
statement_text code = behind_labels (length code) code

-- The place behind a line and the line's fault, those that a label causes apart: a line with a fault has no bytes.
abbrev pub outcome : SectionPlace → Bool → Result SectionPlace SourceFaultKind → SectionPlace × Option SourceFaultKind
outcome place false (Ok next) = (next, None)
outcome place false (Err kind) = (place, Some kind)
outcome place true (Ok next) = (place, Some LabelTwice)
outcome place true (Err kind) = (place, Some (least LabelTwice kind))

-- the place behind what is read
abbrev pub behind_reading : SectionPlace → StatementReading → Result SectionPlace SourceFaultKind
behind_reading place reading = reading >>= place_behind place

unfoldable pub measured : Spots → SectionPlace → List ℕ → Result SectionPlace SourceFaultKind
measured labels place text = behind_reading place (statement_in labels place text)

abbrev pub line_defined : Spots → SectionPlace → List ℕ → Defined
line_defined labels place code = defined (length code) (here place) code (record { labels = labels; twice = false })

unfoldable pub line_laid : Spots → SectionPlace → List ℕ → Spots × (SectionPlace × Option SourceFaultKind)
line_laid labels place code =
    ((line_defined labels place code).labels, outcome place (line_defined labels place code).twice (measured (line_defined labels place code).labels place (statement_text code)))

abbrev pub first_fault : Option SourceFault → ℕ → Option SourceFaultKind → Option SourceFault
first_fault (Some fault) line kind = Some fault
first_fault None line (Some kind) = Some (record { line = line; kind = kind })
first_fault None line None = None

-- How far a source is laid out: its lines so far, the place behind them, their labels, and the first line with a fault.
pub record Laid : Type 0 where
  pub lines : ℕ
  pub place : SectionPlace
  pub labels : Spots
  pub first : Option SourceFault

abbrev pub source_start : SectionPlace
source_start = record { section = section.Text; text_size = 0; data_size = 0 }

abbrev pub nothing_laid : Laid
nothing_laid = record { lines = 0; place = source_start; labels = []; first = None }

unfoldable pub with_line_laid : Laid → List ℕ → Laid
with_line_laid s line =
    let o = line_laid s.labels s.place (code_of line) in
    record { lines = s.lines + 1; place = o.1.0; labels = o.0; first = first_fault s.first (s.lines + 1) o.1.1 }

unfoldable pub laid : Laid → List (List ℕ) → Laid
laid s [] = s
laid s (line ∷ lines) = laid (with_line_laid s line) lines

-- these are the labels, the place and the first fault of what is laid out
pub record IsLaid (labels : Spots) (place : SectionPlace) (first : Option SourceFault) (s : Laid) : Type 0 where
  pub labels_are : labels ≡ s.labels
  pub place_is : place ≡ s.place
  pub first_is : first ≡ s.first
