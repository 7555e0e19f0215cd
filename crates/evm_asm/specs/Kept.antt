-- For contracts of bodies: that what is kept of the lines of a source is what they say.
use Rattle.std.specs.Prelude.{◌≡◌, List, [], ◌∷◌, ℕ, Option, Some, None, Ok}
use Rattle.evm_asm_parser.specs.declared.kept.Kept.{Kept}
use Rattle.evm_asm_parser.specs.Operands.{Spots}
use Rattle.evm_asm.specs.declared.place.SectionPlace.{SectionPlace}
use Rattle.evm_asm.specs.Places.{here, statement_in}
use Rattle.evm_asm.specs.Sources.{code_of, statement_text}

-- what is kept of a text is its statement at a spot, whatever labels are known
abbrev pub IsKept : Option Kept → List ℕ → Type 0
IsKept None text = Unit {0}
IsKept (Some kept) text = (labels : Spots) (place : SectionPlace) → here place ≡ kept.spot → statement_in labels place text ≡ Ok kept.statement

-- what is kept of the first line, and of the others
abbrev pub first_kept : List (Option Kept) → Option Kept
first_kept [] = None
first_kept (first ∷ others) = first

abbrev pub other_kept : List (Option Kept) → List (Option Kept)
other_kept [] = []
other_kept (first ∷ others) = others

-- so for each line, one after the other
unfoldable pub AreKept : List (Option Kept) → List (List ℕ) → Type 0
AreKept kept [] = Unit {0}
AreKept kept (line ∷ lines) = IsKept (first_kept kept) (statement_text (code_of line)) × AreKept (other_kept kept) lines
