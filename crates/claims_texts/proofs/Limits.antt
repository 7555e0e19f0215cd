-- The places of a layout keep the limit of a section, and so do its labels.
use Rattle.std.proofs.Common.{◌≡◌, ℕ, zero, suc, ◌-◌, ◌≤◌, Bool, true, false, cond, nat_le, List, [], ◌∷◌, ◌++◌, length, Option, Some, None, Result, Ok, Err, IfOk, refl, arith}
use Rattle.std.specs.Prelude.{is_some}
use Rattle.std.proofs.lemmas.Bool.{leb-true}
use Rattle.evm_elf.specs.evm_asm_lexer.declared.source_fault.SourceFaultKind.{SourceFaultKind}
use Rattle.evm_elf.specs.evm_asm_lexer.declared.source_fault.SourceFaultKind.TheVariants.{TooLarge}
use Rattle.evm_elf.specs.evm_asm_lexer.declared.mnemonic.Section.{Section as Part}
use Rattle.evm_elf.specs.evm_asm_lexer.declared.mnemonic.Section.TheVariants.{Text, Data}
use Rattle.evm_elf.specs.evm_asm_lexer.Faults.{◌>>=◌}
use Rattle.evm_elf.specs.evm_asm_lexer.Names.{named}
use Rattle.evm_elf.specs.evm_asm_parser.declared.spot.Spot.{Spot}
use Rattle.evm_elf.specs.evm_asm_parser.declared.statement.Statement.{Statement}
use Rattle.evm_elf.specs.evm_asm_parser.declared.statement.Statement.TheVariants.{Section}
use Rattle.evm_elf.specs.evm_asm_parser.Operands.{Spots}
use Rattle.evm_elf.specs.evm_asm.declared.place.SectionPlace.{SectionPlace}
use Rattle.evm_elf.specs.evm_asm.Places.{offset, section_size, farther, grown, size_at, place_behind, here, statement_in}
use Rattle.evm_elf.specs.evm_asm.Sources.{Defined, Laid, with_label, defined, label_at, outcome, measured, line_defined, line_laid, with_line_laid, laid, nothing_laid, code_of, statement_text}
use Rattle.claims_texts.proofs.Operands_read.{IsNear, AreNear}

pub record IsLimited (place : SectionPlace) : Type 0 where
  pub text : place.text_size ≤ 8388608
  pub bytes : place.data_size ≤ 8388608

farther_limited : (part : Part) (place : SectionPlace) (size : ℕ) → IsLimited place → size ≤ 8388608 - section_size part place → IsLimited (farther part place size)
farther_limited Text place size h k = record { text = omega arith; bytes = h.bytes }
farther_limited Data place size h k = record { text = h.text; bytes = omega arith }

grown_limited : (place : SectionPlace) (size : ℕ) → IsLimited place → IfOk (grown place size) IsLimited
unfolding grown
grown_limited place size h = by_size (nat_le size (8388608 - offset place)) refl
  where
    by_size : (t : Bool) → nat_le size (8388608 - offset place) ≡ t → IfOk (cond t (Ok (farther place.section place size)) (Err TooLarge)) IsLimited
    by_size true e = farther_limited place.section place size h (leb-true _ _ e)
    by_size false e = tt

behind_limited : (place : SectionPlace) (statement : Statement) → IsLimited place → IfOk (place_behind place statement) IsLimited
unfolding place_behind
behind_limited place (Section part) h = record { text = h.text; bytes = h.bytes }
behind_limited place statement h = grown_limited place (size_at (offset place) statement) h

measured_limited : (labels : Spots) (place : SectionPlace) (text : List ℕ) → IsLimited place → IfOk (measured labels place text) IsLimited
unfolding measured
measured_limited labels place text h = by_reading (statement_in labels place text)
  where
    by_reading : (r : Result Statement SourceFaultKind) → IfOk (r >>= place_behind place) IsLimited
    by_reading (Ok statement) = behind_limited place statement h
    by_reading (Err e) = tt

outcome_limited : (place : SectionPlace) (twice : Bool) (r : Result SectionPlace SourceFaultKind) → IsLimited place → IfOk r IsLimited → IsLimited (outcome place twice r).0
outcome_limited place false (Ok next) h k = k
outcome_limited place false (Err kind) h k = h
outcome_limited place true (Ok next) h k = h
outcome_limited place true (Err kind) h k = h

-- ---- the labels

here_near : (place : SectionPlace) → IsLimited place → IsNear (here place)
here_near place h = by_section place.section
  where
    by_section : (part : Part) → section_size part place ≤ 8388608
    by_section Text = h.text
    by_section Data = h.bytes

added_near : (labels : Spots) (name : List ℕ) (spot : Spot) → IsNear spot → AreNear labels → AreNear (labels ++ (name, spot) ∷ [])
added_near [] name spot h k = (h, tt)
added_near (l ∷ labels) name spot h k = (k.0, added_near labels name spot h k.1)

with_label_near : (spot : Spot) (name : List ℕ) (d : Defined) → IsNear spot → AreNear d.labels → AreNear (with_label spot name d).labels
unfolding with_label
with_label_near spot name d h k = by_name (is_some (named d.labels name))
  where
    by_name : (t : Bool) → AreNear (cond {A = Defined} t (record { labels = d.labels; twice = true }) (record { labels = d.labels ++ (name, spot) ∷ []; twice = d.twice })).labels
    by_name true = k
    by_name false = added_near d.labels name spot h k

by_label : (n : ℕ) (spot : Spot) (o : Option (List ℕ × List ℕ)) (d : Defined) → AreNear d.labels
    → ((label : List ℕ × List ℕ) → AreNear (defined n spot label.1 (with_label spot label.0 d)).labels)
    → AreNear (elim o as (λ _. Defined) [ None ↦ d | Some label ↦ defined n spot label.1 (with_label spot label.0 d) ]).labels
by_label n spot None d k more = k
by_label n spot (Some label) d k more = more label

defined_near : (n : ℕ) (spot : Spot) (text : List ℕ) (d : Defined) → IsNear spot → AreNear d.labels → AreNear (defined n spot text d).labels
unfolding defined
defined_near zero spot text d h k = k
defined_near (suc n) spot text d h k =
    by_label n spot (label_at text) d k (λ (label : List ℕ × List ℕ). defined_near n spot label.1 (with_label spot label.0 d) h (with_label_near spot label.0 d h k))

-- ---- the lines

pub record IsBounded (s : Laid) : Type 0 where
  pub place : IsLimited s.place
  pub labels : AreNear s.labels

line_bounded : (s : Laid) (line : List ℕ) → IsBounded s → IsBounded (with_line_laid s line)
unfolding with_line_laid line_laid
line_bounded s line h =
    let code = code_of line in
    let d = line_defined s.labels s.place code in
    record {
      place = outcome_limited s.place d.twice (measured d.labels s.place (statement_text code)) h.place (measured_limited d.labels s.place (statement_text code) h.place);
      labels = defined_near (length code) (here s.place) code (record { labels = s.labels; twice = false }) (here_near s.place h.place) h.labels;
    }

laid_bounded : (s : Laid) (lines : List (List ℕ)) → IsBounded s → IsBounded (laid s lines)
unfolding laid
laid_bounded s [] h = h
laid_bounded s (line ∷ lines) h = laid_bounded (with_line_laid s line) lines (line_bounded s line h)

pub all_bounded : (lines : List (List ℕ)) → IsBounded (laid nothing_laid lines)
all_bounded lines = laid_bounded nothing_laid lines (record { place = record { text = omega arith; bytes = omega arith }; labels = tt })
