-- How long a statement is, and what it is where it names no label, doesn't depend on where the labels are; those that are
-- instructions stand in the text.
use Rattle.std.proofs.Common.{ℕ, Bool, true, false, cond, ◌==◌, Result, Ok, Err, ◌≡◌, zero, suc, not, List, [], ◌∷◌, length, Option, Some, None, ap, refl, ◌&&◌, ◌%◌, IfOk, ◌∙◌, sym, subst}
use Rattle.evm_asm_parser.specs.evm_asm_lexer.declared.source_fault.SourceFaultKind.{SourceFaultKind}
use Rattle.evm_asm_parser.specs.evm_asm_lexer.declared.source_fault.SourceFaultKind.TheVariants.{BadOperand, BadToken, UnknownName}
use Rattle.evm_asm_parser.specs.evm_asm_lexer.Faults.{both, least, ◌>>=◌}
use Rattle.evm_asm_parser.specs.evm_asm_lexer.declared.mnemonic.Mnemonic.{Mnemonic}
use Rattle.evm_asm_parser.specs.evm_asm_lexer.declared.mnemonic.DataWidth.{DataWidth}
use Rattle.evm_asm_parser.specs.evm_asm_lexer.declared.mnemonic.DataWidth.TheVariants.{Byte, Word, Dword}
use Rattle.evm_asm_parser.specs.evm_asm_lexer.Text.{skip_blanks, first_word, behind_word, starts_with, is_name_start, is_empty, is_sound}
use Rattle.evm_asm_parser.specs.evm_asm_lexer.Names.{mnemonic_named}
use Rattle.evm_asm_parser.specs.evm_asm_lexer.declared.mnemonic.Section.{Section as Part}
use Rattle.evm_asm_parser.specs.evm_asm_lexer.declared.mnemonic.Section.TheVariants.{Text, Data}
use Rattle.evm_asm_parser.specs.Operands.{counted, Spots, first_operand, other_operands, how_many, name_in, labelled, label_in, number_in, label_datum, datum_of, datum_in}
use Rattle.evm_asm_parser.specs.Statements.{also, StatementReading, operand_in, operands_in, with_data, said, statement_of}
use Rattle.evm_asm_parser.specs.declared.operand.Number.{Number}
use Rattle.evm_asm_parser.specs.declared.statement.Statement.{Statement}
use Rattle.evm_asm_parser.specs.declared.statement.Statement.TheVariants.{Nothing, LoadImmediate, Space, Align, One, Branch, Jump, LoadAddress}
use Rattle.evm_asm_parser.specs.Forms.{Slot, Register, Integer, Natural, Upper, Label, Address, FullAddress, Name, Value, Values, Form, Each, Many, form}
use Rattle.evm_asm_parser.specs.declared.spot.Spot.{Spot}
use Rattle.evm_asm_parser.specs.Kept.{names_label, kept_statement}
use Rattle.evm_asm_parser.proofs.Outcomes.{any_ok}
use Rattle.evm_asm_parser.proofs.Forms_hold.{Makes, statement_holds}
use Rattle.evm_asm.specs.declared.place.SectionPlace.{SectionPlace}
use Rattle.evm_asm.specs.Kept.{IsKept}
use Rattle.evm_asm.specs.Places.{section_size, here, size_at, place_behind, placed, of_mnemonic, statement_in, is_directive, is_text, may_stand}
use Rattle.evm_asm.specs.Sources.{measured}
use Rattle.evm_asm.proofs.Results.{also_ok}
use Rattle.evm_asm_parser.specs.evm_asm_lexer.declared.mnemonic.Mnemonic.TheVariants as names
use Rattle.evm_asm_parser.specs.declared.statement.Datum.TheVariants as datum

-- ---- how long a statement is doesn't depend on where the labels are

-- two readings have the same fault, or both have a value, and R relates the two
pub data Like {A : Type 0} (R : A → A → Type 0) : Result A SourceFaultKind → Result A SourceFaultKind → Type 0 where
  values : (a b : A) → R a b → Like R (Ok a) (Ok b)
  faults : (e : SourceFaultKind) → Like R (Err e) (Err e)

abbrev pub Whatever : {A : Type 0} → A → A → Type 0
Whatever a b = Unit {0}

pub like_itself : {A : Type 0} (R : A → A → Type 0) (r : Result A SourceFaultKind) → ((a : A) → R a a) → Like R r r
like_itself R (Ok a) h = values a a (h a)
like_itself R (Err e) h = faults e

pub like_either : {A : Type 0} (R : A → A → Type 0) (t : Bool) (r r' s s' : Result A SourceFaultKind) → Like R r r' → Like R s s' → Like R (cond t r s) (cond t r' s')
like_either R true r r' s s' h k = h
like_either R false r r' s s' h k = k

pub like_both : {A B : Type 0} (R : A → A → Type 0) (S : B → B → Type 0) (r r' : Result A SourceFaultKind) (s s' : Result B SourceFaultKind) → Like R r r' → Like S s s'
    → Like (λ x y. R x.0 y.0 × S x.1 y.1) (both r s) (both r' s')
unfolding both
like_both R S _ _ _ _ (values a a' h) (values b b' k) = values (a, b) (a', b') (h, k)
like_both R S _ _ _ _ (values a a' h) (faults f) = faults f
like_both R S _ _ _ _ (faults e) (values b b' k) = faults e
like_both R S _ _ _ _ (faults e) (faults f) = faults (least e f)

pub like_counted : {A : Type 0} (R : A → A → Type 0) (n count : ℕ) (r r' : Result A SourceFaultKind) → Like R r r' → Like R (counted n count r) (counted n count r')
unfolding counted
like_counted R n count _ _ (values a b h) = like_either R (count == n) (Ok a) (Ok b) (Err BadOperand) (Err BadOperand) (values a b h) (faults BadOperand)
like_counted R n count _ _ (faults e) = like_either R (count == n) (Err e) (Err e) (Err (least e BadOperand)) (Err (least e BadOperand)) (faults e) (faults (least e BadOperand))

pub like_mapped : {A B : Type 0} (R : A → A → Type 0) (S : B → B → Type 0) (f : A → B) (r r' : Result A SourceFaultKind) → ((a b : A) → R a b → S (f a) (f b)) → Like R r r'
    → Like S (r >>= λ x. Ok (f x)) (r' >>= λ x. Ok (f x))
like_mapped R S f _ _ g (values a b h) = values (f a) (f b) (g a b h)
like_mapped R S f _ _ g (faults e) = faults e

pub like_also : {A B : Type 0} (R : A → A → Type 0) (Q : B → B → Type 0) (r r' : Result A SourceFaultKind) (s s' : Result B SourceFaultKind) → Like R r r' → Like Q s s' → Like R (also r s) (also r' s')
unfolding also
like_also R Q _ _ _ _ (values a b h) (values x y k) = values a b h
like_also R Q _ _ _ _ (values a b h) (faults f) = faults f
like_also R Q _ _ _ _ (faults e) (values x y k) = faults e
like_also R Q _ _ _ _ (faults e) (faults f) = faults (least e f)

-- the two statements take the same room
abbrev pub SameSize : Statement → Statement → Type 0
SameSize s t = (place : SectionPlace) → place_behind place s ≡ place_behind place t

-- what is read in a place is the same, but for the spot of a label
abbrev Same : (slot : Slot) → Value slot → Value slot → Type 0
Same Label s t = Unit {0}
Same slot a b = a ≡ b

abbrev AllSame : (slots : List Slot) → Values slots → Values slots → Type 0
AllSame [] v w = Unit {0}
AllSame (slot ∷ []) v w = Same slot v w
AllSame (slot ∷ next ∷ slots) v w = Same slot v.0 w.0 × AllSame (next ∷ slots) v.1 w.1

-- a form makes statements that R relates, of values that are the same
abbrev MakesBy : (Statement → Statement → Type 0) → Form → Type 0
MakesBy R (Each slots makes) = (v w : Values slots) → AllSame slots v w → R (makes v) (makes w)
MakesBy R (Many width makes) = (n : ℕ) → R (makes n) (makes n)

either_by : (R : Statement → Statement → Type 0) (t : Bool) (f g : Form) → MakesBy R f → MakesBy R g → MakesBy R (cond t f g)
either_by R true f g h k = h
either_by R false f g h k = k

-- each row of the table makes statements of one size
forms_alike : (count : ℕ) (m : Mnemonic) → MakesBy SameSize (form count m)
unfolding place_behind size_at
forms_alike count (names.Register op) = λ v w h. λ place. refl
forms_alike count (names.Word op) = λ v w h. λ place. refl
forms_alike count (names.Immediate op) = λ v w h. λ place. refl
forms_alike count (names.Shift op) = λ v w h. λ place. refl
forms_alike count (names.Load op) = λ v w h. λ place. refl
forms_alike count (names.Store op) = λ v w h. λ place. refl
forms_alike count (names.Branch op) = λ v w h. λ place. refl
forms_alike count names.Lui = λ v w h. λ place. refl
forms_alike count names.Auipc = λ v w h. λ place. refl
forms_alike count names.Jal = either_by SameSize (count == 1) _ _ (λ v w h. λ place. refl) (λ v w h. λ place. refl)
forms_alike count names.Jalr = either_by SameSize (count == 1) _ _ (λ v w h. λ place. refl) (λ v w h. λ place. refl)
forms_alike count (names.Bare op) = λ v w h. λ place. refl
forms_alike count (names.Unary op) = λ v w h. λ place. refl
forms_alike count (names.BranchSwapped op) = λ v w h. λ place. refl
forms_alike count (names.BranchZero op) = λ v w h. λ place. refl
forms_alike count (names.ZeroBranch op) = λ v w h. λ place. refl
forms_alike count names.Jump = λ v w h. λ place. refl
forms_alike count names.JumpRegister = λ v w h. λ place. refl
forms_alike count names.LoadImmediate = λ v w h. λ place. ap (λ value. place_behind place (LoadImmediate 0 value)) h.1
forms_alike count names.LoadAddress = λ v w h. λ place. refl
forms_alike count (names.Section s) = λ v w h. λ place. refl
forms_alike count (names.Numbers width) = λ n. λ place. refl
forms_alike count names.Space = λ v w h. λ place. ap (λ n. place_behind place (Space n)) h
forms_alike count names.Align = λ v w h. λ place. ap (λ n. place_behind place (Align n)) h
forms_alike count names.Global = λ v w h. λ place. refl

-- ---- a statement that names no label is the same whatever labels are known

abbrev SameUnlabelled : Statement → Statement → Type 0
SameUnlabelled s t = names_label s ≡ false → t ≡ s

abbrev is_label : Slot → Bool
is_label Label = true
is_label slot = false

abbrev none_is_label : List Slot → Bool
none_is_label [] = true
none_is_label (slot ∷ []) = not (is_label slot)
none_is_label (slot ∷ next ∷ slots) = not (is_label slot) && none_is_label (next ∷ slots)

same_value : (slot : Slot) → not (is_label slot) ≡ true → (v w : Value slot) → Same slot v w → w ≡ v
same_value Register n v w h = sym h
same_value (Integer below above) n v w h = sym h
same_value (Natural above) n v w h = sym h
same_value Upper n v w h = sym h
same_value Label n v w h = cc
same_value Address n v w h = sym h
same_value FullAddress n v w h = sym h
same_value Name n v w h = sym h

both_true : (a b : Bool) → (a && b) ≡ true → (a ≡ true) × (b ≡ true)
both_true true true h = (refl, refl)
both_true true false h = cc
both_true false b h = cc

same_values : (slots : List Slot) → none_is_label slots ≡ true → (v w : Values slots) → AllSame slots v w → w ≡ v
same_values [] n v w h = refl
same_values (slot ∷ []) n v w h = same_value slot n v w h
same_values (slot ∷ next ∷ slots) n v w h =
    let each = both_true (not (is_label slot)) (none_is_label (next ∷ slots)) n in
    ap (λ a. (a, w.1)) (same_value slot each.0 v.0 w.0 h.0) ∙ ap (λ b. (v.0, b)) (same_values (next ∷ slots) each.1 v.1 w.1 h.1)

abbrev is_unlabelled : Form → Bool
is_unlabelled (Each slots makes) = none_is_label slots
is_unlabelled (Many width makes) = true

unlabelled_form : (f : Form) → is_unlabelled f ≡ true → MakesBy SameUnlabelled f
unlabelled_form (Each slots makes) n = λ v w h k. ap makes (same_values slots n v w h)
unlabelled_form (Many width makes) n = λ m k. refl

-- each row of the table with a label makes statements that name one
forms_unlabelled : (count : ℕ) (m : Mnemonic) → MakesBy SameUnlabelled (form count m)
forms_unlabelled count (names.Register op) = unlabelled_form (form count (names.Register op)) refl
forms_unlabelled count (names.Word op) = unlabelled_form (form count (names.Word op)) refl
forms_unlabelled count (names.Immediate op) = unlabelled_form (form count (names.Immediate op)) refl
forms_unlabelled count (names.Shift op) = unlabelled_form (form count (names.Shift op)) refl
forms_unlabelled count (names.Load op) = unlabelled_form (form count (names.Load op)) refl
forms_unlabelled count (names.Store op) = unlabelled_form (form count (names.Store op)) refl
forms_unlabelled count (names.Branch op) = λ v w h k. cc
forms_unlabelled count names.Lui = unlabelled_form (form count names.Lui) refl
forms_unlabelled count names.Auipc = unlabelled_form (form count names.Auipc) refl
forms_unlabelled count names.Jal = either_by SameUnlabelled (count == 1) _ _ (λ v w h k. cc) (λ v w h k. cc)
forms_unlabelled count names.Jalr = either_by SameUnlabelled (count == 1) _ _ (unlabelled_form (form 1 names.Jalr) refl) (unlabelled_form (form 2 names.Jalr) refl)
forms_unlabelled count (names.Bare op) = unlabelled_form (form count (names.Bare op)) refl
forms_unlabelled count (names.Unary op) = unlabelled_form (form count (names.Unary op)) refl
forms_unlabelled count (names.BranchSwapped op) = λ v w h k. cc
forms_unlabelled count (names.BranchZero op) = λ v w h k. cc
forms_unlabelled count (names.ZeroBranch op) = λ v w h k. cc
forms_unlabelled count names.Jump = λ v w h k. cc
forms_unlabelled count names.JumpRegister = unlabelled_form (form count names.JumpRegister) refl
forms_unlabelled count names.LoadImmediate = unlabelled_form (form count names.LoadImmediate) refl
forms_unlabelled count names.LoadAddress = λ v w h k. cc
forms_unlabelled count (names.Section s) = unlabelled_form (form count (names.Section s)) refl
forms_unlabelled count (names.Numbers width) = unlabelled_form (form count (names.Numbers width)) refl
forms_unlabelled count names.Space = unlabelled_form (form count names.Space) refl
forms_unlabelled count names.Align = unlabelled_form (form count names.Align) refl
forms_unlabelled count names.Global = unlabelled_form (form count names.Global) refl

-- ---- a reading with some labels and one with others

module _ (known all : Spots) where
  named_alike : (o : Option (List ℕ)) → Like Whatever (labelled known o) (labelled all o)
  named_alike (Some name) = values _ _ tt
  named_alike None = faults BadOperand

  label_alike : (text : List ℕ) → Like Whatever (label_in known text) (label_in all text)
  unfolding label_in
  label_alike text = named_alike (name_in text)

  label_datum_alike : (width : DataWidth) (text : List ℕ) → Like Whatever (label_datum known width text) (label_datum all width text)
  label_datum_alike Byte text = faults BadOperand
  label_datum_alike Word text = label_alike text
  label_datum_alike Dword text = label_alike text

  datum_of_alike : (width : DataWidth) (text : List ℕ) (o : Option Number) → Like Whatever (datum_of known width text o) (datum_of all width text o)
  datum_of_alike width text (Some n) = like_itself Whatever _ (λ a. tt)
  datum_of_alike width text None = like_mapped Whatever Whatever (λ s. datum.Label s) _ _ (λ a b h. tt) (label_datum_alike width text)

  datum_alike : (width : DataWidth) (text : List ℕ) → Like Whatever (datum_in known width text) (datum_in all width text)
  unfolding datum_in
  datum_alike width text = datum_of_alike width text (number_in text)

  data_alike : (R : Statement → Statement → Type 0) (width : DataWidth) (n : ℕ) (r r' : StatementReading) (text : List ℕ) → Like R r r' → Like R (with_data known width n r text) (with_data all width n r' text)
  unfolding with_data
  data_alike R width zero r r' text h = h
  data_alike R width (suc n) r r' text h = data_alike R width n _ _ (other_operands text) (like_also R Whatever _ _ _ _ h (datum_alike width (first_operand text)))

  operand_alike : (slot : Slot) (text : List ℕ) → Like (Same slot) (operand_in known slot text) (operand_in all slot text)
  operand_alike Register text = like_itself (Same Register) _ (λ a. refl)
  operand_alike (Integer below above) text = like_itself (Same (Integer below above)) _ (λ a. refl)
  operand_alike (Natural above) text = like_itself (Same (Natural above)) _ (λ a. refl)
  operand_alike Upper text = like_itself (Same Upper) _ (λ a. refl)
  operand_alike Label text = label_alike text
  operand_alike Address text = like_itself (Same Address) _ (λ a. refl)
  operand_alike FullAddress text = like_itself (Same FullAddress) _ (λ a. refl)
  operand_alike Name text = like_itself (Same Name) _ (λ a. refl)

  operands_alike : (slots : List Slot) (text : List ℕ) → Like (AllSame slots) (operands_in known slots text) (operands_in all slots text)
  operands_alike [] text = values tt tt tt
  operands_alike (slot ∷ []) text = operand_alike slot (first_operand text)
  operands_alike (slot ∷ next ∷ slots) text =
      like_both (Same slot) (AllSame (next ∷ slots)) _ _ _ _ (operand_alike slot (first_operand text)) (operands_alike (next ∷ slots) (other_operands text))

  module _ (R : Statement → Statement → Type 0) (itself : (s : Statement) → R s s) (rows : (count : ℕ) (m : Mnemonic) → MakesBy R (form count m)) where
    said_alike : (f : Form) (text : List ℕ) → MakesBy R f → Like R (said known f text) (said all f text)
    unfolding said
    said_alike (Each slots makes) text h =
        like_mapped (AllSame slots) R makes _ _ h (like_counted (AllSame slots) (length slots) (how_many text) _ _ (operands_alike slots text))
    said_alike (Many width makes) text h =
        like_either R (how_many text == 0) _ _ _ _ (faults BadOperand)
        (data_alike R width (how_many text) _ _ text (values (makes (how_many text)) (makes (how_many text)) (h (how_many text))))

    statement_alike : (m : Mnemonic) (text : List ℕ) → Like R (statement_of known m text) (statement_of all m text)
    unfolding statement_of
    statement_alike m text = said_alike (form (how_many text) m) text (rows (how_many text) m)

    mnemonic_alike : (place : SectionPlace) (o : Option Mnemonic) (text : List ℕ) → Like R (of_mnemonic known place o text) (of_mnemonic all place o text)
    mnemonic_alike place (Some m) text = like_also R Whatever _ _ _ _ (statement_alike m text) (like_itself Whatever (placed m place) (λ a. tt))
    mnemonic_alike place None text = faults UnknownName

    reading_alike : (place : SectionPlace) (text : List ℕ) → Like R (statement_in known place text) (statement_in all place text)
    unfolding statement_in
    reading_alike place text =
        like_either R (not (is_sound false text)) _ _ _ _ (faults BadToken)
        (like_either R (is_empty (skip_blanks text)) _ _ _ _ (like_itself R (Ok Nothing) itself)
        (like_either R (not (starts_with is_name_start (skip_blanks text))) _ _ _ _ (faults BadToken)
        (mnemonic_alike place (mnemonic_named (first_word (skip_blanks text))) (behind_word (skip_blanks text)))))

measured_by : (place : SectionPlace) (r s : StatementReading) → Like SameSize r s → (r >>= place_behind place) ≡ (s >>= place_behind place)
measured_by place _ _ (values s t h) = h place
measured_by place _ _ (faults e) = refl

-- the place behind a line doesn't depend on where the labels are, nor does the line's fault
pub measured_alike : (known all : Spots) (place : SectionPlace) (text : List ℕ) → measured known place text ≡ measured all place text
unfolding measured
measured_alike known all place text = measured_by place _ _ (reading_alike known all SameSize (λ s. λ place. refl) forms_alike place text)

-- ---- what is kept of a line is its statement

-- where a line stands, and what stands there, matters only by its spot
may_at : (d : Bool) (a b : Part) (t u s r : ℕ) → a ≡ b → section_size a (record { section = a; text_size = t; data_size = s }) ≡ section_size b (record { section = b; text_size = u; data_size = r })
    → cond d true (is_text a && t % 4 == 0) ≡ cond d true (is_text b && u % 4 == 0)
may_at true a b t u s r e h = refl
may_at false Text Text t u s r e h = ap (λ n. n % 4 == 0) h
may_at false Text Data t u s r e h = cc
may_at false Data Text t u s r e h = cc
may_at false Data Data t u s r e h = refl

may_same : (m : Mnemonic) (p q : SectionPlace) → here p ≡ here q → may_stand m p ≡ may_stand m q
unfolding may_stand
may_same m p q h =
    may_at (is_directive m) p.section q.section p.text_size q.text_size p.data_size q.data_size (ap (λ (s : Spot). s.section) h) (ap (λ (s : Spot). s.offset) h)

also_placed : (r : StatementReading) (t : Bool) (p q : SectionPlace) → also r (cond t (Ok p) (Err BadOperand)) ≡ also r (cond t (Ok q) (Err BadOperand))
unfolding also
also_placed (Ok s) true p q = refl
also_placed (Ok s) false p q = refl
also_placed (Err e) true p q = refl
also_placed (Err e) false p q = refl

mnemonic_at : (labels : Spots) (p q : SectionPlace) → here p ≡ here q → (o : Option Mnemonic) (text : List ℕ) → of_mnemonic labels p o text ≡ of_mnemonic labels q o text
unfolding placed
mnemonic_at labels p q h (Some m) text =
    also_placed (statement_of labels m text) (may_stand m p) p q
    ∙ ap (λ t. also (statement_of labels m text) (cond t (Ok q) (Err BadOperand))) (may_same m p q h)
mnemonic_at labels p q h None text = refl

reading_at : (labels : Spots) (p q : SectionPlace) → here p ≡ here q → (text : List ℕ) → statement_in labels p text ≡ statement_in labels q text
unfolding statement_in
reading_at labels p q h text =
    ap (λ (r : StatementReading). cond (not (is_sound false text)) (Err BadToken) (cond (is_empty (skip_blanks text)) (Ok Nothing) (cond (not (starts_with is_name_start (skip_blanks text))) (Err BadToken) r)))
    (mnemonic_at labels p q h (mnemonic_named (first_word (skip_blanks text))) (behind_word (skip_blanks text)))

same_ok : (s : Statement) (r : StatementReading) → Like SameUnlabelled (Ok s) r → names_label s ≡ false → r ≡ Ok s
same_ok s _ (values _ t h) k = ap (λ x. Ok x) (h k)

kept_where : (s : Statement) (spot : Spot) (text : List ℕ) (t : Bool) → names_label s ≡ t
    → (names_label s ≡ false → (labels : Spots) (place : SectionPlace) → here place ≡ spot → statement_in labels place text ≡ Ok s)
    → IsKept (cond t None (Some (record { spot = spot; statement = s }))) text
kept_where s spot text true e h = tt
kept_where s spot text false e h = h e

kept_by : (known : Spots) (at : SectionPlace) (text : List ℕ) (r : StatementReading) → statement_in known at text ≡ r → IsKept (kept_statement (here at) r) text
kept_by known at text (Err e) h = tt
kept_by known at text (Ok s) h = kept_where s (here at) text (names_label s) refl
    (λ none labels place same.
    reading_at labels place at same text
    ∙ same_ok s (statement_in labels at text)
    (subst (λ r. Like SameUnlabelled r (statement_in labels at text)) h (reading_alike known labels SameUnlabelled (λ s k. refl) forms_unlabelled at text)) none)

pub is_kept : (known : Spots) (place : SectionPlace) (text : List ℕ) → IsKept (kept_statement (here place) (statement_in known place text)) text
is_kept known place text = kept_by known place text _ refl

-- ---- statements that become instructions stand in the text

-- a statement that becomes instructions
abbrev pub is_instruction : Statement → Bool
is_instruction (One i) = true
is_instruction (Branch op rs1 rs2 target) = true
is_instruction (Jump rd target) = true
is_instruction (LoadImmediate rd value) = true
is_instruction (LoadAddress rd target) = true
is_instruction statement = false

abbrev IsNone : Statement → Type 0
IsNone s = is_instruction s ≡ false

-- each row of a directive makes no instruction
directives_make_none : (count : ℕ) (m : Mnemonic) → is_directive m ≡ true → Makes (λ slot v. Unit {0}) IsNone (form count m)
directives_make_none count (names.Section s) h = λ v k. refl
directives_make_none count (names.Numbers width) h = λ n. refl
directives_make_none count names.Space h = λ v k. refl
directives_make_none count names.Align h = λ v k. refl
directives_make_none count names.Global h = λ v k. refl
directives_make_none count m h = absurd cc

directive_none : (labels : Spots) (m : Mnemonic) (text : List ℕ) → is_directive m ≡ true → IfOk (statement_of labels m text) IsNone
directive_none labels m text h =
    statement_holds labels (λ slot v. Unit {0}) (λ slot text. any_ok (operand_in labels slot text)) IsNone m text (directives_make_none (how_many text) m h)

if_ok : (r : StatementReading) (s : Statement) → IfOk r IsNone → r ≡ Ok s → IsNone s
if_ok (Ok t) s h e = let same : t ≡ s = cc in subst IsNone same h
if_ok (Err f) s h e = cc

may_by : (t : Bool) (p q : SectionPlace) → cond t (Ok p) (Err BadOperand) ≡ Ok q → t ≡ true
may_by true p q h = refl
may_by false p q h = cc

text_by : (part : Part) (t : Bool) → (is_text part && t) ≡ true → part ≡ Text
text_by Text t h = refl
text_by Data t h = cc

where_by : (d : Bool) (part : Part) (t : Bool) → cond d true (is_text part && t) ≡ true → (d ≡ true → ⊥) → part ≡ Text
where_by true part t h k = absurd (k refl)
where_by false part t h k = text_by part t h

mnemonic_in_text : (labels : Spots) (place : SectionPlace) (o : Option Mnemonic) (text : List ℕ) (s : Statement) → of_mnemonic labels place o text ≡ Ok s → is_instruction s ≡ true → place.section ≡ Text
unfolding placed may_stand
mnemonic_in_text labels place (Some m) text s h k =
    let parts = also_ok (statement_of labels m text) (placed m place) s h in
    where_by (is_directive m) place.section (place.text_size % 4 == 0) (may_by (may_stand m place) place parts.0 parts.2)
    (λ d. let none : is_instruction s ≡ false = if_ok (statement_of labels m text) s (directive_none labels m text d) parts.1 in let wrong : true ≡ false = sym k ∙ none in cc)
mnemonic_in_text labels place None text s h k = cc

by_tests : (a b c : Bool) (r : StatementReading) (s : Statement) → cond a (Err BadToken) (cond b (Ok Nothing) (cond c (Err BadToken) r)) ≡ Ok s → is_instruction s ≡ true → r ≡ Ok s
by_tests true b c r s h k = cc
by_tests false true c r s h k = let same : ◌≡◌ {A = Statement} Nothing s = cc in cc
by_tests false false true r s h k = cc
by_tests false false false r s h k = h

pub in_the_text : (labels : Spots) (place : SectionPlace) (text : List ℕ) (s : Statement) → statement_in labels place text ≡ Ok s → is_instruction s ≡ true → place.section ≡ Text
unfolding statement_in
in_the_text labels place text s h k =
    mnemonic_in_text labels place (mnemonic_named (first_word (skip_blanks text))) (behind_word (skip_blanks text)) s
    (by_tests (not (is_sound false text)) (is_empty (skip_blanks text)) (not (starts_with is_name_start (skip_blanks text))) _ s h k) k
