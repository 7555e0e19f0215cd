-- What is wrong with a statement: the fault of its reading, of its labels or of its size is the least of it.
use Rattle.std.proofs.Common.{◌≡◌, ◌∙◌, ◌≤◌, ◌⊎◌, ℕ, Bool, true, false, not, List, Option, Some, None, Ok, Err, refl, sym, subst, inl, inr, ⊎_elim, arith, zero, suc, cond, ◌==◌, nat_le, Result, ℤ, pos, neg_ℤ, ◌≢◌, ◌-◌, ◌%◌, ◌<◌, ◌&&◌}
use Rattle.evm_asm.specs.evm_asm_lexer.declared.source_fault.SourceFaultKind.{SourceFaultKind}
use Rattle.evm_asm.specs.evm_asm_lexer.declared.source_fault.SourceFaultKind.TheVariants.{BadToken, UnknownName, BadOperand, RangeOfImmediate, LabelTwice, LabelMissing, TooLarge}
use Rattle.evm_asm.specs.evm_asm_lexer.declared.mnemonic.Mnemonic.{Mnemonic}
use Rattle.evm_asm.specs.evm_asm_lexer.Faults.{source_number, ◌>>=◌}
use Rattle.evm_asm.specs.evm_asm_lexer.Text.{skip_blanks, first_word, starts_with, is_name_start, is_empty, is_sound}
use Rattle.evm_asm.specs.evm_asm_lexer.Names.{mnemonic_named}
use Rattle.evm_asm.specs.evm_asm_parser.Operands.{Spots, how_many, first_operand, other_operands, datum_in}
use Rattle.evm_asm.specs.evm_asm_parser.Forms.{form, Values, Form, Each, Many}
use Rattle.evm_asm.specs.evm_asm_parser.Statements.{statement_of, StatementReading, all_operands_in, also, with_data, said}
use Rattle.evm_asm.specs.declared.place.SectionPlace.{SectionPlace}
use Rattle.evm_asm.specs.Places.{may_stand, placed, of_mnemonic, statement_in, grown, place_behind}
use Rattle.evm_asm.specs.Items.{operands, distance, with_item, value_of, value_in, number_pushed, with_numbers}
use Rattle.claims_texts.specs.Least.{fault_in}
use Rattle.claims_texts.specs.HasFault.{HasUnknownRegister, HasMisfit, HasNumberOutside, BeginsWithNoName, HasUnknownMnemonic, Of, OfForm, IsMisplaced, SomeOperand, IsBeyond}
use Rattle.claims_texts.proofs.Operand_faults.{IsLeast, same_least, also_fault, Three, three_joined, by_test, clash, statement_least}
use Rattle.evm_asm.specs.evm_asm_lexer.declared.mnemonic.DataWidth.{DataWidth}
use Rattle.evm_asm.specs.evm_asm_lexer.declared.mnemonic.Section.{Section as Part}
use Rattle.evm_asm.specs.evm_asm_parser.declared.statement.Datum.{Datum}
use Rattle.evm_asm.specs.evm_asm_parser.declared.statement.Statement.{Statement}
use Rattle.evm_asm.specs.evm_asm_parser.declared.statement.Statement.TheVariants.{Nothing, Section, Numbers}
use Rattle.evm_asm.specs.declared.item.Placed.{Placed}
use Rattle.evm_asm.proofs.Results.{also_ok}
use Rattle.evm_asm.specs.evm_asm_lexer.declared.mnemonic.Mnemonic.TheVariants as names
use Rattle.evm_asm.specs.evm_asm_parser.declared.statement.Datum.TheVariants as datum
use Rattle.evm_asm.specs.declared.item.SourceItem.TheVariants as item
use Rattle.std.proofs.lemmas.Bool.Decides.{nat_tests}
use Rattle.std.proofs.lemmas.Bool.{leb-true, leb-false}

-- ---- the reading

-- ---- the reading of a statement

-- what is wrong with a statement by itself
abbrev pub ReadingFault : SectionPlace → List ℕ → SourceFaultKind → Type 0
ReadingFault place text BadToken = (is_sound false text ≡ false) ⊎ BeginsWithNoName text
ReadingFault place text UnknownName = HasUnknownMnemonic text ⊎ OfForm text HasUnknownRegister
ReadingFault place text BadOperand = OfForm text HasMisfit ⊎ IsMisplaced place text
ReadingFault place text RangeOfImmediate = OfForm text HasNumberOutside
ReadingFault place text other = ⊥

from_one : (kind : SourceFaultKind) → 1 ≤ source_number kind
from_one BadToken = omega arith
from_one UnknownName = omega arith
from_one BadOperand = omega arith
from_one RangeOfImmediate = omega arith
from_one LabelTwice = omega arith
from_one LabelMissing = omega arith
from_one TooLarge = omega arith

not_true : (t : Bool) → not t ≡ true → t ≡ false
not_true true h = cc
not_true false h = refl

not_false : (t : Bool) → not t ≡ false → t ≡ true
not_false true h = refl
not_false false h = cc

module _ (labels : Spots) (place : SectionPlace) (text : List ℕ) where
  none_wrong : is_sound false text ≡ true → is_empty (skip_blanks text) ≡ true → (kind : SourceFaultKind) → ReadingFault place text kind → ⊥
  none_wrong s b BadToken w = ⊎_elim (λ x. clash _ s x) (λ x. clash _ b x.0) w
  none_wrong s b UnknownName w = ⊎_elim (λ x. clash _ b x.0) (λ x. clash _ b x.1) w
  none_wrong s b BadOperand w = ⊎_elim (λ x. clash _ b x.1) (λ x. clash _ b x.1) w
  none_wrong s b RangeOfImmediate w = clash _ b w.1
  none_wrong s b kind w = w

  module _ (s : is_sound false text ≡ true) (b : is_empty (skip_blanks text) ≡ false) (n : starts_with is_name_start (skip_blanks text) ≡ true) where
    no_bad_token : ReadingFault place text BadToken → ⊥
    no_bad_token w = ⊎_elim (λ x. clash _ s x) (λ x. clash _ n x.1) w

    from_two : (kind : SourceFaultKind) → ReadingFault place text kind → 2 ≤ source_number kind
    from_two BadToken w = absurd (no_bad_token w)
    from_two UnknownName w = omega arith
    from_two BadOperand w = omega arith
    from_two RangeOfImmediate w = omega arith
    from_two kind w = absurd w

    module _ (m : Mnemonic) (e : mnemonic_named (first_word (skip_blanks text)) ≡ Some m) where
      of_it : (P : Mnemonic → Type 0) → Of text P → P m
      of_it P x = let both : ◌≡◌ {A = Option Mnemonic} (Some x.0) (Some m) = sym x.2 ∙ e in let same : x.0 ≡ m = cc in subst P same x.3

      to : (kind : SourceFaultKind)
          → Three (HasUnknownRegister (form (how_many (operands text)) m) (operands text) ⊎ ⊥) (HasMisfit (form (how_many (operands text)) m) (operands text) ⊎ (may_stand m place ≡ false)) (HasNumberOutside (form (how_many (operands text)) m) (operands text) ⊎ ⊥) kind
          → ReadingFault place text kind
      to UnknownName w = ⊎_elim (λ x. inr (m, b, e, x)) (λ x. absurd x) w
      to BadOperand w = ⊎_elim (λ x. inl (m, b, e, x)) (λ x. inr (m, b, e, x)) w
      to RangeOfImmediate w = ⊎_elim (λ x. (m, b, e, x)) (λ x. absurd x) w
      to kind w = absurd w

      from : (kind : SourceFaultKind) → ReadingFault place text kind
          → Three (HasUnknownRegister (form (how_many (operands text)) m) (operands text) ⊎ ⊥) (HasMisfit (form (how_many (operands text)) m) (operands text) ⊎ (may_stand m place ≡ false)) (HasNumberOutside (form (how_many (operands text)) m) (operands text) ⊎ ⊥) kind
      from BadToken w = absurd (no_bad_token w)
      from UnknownName w = ⊎_elim (λ x. let wrong : ◌≡◌ {A = Option Mnemonic} None (Some m) = sym x.1 ∙ e in cc) (λ x. inl (of_it (λ m. HasUnknownRegister (form (how_many (operands text)) m) (operands text)) x)) w
      from BadOperand w = ⊎_elim (λ x. inl (of_it (λ m. HasMisfit (form (how_many (operands text)) m) (operands text)) x)) (λ x. inr (of_it (λ m. may_stand m place ≡ false) x)) w
      from RangeOfImmediate w = inl (of_it (λ m. HasNumberOutside (form (how_many (operands text)) m) (operands text)) w)
      from kind w = absurd w

      placed_least : IsLeast (Three ⊥ (may_stand m place ≡ false) ⊥) (fault_in (placed m place))
      unfolding placed
      placed_least = by_test (Three ⊥ (may_stand m place ≡ false) ⊥) (may_stand m place) (Ok place) (Err BadOperand) stands (λ e. (e, misplaced))
        where
          stands : may_stand m place ≡ true → (kind : SourceFaultKind) → Three ⊥ (may_stand m place ≡ false) ⊥ kind → ⊥
          stands e UnknownName w = w
          stands e BadOperand w = clash _ e w
          stands e RangeOfImmediate w = w
          stands e kind w = w

          misplaced : (kind : SourceFaultKind) → Three ⊥ (may_stand m place ≡ false) ⊥ kind → 3 ≤ source_number kind
          misplaced UnknownName w = absurd w
          misplaced BadOperand w = omega arith
          misplaced RangeOfImmediate w = absurd w
          misplaced kind w = absurd w

      known_least : IsLeast (ReadingFault place text) (fault_in (of_mnemonic labels place (Some m) (operands text)))
      known_least =
          same_least _ (ReadingFault place text) _ to from
          (subst (IsLeast (Three (HasUnknownRegister (form (how_many (operands text)) m) (operands text) ⊎ ⊥) (HasMisfit (form (how_many (operands text)) m) (operands text) ⊎ (may_stand m place ≡ false)) (HasNumberOutside (form (how_many (operands text)) m) (operands text) ⊎ ⊥)))
          (also_fault (statement_of labels m (operands text)) (placed m place))
          (three_joined _ _ _ ⊥ (may_stand m place ≡ false) ⊥ _ _ (statement_least labels m (operands text)) placed_least))

    mnemonic_least : (o : Option Mnemonic) → mnemonic_named (first_word (skip_blanks text)) ≡ o → IsLeast (ReadingFault place text) (fault_in (of_mnemonic labels place o (operands text)))
    mnemonic_least None e = (inl (b, e), from_two)
    mnemonic_least (Some m) e = known_least m e

  pub reading_least : IsLeast (ReadingFault place text) (fault_in (statement_in labels place text))
  unfolding statement_in
  reading_least =
      by_test _ (not (is_sound false text)) _ _ (λ e. (inl (not_true _ e), λ kind w. from_one kind))
      (λ e. let s = not_false _ e in
      by_test _ (is_empty (skip_blanks text)) _ _ (λ b. none_wrong s b)
      (λ b. by_test _ (not (starts_with is_name_start (skip_blanks text))) _ _ (λ n. (inr (b, not_true _ n), λ kind w. from_one kind))
      (λ n. mnemonic_least s b (not_false _ n) (mnemonic_named (first_word (skip_blanks text))) refl)))

-- ---- the labels and the size of a statement that is read

abbrev pub Only : SourceFaultKind → Type 0 → SourceFaultKind → Type 0
Only e P kind = (kind ≡ e) × P

pub only_least : (e : SourceFaultKind) (P : Type 0) → P → IsLeast (Only e P) (Some e)
only_least e P p = ((refl, p), λ kind w. subst (λ (k : SourceFaultKind). source_number e ≤ source_number k) (sym w.0) (omega arith))

pub only_same : (e : SourceFaultKind) (P Q : Type 0) (o : Option SourceFaultKind) → (P → Q) → (Q → P) → IsLeast (Only e P) o → IsLeast (Only e Q) o
only_same e P Q o to from h = same_least (Only e P) (Only e Q) o (λ kind w. (w.0, to w.1)) (λ kind w. (w.0, from w.1)) h

-- a result that fails with one fault alone
only_fault : {A : Type 0} (e : SourceFaultKind) (r : Result A SourceFaultKind) → ((f : SourceFaultKind) → r ≡ Err f → f ≡ e) → IsLeast (Only e (r ≡ Err e)) (fault_in r)
only_fault e (Ok a) h = λ kind w. cc
only_fault {A} e (Err f) h =
    let same : f ≡ e = h f refl in
    subst (λ (g : SourceFaultKind). IsLeast (Only e (◌≡◌ {A = Result A SourceFaultKind} (Err g) (Err e))) (Some g)) (sym same) (only_least e (◌≡◌ {A = Result A SourceFaultKind} (Err e) (Err e)) refl)

one_of : {A : Type 0} (t : Bool) (a : A) (e f : SourceFaultKind) → ◌≡◌ {A = Result A SourceFaultKind} (cond t (Ok a) (Err e)) (Err f) → f ≡ e
one_of true a e f h = cc
one_of false a e f h = cc

one_of_both : {A : Type 0} (t : Bool) (r s : Result A SourceFaultKind) (e f : SourceFaultKind) → (r ≡ Err f → f ≡ e) → (s ≡ Err f → f ≡ e) → cond t r s ≡ Err f → f ≡ e
one_of_both true r s e f a b h = a h
one_of_both false r s e f a b h = b h

-- a number that two tests allow
tested : (a b : Bool) (x : ℤ) (P : Type 0) → (a ≡ true → b ≡ true → P → ⊥) → (a ≡ false → P) → (b ≡ false → P) → IsLeast (Only RangeOfImmediate P) (fault_in (cond (a && b) (Ok x) (Err RangeOfImmediate)))
tested true true x P none odd far = λ kind w. none refl refl w.1
tested true false x P none odd far = only_least RangeOfImmediate P (far refl)
tested false b x P none odd far = only_least RangeOfImmediate P (odd refl)

is_same : (m n : ℕ) → (m == n) ≡ true → m ≡ n
is_same m n e = grind (arith, nat_tests)

is_other : (m n : ℕ) → (m == n) ≡ false → m ≢ n
is_other m n e = λ same. absurd (grind (arith, nat_tests))

-- an even way to what is ahead, and back to what is behind
even_way : (near far : ℕ) → near ≤ far → (far - near) % 2 ≡ 0 → near % 2 ≡ far % 2
even_way near far le e = omega arith

odd_way : (near far : ℕ) → near ≤ far → near % 2 ≡ far % 2 → (far - near) % 2 ≡ 0
odd_way near far le e = omega arith

distance_by : (back ahead from target : ℕ) (t : Bool) → nat_le from target ≡ t
    → IsLeast (Only RangeOfImmediate (IsBeyond back ahead from target))
    (fault_in (cond t (cond ((target - from) % 2 == 0 && nat_le (target - from) ahead) (Ok (pos (target - from))) (Err RangeOfImmediate))
    (cond ((from - target) % 2 == 0 && nat_le (from - target) back) (Ok (neg_ℤ (pos (from - target)))) (Err RangeOfImmediate))))
distance_by back ahead from target true e =
    let le : from ≤ target = leb-true from target e in
    tested _ _ _ (IsBeyond back ahead from target)
    (λ even near w.
    let less = leb-true (target - from) ahead near in
    ⊎_elim (λ x. x (even_way from target le (is_same _ _ even))) (λ y. ⊎_elim (λ x. absurd (omega arith)) (λ x. absurd (omega arith)) y) w)
    (λ odd. inl (λ same. is_other _ _ odd (odd_way from target le same)))
    (λ far. let more = leb-false (target - from) ahead far in inr (inr (omega arith)))
distance_by back ahead from target false e =
    let le : target < from = leb-false from target e in
    tested _ _ _ (IsBeyond back ahead from target)
    (λ even near w.
    let less = leb-true (from - target) back near in
    ⊎_elim (λ x. x (sym (even_way target from (omega arith) (is_same _ _ even)))) (λ y. ⊎_elim (λ x. absurd (omega arith)) (λ x. absurd (omega arith)) y) w)
    (λ odd. inl (λ same. is_other _ _ odd (odd_way target from (omega arith) (sym same))))
    (λ far. let more = leb-false (from - target) back far in inr (inl (omega arith)))

pub distance_least : (back ahead from target : ℕ) → IsLeast (Only RangeOfImmediate (IsBeyond back ahead from target)) (fault_in (distance back ahead from target))
unfolding distance
distance_least back ahead from target = distance_by back ahead from target (nat_le from target) refl

behind_fails : (place : SectionPlace) (s : Statement) (f : SourceFaultKind) → place_behind place s ≡ Err f → f ≡ TooLarge
unfolding place_behind grown
behind_fails place (Section part) f h = cc
behind_fails place s f h = one_of _ _ TooLarge f h

pub behind_least : (place : SectionPlace) (s : Statement) → IsLeast (Only TooLarge (place_behind place s ≡ Err TooLarge)) (fault_in (place_behind place s))
behind_least place s = only_fault TooLarge (place_behind place s) (behind_fails place s)

-- each of the first n operands is a number or a label
abbrev pub AllRead : Spots → DataWidth → ℕ → List ℕ → Type 0
AllRead labels width zero text = Unit {0}
AllRead labels width (suc n) text = ((d : Datum) × (datum_in labels width (first_operand text) ≡ Ok d)) × AllRead labels width n (other_operands text)

also_read : {B : Type 0} (r : StatementReading) (b : Result B SourceFaultKind) (s : Statement) → also r b ≡ Ok s → (r ≡ Ok s) × (x : B) × (b ≡ Ok x)
also_read r b s h = let k = also_ok r b s h in (k.1, k.0, k.2)

data_read : (labels : Spots) (width : DataWidth) (n : ℕ) (r : StatementReading) (text : List ℕ) (s : Statement) → with_data labels width n r text ≡ Ok s → (r ≡ Ok s) × AllRead labels width n text
unfolding with_data
data_read labels width zero r text s h = (h, tt)
data_read labels width (suc n) r text s h =
    let more = data_read labels width n (also r (datum_in labels width (first_operand text))) (other_operands text) s h in
    let one = also_read r (datum_in labels width (first_operand text)) s more.0 in
    (one.0, ((one.1, one.2), more.1))

-- a form makes lists of numbers of as many as there are, or none
abbrev MakesLists : Form → Type 0
MakesLists (Each slots makes) = (v : Values slots) (w : DataWidth) (c : ℕ) → makes v ≡ Numbers w c → ⊥
MakesLists (Many width makes) = (n : ℕ) → makes n ≡ Numbers width n

either_lists : (t : Bool) (f g : Form) → MakesLists f → MakesLists g → MakesLists (cond t f g)
either_lists true f g h k = h
either_lists false f g h k = k

forms_list : (count : ℕ) (m : Mnemonic) → MakesLists (form count m)
forms_list count names.Jal = either_lists (count == 1) _ _ (λ v w c h. cc) (λ v w c h. cc)
forms_list count names.Jalr = either_lists (count == 1) _ _ (λ v w c h. cc) (λ v w c h. cc)
forms_list count (names.Numbers width) = λ n. refl
forms_list count m = λ v w c h. cc

made_by : {A : Type 0} (r : Result A SourceFaultKind) (makes : A → Statement) (s : Statement) → (r >>= λ v. Ok (makes v)) ≡ Ok s → (v : A) × (makes v ≡ s)
made_by (Ok v) makes s h = (v, cc)
made_by (Err e) makes s h = cc

unless_err : (t : Bool) (r : StatementReading) (s : Statement) → cond t (Err BadOperand) r ≡ Ok s → r ≡ Ok s
unless_err true r s h = cc
unless_err false r s h = h

list_read : (labels : Spots) (f : Form) (text : List ℕ) (w : DataWidth) (c : ℕ) → MakesLists f → said labels f text ≡ Ok (Numbers w c) → AllRead labels w c text
unfolding said
list_read labels (Each slots makes) text w c lists h = let v = made_by (all_operands_in labels slots text) makes (Numbers w c) h in absurd (lists v.0 w c v.1)
list_read labels (Many width makes) text w c lists h =
    let r = data_read labels width (how_many text) (Ok (makes (how_many text))) text (Numbers w c) (unless_err (how_many text == 0) _ (Numbers w c) h) in
    let made : makes (how_many text) ≡ Numbers w c = cc in
    let both : Numbers width (how_many text) ≡ Numbers w c = sym (lists (how_many text)) ∙ made in
    let width_is : width ≡ w = cc in
    let count_is : how_many text ≡ c = cc in
    subst (λ (n : ℕ). AllRead labels w n text) count_is (subst (λ (x : DataWidth). AllRead labels x (how_many text) text) width_is r.1)

mnemonic_list_read : (labels : Spots) (place : SectionPlace) (o : Option Mnemonic) (text : List ℕ) (w : DataWidth) (c : ℕ) → of_mnemonic labels place o text ≡ Ok (Numbers w c) → AllRead labels w c text
unfolding statement_of
mnemonic_list_read labels place (Some m) text w c h =
    list_read labels (form (how_many text) m) text w c (forms_list (how_many text) m) (also_read (statement_of labels m text) (placed m place) (Numbers w c) h).0
mnemonic_list_read labels place None text w c h = cc

list_by_tests : (a b d : Bool) (r : StatementReading) (w : DataWidth) (c : ℕ) → cond a (Err BadToken) (cond b (Ok Nothing) (cond d (Err BadToken) r)) ≡ Ok (Numbers w c) → r ≡ Ok (Numbers w c)
list_by_tests true b d r w c h = cc
list_by_tests false true d r w c h = cc
list_by_tests false false true r w c h = cc
list_by_tests false false false r w c h = h

pub all_read : (labels : Spots) (place : SectionPlace) (text : List ℕ) (w : DataWidth) (c : ℕ) → statement_in labels place text ≡ Ok (Numbers w c) → AllRead labels w c (operands text)
unfolding statement_in
all_read labels place text w c h =
    mnemonic_list_read labels place (mnemonic_named (first_word (skip_blanks text))) (operands text) w c
    (list_by_tests (not (is_sound false text)) (is_empty (skip_blanks text)) (not (starts_with is_name_start (skip_blanks text))) _ w c h)

-- the fault of a list is that of a label that no line defines
module _ (labels : Spots) (size : ℕ) (part : Part) (width : DataWidth) where
  abbrev pub Lacks : ℕ → List ℕ → Type 0
  Lacks n text = SomeOperand (λ operand. datum_in labels width operand ≡ Ok (datum.Label None)) n text

  module _ (n : ℕ) (text : List ℕ) (least : (b : List Placed) → IsLeast (Only LabelMissing (Lacks n (other_operands text))) (fault_in (with_numbers labels size part width n (other_operands text) b))) where
    goes_on : (d : Datum) → datum_in labels width (first_operand text) ≡ Ok d → (◌≡◌ {A = Datum} d (datum.Label None) → ⊥) → (b : List Placed)
        → IsLeast (Only LabelMissing (Lacks (suc n) text)) (fault_in (with_numbers labels size part width n (other_operands text) b))
    goes_on d e other b =
        only_same LabelMissing _ _ _ (λ k. inr k)
        (λ k. ⊎_elim (λ x. let both : ◌≡◌ {A = Result Datum SourceFaultKind} (Ok d) (Ok (datum.Label None)) = sym e ∙ x in let same : d ≡ datum.Label None = cc in absurd (other same)) (λ x. x) k)
        (least b)

    by_datum : (a : List Placed) (d : Datum) (r : Result Datum SourceFaultKind) → datum_in labels width (first_operand text) ≡ r → r ≡ Ok d
        → IsLeast (Only LabelMissing (Lacks (suc n) text)) (fault_in (((r >>= value_of size) >>= λ v. Ok (with_item part (item.Number width v) a)) >>= λ items. with_numbers labels size part width n (other_operands text) items))
    by_datum a d (Ok (datum.Value v)) e is = goes_on (datum.Value v) e (λ x. cc) _
    by_datum a d (Ok (datum.Label (Some spot))) e is = goes_on (datum.Label (Some spot)) e (λ x. cc) _
    by_datum a d (Ok (datum.Label None)) e is = only_least LabelMissing (Lacks (suc n) text) (inl e)
    by_datum a d (Err f) e is = cc

  pub numbers_least : (n : ℕ) (text : List ℕ) (a : List Placed) → AllRead labels width n text
      → IsLeast (Only LabelMissing (Lacks n text)) (fault_in (with_numbers labels size part width n text a))
  unfolding with_numbers number_pushed value_in
  numbers_least zero text a all = λ kind w. w.1
  numbers_least (suc n) text a all =
      by_datum n text (λ b. numbers_least n (other_operands text) b all.1) a all.0.0 (datum_in labels width (first_operand text)) refl all.0.1
