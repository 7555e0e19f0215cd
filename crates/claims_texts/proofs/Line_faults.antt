-- The fault that is told of a line is the least of what is wrong with it.
use Rattle.std.proofs.Common.{◌≡◌, ◌∙◌, ◌≤◌, ◌⊎◌, ℕ, zero, suc, ◌+◌, Bool, true, false, cond, ◌==◌, List, [], take, slice_get, Option, Some, None, option_and_then, Result, Ok, Err, ap, refl, sym, subst, inl, inr, ⊎_elim, arith}
use Rattle.evm_asm.specs.evm_asm_lexer.declared.source_fault.SourceFault.{SourceFault}
use Rattle.evm_asm.specs.evm_asm_lexer.declared.source_fault.SourceFaultKind.{SourceFaultKind}
use Rattle.evm_asm.specs.evm_asm_lexer.declared.source_fault.SourceFaultKind.TheVariants.{BadToken, UnknownName, BadOperand, RangeOfImmediate, LabelTwice, LabelMissing, TooLarge}
use Rattle.evm_asm.specs.evm_asm_lexer.Faults.{source_number, ◌>>=◌}
use Rattle.evm_asm.specs.evm_asm_parser.declared.statement.Statement.{Statement}
use Rattle.evm_asm.specs.evm_asm_parser.declared.statement.Statement.TheVariants.{Branch, Jump, LoadAddress, Numbers}
use Rattle.evm_asm.specs.evm_asm_parser.Operands.{Spots}
use Rattle.evm_asm.specs.evm_asm_parser.Statements.{StatementReading}
use Rattle.evm_asm.specs.declared.place.SectionPlace.{SectionPlace}
use Rattle.evm_asm.specs.declared.item.Expansion.{Expansion}
use Rattle.evm_asm.specs.declared.item.Placed.{Placed}
use Rattle.evm_asm.specs.Places.{place_behind, statement_in}
use Rattle.evm_asm.specs.Sources.{Laid, nothing_laid, laid, outcome, measured, line_defined, line_laid, source_lines, code_of}
use Rattle.evm_asm.specs.Items.{text_base, address, distance, load_address, expanded, with_instructions, operands, with_statement, statement_meant, line_meant, layout_of}
use Rattle.claims_texts.specs.Least.{fault_in, lesser, line_fault, fault_at, IsFirstFault}
use Rattle.claims_texts.specs.HasFault.{HasLabelTwice, text_behind_labels, IsFar, LacksLabel, Said, IsWrong, HasFault, IsLeastOfFirst, RefusedWithTheLeast}
use Rattle.evm_asm.proofs.Statements_without_labels.{measured_alike}
use Rattle.claims_texts.proofs.Operand_faults.{IsLeast, same_least, either_least}
use Rattle.claims_texts.proofs.First_fault.{refused_with_the_first}
use Rattle.claims_texts.proofs.Statement_faults.{Only, only_least, only_same, distance_least, behind_least, all_read, numbers_least, ReadingFault, reading_least}
use Rattle.claims_texts.proofs.Labels_found.{label_twice}

-- ---- what is wrong with a statement that was read

module _ (labels : Spots) (size : ℕ) (place : SectionPlace) (text : List ℕ) where
  -- a label that is too far, or that no line defines
  abbrev LabelFault : Statement → SourceFaultKind → Type 0
  LabelFault s kind = Only RangeOfImmediate (IsFar size (text_base + place.text_size) s) kind ⊎ Only LabelMissing (LacksLabel labels text s) kind

  far_alone : (s : Statement) (o : Option SourceFaultKind) → (LacksLabel labels text s → ⊥) → IsLeast (Only RangeOfImmediate (IsFar size (text_base + place.text_size) s)) o → IsLeast (LabelFault s) o
  far_alone s o none h =
      same_least _ (LabelFault s) o (λ kind w. inl w) (λ kind w. ⊎_elim (λ x. x) (λ x. absurd (none x.1)) w) h

  missing_alone : (s : Statement) (o : Option SourceFaultKind) → (IsFar size (text_base + place.text_size) s → ⊥) → IsLeast (Only LabelMissing (LacksLabel labels text s)) o → IsLeast (LabelFault s) o
  missing_alone s o none h =
      same_least _ (LabelFault s) o (λ kind w. inr w) (λ kind w. ⊎_elim (λ x. absurd (none x.1)) (λ x. x) w) h

  nothing_wrong : (s : Statement) → (IsFar size (text_base + place.text_size) s → ⊥) → (LacksLabel labels text s → ⊥) → IsLeast (LabelFault s) None
  nothing_wrong s a b = λ kind w. ⊎_elim (λ x. a x.1) (λ x. b x.1) w

  spelled_fault : {A : Type 0} (r : Result A SourceFaultKind) (f : A → Expansion) (line : ℕ) (a : List Placed)
      → fault_in r ≡ fault_in ((r >>= λ d. Ok (f d)) >>= λ e. Ok (with_instructions line e a))
  spelled_fault (Ok d) f line a = refl
  spelled_fault (Err e) f line a = refl

  with_least : (line : ℕ) (s : Statement) (a : List Placed) → statement_in labels place text ≡ Ok s → IsLeast (LabelFault s) (fault_in (with_statement labels size line place text s a))
  unfolding with_statement expanded load_address
  with_least line (Branch op rs1 rs2 (Some spot)) a e =
      subst (IsLeast (LabelFault (Branch op rs1 rs2 (Some spot)))) (spelled_fault (distance 4096 4094 (text_base + place.text_size) (address size spot)) _ line a)
      (far_alone (Branch op rs1 rs2 (Some spot)) _ (λ x. x) (distance_least 4096 4094 (text_base + place.text_size) (address size spot)))
  with_least line (Branch op rs1 rs2 None) a e = missing_alone (Branch op rs1 rs2 None) (Some LabelMissing) (λ x. x) (only_least LabelMissing (Unit {0}) tt)
  with_least line (Jump rd (Some spot)) a e =
      subst (IsLeast (LabelFault (Jump rd (Some spot)))) (spelled_fault (distance 1048576 1048574 (text_base + place.text_size) (address size spot)) _ line a)
      (far_alone (Jump rd (Some spot)) _ (λ x. x) (distance_least 1048576 1048574 (text_base + place.text_size) (address size spot)))
  with_least line (Jump rd None) a e = missing_alone (Jump rd None) (Some LabelMissing) (λ x. x) (only_least LabelMissing (Unit {0}) tt)
  with_least line (LoadAddress rd (Some spot)) a e = nothing_wrong (LoadAddress rd (Some spot)) (λ x. x) (λ x. x)
  with_least line (LoadAddress rd None) a e = missing_alone (LoadAddress rd None) (Some LabelMissing) (λ x. x) (only_least LabelMissing (Unit {0}) tt)
  with_least line (Numbers width count) a e =
      missing_alone (Numbers width count) _ (λ x. x) (numbers_least labels size place.section width count (operands text) a (all_read labels place text width count e))
  with_least line s a e = nothing_wrong s (λ x. x) (λ x. x)

  at_most_six : (s : Statement) (kind : SourceFaultKind) → LabelFault s kind → source_number kind ≤ 6
  at_most_six s kind w =
      ⊎_elim (λ x. subst (λ (k : SourceFaultKind). source_number k ≤ 6) (sym x.0) (omega arith)) (λ x. subst (λ (k : SourceFaultKind). source_number k ≤ 6) (sym x.0) (omega arith)) w

  placed_by : (s : Statement) (w : Result (List Placed) SourceFaultKind) (b : Result SectionPlace SourceFaultKind) → IsLeast (LabelFault s) (fault_in w) → IsLeast (Only TooLarge (place_behind place s ≡ Err TooLarge)) (fault_in b)
      → IsLeast (λ kind. LabelFault s kind ⊎ Only TooLarge (place_behind place s ≡ Err TooLarge) kind) (fault_in {A = SectionPlace × List Placed} (w >>= λ items. b >>= λ next. Ok (next, items)))
  placed_by s (Err f) b h k = (
    inl h.0,
    λ kind w. ⊎_elim (λ x. h.1 kind x)
        (λ x. let less = at_most_six s f h.0 in subst (λ (k : SourceFaultKind). source_number f ≤ source_number k) (sym x.0) (omega arith)) w,
  )
  placed_by s (Ok items) (Ok next) h k = λ kind w. ⊎_elim (λ x. h kind x) (λ x. k kind x) w
  placed_by s (Ok items) (Err f) h k = (inr k.0, λ kind w. ⊎_elim (λ x. absurd (h kind x)) (λ x. k.1 kind x) w)

  statement_meant_least : (line : ℕ) (s : Statement) → statement_in labels place text ≡ Ok s
      → IsLeast (λ kind. LabelFault s kind ⊎ Only TooLarge (place_behind place s ≡ Err TooLarge) kind) (fault_in (statement_meant labels size line place text s []))
  unfolding statement_meant
  statement_meant_least line s e = placed_by s (with_statement labels size line place text s []) (place_behind place s) (with_least line s [] e) (behind_least place s)

  -- ---- what is wrong with the line

  abbrev Large : SourceFaultKind → Type 0
  Large kind = Only TooLarge (Said labels place text (λ s. place_behind place s ≡ Err TooLarge)) kind

  abbrev Labelling : SourceFaultKind → Type 0
  Labelling kind = Only RangeOfImmediate (Said labels place text (IsFar size (text_base + place.text_size))) kind ⊎ Only LabelMissing (Said labels place text (LacksLabel labels text)) kind

  said_it : (s : Statement) (P : Statement → Type 0) → statement_in labels place text ≡ Ok s → Said labels place text P → P s
  said_it s P e x = let both : ◌≡◌ {A = StatementReading} (Ok x.0) (Ok s) = sym x.1 ∙ e in let same : x.0 ≡ s = cc in subst P same x.2

  unsaid : (f : SourceFaultKind) (P : Statement → Type 0) → statement_in labels place text ≡ Err f → Said labels place text P → ⊥
  unsaid f P e x = let wrong : ◌≡◌ {A = StatementReading} (Ok x.0) (Err f) = sym x.1 ∙ e in cc

  measured_by : (r : StatementReading) → statement_in labels place text ≡ r → IsLeast (ReadingFault place text) (fault_in r) → IsLeast (λ kind. ReadingFault place text kind ⊎ Large kind) (fault_in (r >>= place_behind place))
  measured_by (Err f) e h = either_least (ReadingFault place text) Large (Some f) None h (λ kind w. unsaid f _ e w.1)
  measured_by (Ok s) e h =
      either_least (ReadingFault place text) Large None (fault_in (place_behind place s)) h
      (only_same TooLarge _ _ _ (λ p. (s, e, p)) (λ x. said_it s (λ s. place_behind place s ≡ Err TooLarge) e x) (behind_least place s))

  measured_least : IsLeast (λ kind. ReadingFault place text kind ⊎ Large kind) (fault_in (measured labels place text))
  unfolding measured
  measured_least = measured_by (statement_in labels place text) refl (reading_least labels place text)

  meant_by : (line : ℕ) (r : StatementReading) → statement_in labels place text ≡ r → IsLeast (ReadingFault place text) (fault_in r)
      → IsLeast (λ kind. ReadingFault place text kind ⊎ (Labelling kind ⊎ Large kind)) (fault_in (r >>= λ s. statement_meant labels size line place text s []))
  meant_by line (Err f) e h =
      either_least (ReadingFault place text) (λ kind. Labelling kind ⊎ Large kind) (Some f) None h
      (λ kind w. ⊎_elim (λ x. ⊎_elim (λ y. unsaid f _ e y.1) (λ y. unsaid f _ e y.1) x) (λ x. unsaid f _ e x.1) w)
  meant_by line (Ok s) e h =
      either_least (ReadingFault place text) (λ kind. Labelling kind ⊎ Large kind) None (fault_in (statement_meant labels size line place text s [])) h
      (same_least _ (λ kind. Labelling kind ⊎ Large kind) _
      (λ kind w. ⊎_elim (λ x. inl (⊎_elim (λ y. inl (y.0, (s, e, y.1))) (λ y. inr (y.0, (s, e, y.1))) x)) (λ x. inr (x.0, (s, e, x.1))) w)
      (λ kind w. ⊎_elim (λ x. inl (⊎_elim (λ y. inl (y.0, said_it s (IsFar size (text_base + place.text_size)) e y.1)) (λ y. inr (y.0, said_it s (LacksLabel labels text) e y.1)) x)) (λ x. inr (x.0, said_it s (λ s. place_behind place s ≡ Err TooLarge) e x.1)) w)
      (statement_meant_least line s e))

  meant_least : (line : ℕ) → IsLeast (λ kind. ReadingFault place text kind ⊎ (Labelling kind ⊎ Large kind)) (fault_in (line_meant labels size line place text []))
  unfolding line_meant
  meant_least line = meant_by line (statement_in labels place text) refl (reading_least labels place text)

outcome_fault : (place : SectionPlace) (t : Bool) (r : Result SectionPlace SourceFaultKind) → lesser (cond t (Some LabelTwice) None) (fault_in r) ≡ (outcome place t r).1
outcome_fault place false (Ok next) = refl
outcome_fault place false (Err kind) = refl
outcome_fault place true (Ok next) = refl
outcome_fault place true (Err kind) = refl

twice_least : (t : Bool) (P : Type 0) → (t ≡ true → P) → (P → t ≡ true) → IsLeast (Only LabelTwice P) (cond t (Some LabelTwice) None)
twice_least true P to from = only_least LabelTwice P (to refl)
twice_least false P to from = λ kind w. let wrong = from w.1 in cc

module _ (whole : Laid) (earlier : List (List ℕ)) (line : List ℕ) where
  abbrev before : Laid
  before = laid nothing_laid earlier

  abbrev Twice : Type 0
  Twice = HasLabelTwice earlier line

  laid_least : IsLeast (λ kind. Only LabelTwice Twice kind ⊎ (ReadingFault before.place (text_behind_labels line) kind ⊎ Large whole.labels whole.place.text_size before.place (text_behind_labels line) kind)) (line_laid before.labels before.place (code_of line)).1.1
  unfolding line_laid
  laid_least =
      let known = (line_defined before.labels before.place (code_of line)).labels in
      let twice = (line_defined before.labels before.place (code_of line)).twice in
      let same = measured_alike whole.labels known before.place (text_behind_labels line) in
      subst (IsLeast (λ kind. Only LabelTwice Twice kind ⊎ (ReadingFault before.place (text_behind_labels line) kind ⊎ Large whole.labels whole.place.text_size before.place (text_behind_labels line) kind)))
      (outcome_fault before.place twice (measured known before.place (text_behind_labels line)))
      (either_least (Only LabelTwice Twice) _ _ _ (let told = label_twice earlier line in twice_least twice Twice told.0 told.1)
      (subst (λ (r : Result SectionPlace SourceFaultKind). IsLeast (λ kind. ReadingFault before.place (text_behind_labels line) kind ⊎ Large whole.labels whole.place.text_size before.place (text_behind_labels line) kind) (fault_in r)) same
      (measured_least whole.labels whole.place.text_size before.place (text_behind_labels line))))

  abbrev All : SourceFaultKind → Type 0
  All kind =
      (Only LabelTwice Twice kind ⊎ (ReadingFault before.place (text_behind_labels line) kind ⊎ Large whole.labels whole.place.text_size before.place (text_behind_labels line) kind))
      ⊎ (ReadingFault before.place (text_behind_labels line) kind ⊎ (Labelling whole.labels whole.place.text_size before.place (text_behind_labels line) kind ⊎ Large whole.labels whole.place.text_size before.place (text_behind_labels line) kind))

  reading_wrong : (kind : SourceFaultKind) → ReadingFault before.place (text_behind_labels line) kind → IsWrong whole earlier line kind
  reading_wrong BadToken w = w
  reading_wrong UnknownName w = w
  reading_wrong BadOperand w = w
  reading_wrong RangeOfImmediate w = inl w
  reading_wrong kind w = absurd w

  only_wrong : (e kind : SourceFaultKind) (P : Type 0) → (P → IsWrong whole earlier line e) → Only e P kind → IsWrong whole earlier line kind
  only_wrong e kind P f w = subst (IsWrong whole earlier line) (sym w.0) (f w.1)

  all_wrong : (kind : SourceFaultKind) → All kind → IsWrong whole earlier line kind
  all_wrong kind w =
      ⊎_elim
      (λ a. ⊎_elim (λ x. only_wrong LabelTwice kind _ (λ p. p) x) (λ b. ⊎_elim (λ x. reading_wrong kind x) (λ x. only_wrong TooLarge kind _ (λ p. p) x) b) a)
      (λ a. ⊎_elim (λ x. reading_wrong kind x)
      (λ b. ⊎_elim (λ x. ⊎_elim (λ y. only_wrong RangeOfImmediate kind _ (λ p. inr p) y) (λ y. only_wrong LabelMissing kind _ (λ p. p) y) x) (λ x. only_wrong TooLarge kind _ (λ p. p) x) b) a)
      w

  wrong_all : (kind : SourceFaultKind) → IsWrong whole earlier line kind → All kind
  wrong_all BadToken w = inr (inl w)
  wrong_all UnknownName w = inr (inl w)
  wrong_all BadOperand w = inr (inl w)
  wrong_all RangeOfImmediate w = ⊎_elim (λ x. inr (inl x)) (λ x. inr (inr (inl (inl (refl, x))))) w
  wrong_all LabelTwice w = inl (inl (refl, w))
  wrong_all LabelMissing w = inr (inr (inl (inr (refl, w))))
  wrong_all TooLarge w = inl (inr (inr (refl, w)))

  line_least : IsLeast (IsWrong whole earlier line) (line_fault whole before line)
  line_least =
      same_least All (IsWrong whole earlier line) _ all_wrong wrong_all
      (either_least _ _ _ _ laid_least (meant_least whole.labels whole.place.text_size before.place (text_behind_labels line) 0))

-- ---- the source

found_least : (whole : Laid) (earlier lines : List (List ℕ)) (n : ℕ) (o : Option (List ℕ)) → slice_get lines n ≡ o
    → IsLeast (λ kind. (line : List ℕ) × (slice_get lines n ≡ Some line) × IsWrong whole earlier line kind) (option_and_then (line_fault whole (laid nothing_laid earlier)) o)
found_least whole earlier lines n None e = λ kind w. let wrong : ◌≡◌ {A = Option (List ℕ)} None (Some w.0) = sym e ∙ w.1 in cc
found_least whole earlier lines n (Some line) e =
    same_least (IsWrong whole earlier line) _ (line_fault whole (laid nothing_laid earlier) line) (λ kind w. (line, e, w))
    (λ kind w. let both : ◌≡◌ {A = Option (List ℕ)} (Some w.0) (Some line) = sym w.1 ∙ e in let same : w.0 ≡ line = cc in subst (λ (l : List ℕ). IsWrong whole earlier l kind) same w.2)
    (line_least whole earlier line)

fault_least : (source : List ℕ) (n : ℕ) → IsLeast (HasFault source n) (fault_at source n)
unfolding fault_at
fault_least source zero = λ kind w. w
fault_least source (suc n) = found_least (layout_of source) (take n (source_lines source)) (source_lines source) n (slice_get (source_lines source) n) refl

kind_of : ℕ → SourceFaultKind
kind_of n =
    cond (n == 1) BadToken (cond (n == 2) UnknownName (cond (n == 3) BadOperand (cond (n == 4) RangeOfImmediate
    (cond (n == 5) LabelTwice (cond (n == 6) LabelMissing TooLarge)))))

kind_again : (kind : SourceFaultKind) → kind_of (source_number kind) ≡ kind
unfolding kind_of
kind_again BadToken = refl
kind_again UnknownName = refl
kind_again BadOperand = refl
kind_again RangeOfImmediate = refl
kind_again LabelTwice = refl
kind_again LabelMissing = refl
kind_again TooLarge = refl

same_kind : (a b : SourceFaultKind) → source_number a ≡ source_number b → a ≡ b
same_kind a b h = sym (kind_again a) ∙ ap kind_of h ∙ kind_again b

least_is : (H : SourceFaultKind → Type 0) (o : Option SourceFaultKind) (kind : SourceFaultKind) → IsLeast H o → H kind → ((other : SourceFaultKind) → H other → source_number kind ≤ source_number other) → o ≡ Some kind
least_is H None kind h w min = absurd (h kind w)
least_is H (Some e) kind h w min = ap Some (same_kind e kind (let a = h.1 kind w in let b = min e h.0 in omega arith))

none_least : (H : SourceFaultKind → Type 0) (o : Option SourceFaultKind) → IsLeast H o → ((kind : SourceFaultKind) → H kind → ⊥) → o ≡ None
none_least H None h none = refl
none_least H (Some e) h none = absurd (none e h.0)

first_to : (source : List ℕ) (fault : SourceFault) → IsFirstFault source fault → IsLeastOfFirst source fault
first_to source fault h =
    let here = subst (IsLeast (HasFault source fault.line)) h.0 (fault_least source fault.line) in
    (here.0, here.1, λ n less. subst (IsLeast (HasFault source n)) (h.1 n less) (fault_least source n))

first_from : (source : List ℕ) (fault : SourceFault) → IsLeastOfFirst source fault → IsFirstFault source fault
first_from source fault h = (
  least_is (HasFault source fault.line) (fault_at source fault.line) fault.kind (fault_least source fault.line) h.0 h.1,
  λ n less. none_least (HasFault source n) (fault_at source n) (fault_least source n) (h.2 n less),
)

pub refused_with_the_least : RefusedWithTheLeast
refused_with_the_least source =
    let first = refused_with_the_first source in (
      λ fault. (λ h. first_to source fault ((first.0 fault).0 h), λ h. (first.0 fault).1 (first_from source fault h)),
      (
        λ h n. subst (IsLeast (HasFault source n)) (first.1.0 h n) (fault_least source n),
        λ h. first.1.1 (λ n. none_least (HasFault source n) (fault_at source n) (fault_least source n) (h n)),
      ),
    )
