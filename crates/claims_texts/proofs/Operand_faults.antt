-- The fault of a reading is the least of what is wrong with what it reads.
use Rattle.std.proofs.Common.{◌≡◌, ◌≢◌, ◌∙◌, ◌<◌, ◌≤◌, ◌⊎◌, ℕ, zero, suc, Bool, true, false, cond, ◌&&◌, ◌==◌, nat_le, List, [], ◌∷◌, length, Option, Some, None, Result, Ok, Err, ap, refl, sym, subst, inl, inr, ⊎_elim, arith}
use Rattle.std.proofs.lemmas.Bool.{leb-true, leb-false, eqb-true, eqb-false}
use Rattle.evm_asm.specs.evm_asm_lexer.declared.source_fault.SourceFaultKind.{SourceFaultKind}
use Rattle.evm_asm.specs.evm_asm_lexer.declared.source_fault.SourceFaultKind.TheVariants.{UnknownName, BadOperand, RangeOfImmediate}
use Rattle.evm_asm.specs.evm_asm_lexer.declared.mnemonic.DataWidth.{DataWidth}
use Rattle.evm_asm.specs.evm_asm_lexer.declared.mnemonic.DataWidth.TheVariants.{Byte, Word, Dword}
use Rattle.evm_asm.specs.evm_asm_lexer.declared.mnemonic.Mnemonic.{Mnemonic}
use Rattle.evm_asm.specs.evm_asm_lexer.Characters.{left_parenthesis, right_parenthesis}
use Rattle.evm_asm.specs.evm_asm_lexer.Faults.{source_number, least, both, ◌>>=◌}
use Rattle.evm_asm.specs.evm_asm_lexer.Text.{before, after, has_byte}
use Rattle.evm_asm.specs.evm_asm_lexer.Names.{register_named}
use Rattle.evm_asm.specs.evm_asm_parser.declared.operand.Number.{Number}
use Rattle.evm_asm.specs.evm_asm_parser.Operands.{Spots, first_operand, other_operands, how_many, counted, is_blank_text, name_in, known, named_register, register_in, labelled, label_in, number_in, integer, ranged, integer_in, immediate_in, offset_in, base_in, address_in, full_address_in, natural, limited, natural_in, upper, upper_in, wrapped, number_datum, label_datum, datum_of, datum_in}
use Rattle.evm_asm.specs.evm_asm_parser.Forms.{Slot, Register, Integer, Natural, Upper, Label, Address, FullAddress, Name, Form, Each, Many, form}
use Rattle.evm_asm.specs.evm_asm_parser.Statements.{StatementReading, name_or_fault, operand_in, operands_in, also, with_data, said, statement_of}
use Rattle.claims_texts.specs.Least.{fault_in, lesser}
use Rattle.claims_texts.specs.HasFault.{IsNoRegister, IsOutside, offset_text, Unknown, Misfit, OutOfRange, SomePlace, SomeOperand, IsNoDatum, IsDatumOutside, HasUnknownRegister, HasMisfit, HasNumberOutside}
use Rattle.evm_asm.specs.evm_asm_parser.declared.statement.Datum.TheVariants as datum

-- the least kind of which H is true, if it is of any
abbrev pub IsLeast : (SourceFaultKind → Type 0) → Option SourceFaultKind → Type 0
IsLeast H None = (kind : SourceFaultKind) → H kind → ⊥
IsLeast H (Some e) = H e × ((kind : SourceFaultKind) → H kind → source_number e ≤ source_number kind)

pub same_least : (H K : SourceFaultKind → Type 0) (o : Option SourceFaultKind) → ((kind : SourceFaultKind) → H kind → K kind) → ((kind : SourceFaultKind) → K kind → H kind) → IsLeast H o → IsLeast K o
same_least H K None to from h = λ kind w. h kind (from kind w)
same_least H K (Some e) to from h = (to e h.0, λ kind w. h.1 kind (from kind w))

lesser_by : (H K : SourceFaultKind → Type 0) (e f : SourceFaultKind) → IsLeast H (Some e) → IsLeast K (Some f) → (t : Bool) → nat_le (source_number e) (source_number f) ≡ t
    → IsLeast (λ kind. H kind ⊎ K kind) (Some (cond t e f))
lesser_by H K e f h k true is =
    let less = leb-true (source_number e) (source_number f) is in
    (inl h.0, λ kind w. ⊎_elim (λ x. h.1 kind x) (λ y. let more = k.1 kind y in omega arith) w)
lesser_by H K e f h k false is =
    let less = leb-false (source_number e) (source_number f) is in
    (inr k.0, λ kind w. ⊎_elim (λ x. let more = h.1 kind x in omega arith) (λ y. k.1 kind y) w)

pub either_least : (H K : SourceFaultKind → Type 0) (o p : Option SourceFaultKind) → IsLeast H o → IsLeast K p → IsLeast (λ kind. H kind ⊎ K kind) (lesser o p)
either_least H K None None h k = λ kind w. ⊎_elim (λ x. h kind x) (λ y. k kind y) w
either_least H K None (Some f) h k = (inr k.0, λ kind w. ⊎_elim (λ x. absurd (h kind x)) (λ y. k.1 kind y) w)
either_least H K (Some e) None h k = (inl h.0, λ kind w. ⊎_elim (λ x. h.1 kind x) (λ y. absurd (k kind y)) w)
either_least H K (Some e) (Some f) h k = lesser_by H K e f h k (nat_le (source_number e) (source_number f)) refl

-- ---- the faults of readings

both_fault : {A B : Type 0} (a : Result A SourceFaultKind) (b : Result B SourceFaultKind) → lesser (fault_in a) (fault_in b) ≡ fault_in (both a b)
unfolding both
both_fault (Ok a) (Ok b) = refl
both_fault (Ok a) (Err f) = refl
both_fault (Err e) (Ok b) = refl
both_fault (Err e) (Err f) = refl

pub also_fault : {A B : Type 0} (a : Result A SourceFaultKind) (b : Result B SourceFaultKind) → lesser (fault_in a) (fault_in b) ≡ fault_in (also a b)
unfolding also
also_fault (Ok a) (Ok b) = refl
also_fault (Ok a) (Err f) = refl
also_fault (Err e) (Ok b) = refl
also_fault (Err e) (Err f) = refl

counted_by : {A : Type 0} (t : Bool) (r : Result A SourceFaultKind) (a : A) → lesser None (cond t None (Some BadOperand)) ≡ fault_in (cond t (Ok a) (Err BadOperand))
counted_by true r a = refl
counted_by false r a = refl

refused_by : {A : Type 0} (t : Bool) (r : Result A SourceFaultKind) (e : SourceFaultKind) → lesser (Some e) (cond t None (Some BadOperand)) ≡ fault_in {A = A} (cond t (Err e) (Err (least e BadOperand)))
refused_by true r e = refl
refused_by false r e = refl

counted_fault : {A : Type 0} (n count : ℕ) (r : Result A SourceFaultKind) → lesser (fault_in r) (cond (count == n) None (Some BadOperand)) ≡ fault_in (counted n count r)
unfolding counted
counted_fault n count (Ok a) = counted_by (count == n) (Ok a) a
counted_fault n count (Err e) = refused_by (count == n) (Err e) e

pub bind_fault : {A B : Type 0} (r : Result A SourceFaultKind) (f : A → B) → fault_in r ≡ fault_in (r >>= λ v. Ok (f v))
bind_fault (Ok a) f = refl
bind_fault (Err e) f = refl

-- ---- unknown names, operands of another kind, and numbers out of range

abbrev pub Three : Type 0 → Type 0 → Type 0 → SourceFaultKind → Type 0
Three u m r UnknownName = u
Three u m r BadOperand = m
Three u m r RangeOfImmediate = r
Three u m r other = ⊥

no_three : (u m r : Type 0) → (u → ⊥) → (m → ⊥) → (r → ⊥) → (kind : SourceFaultKind) → Three u m r kind → ⊥
no_three u m r a b c UnknownName w = a w
no_three u m r a b c BadOperand w = b w
no_three u m r a b c RangeOfImmediate w = c w
no_three u m r a b c kind w = w

least_unknown : (u m r : Type 0) → (kind : SourceFaultKind) → Three u m r kind → 2 ≤ source_number kind
least_unknown u m r UnknownName w = omega arith
least_unknown u m r BadOperand w = omega arith
least_unknown u m r RangeOfImmediate w = omega arith
least_unknown u m r kind w = absurd w

least_misfit : (u m r : Type 0) → (u → ⊥) → (kind : SourceFaultKind) → Three u m r kind → 3 ≤ source_number kind
least_misfit u m r a UnknownName w = absurd (a w)
least_misfit u m r a BadOperand w = omega arith
least_misfit u m r a RangeOfImmediate w = omega arith
least_misfit u m r a kind w = absurd w

least_outside : (u m r : Type 0) → (u → ⊥) → (m → ⊥) → (kind : SourceFaultKind) → Three u m r kind → 4 ≤ source_number kind
least_outside u m r a b UnknownName w = absurd (a w)
least_outside u m r a b BadOperand w = absurd (b w)
least_outside u m r a b RangeOfImmediate w = omega arith
least_outside u m r a b kind w = absurd w

three_to : (u m r u' m' r' : Type 0) → (u → u') → (m → m') → (r → r') → (kind : SourceFaultKind) → Three u m r kind → Three u' m' r' kind
three_to u m r u' m' r' a b c UnknownName w = a w
three_to u m r u' m' r' a b c BadOperand w = b w
three_to u m r u' m' r' a b c RangeOfImmediate w = c w
three_to u m r u' m' r' a b c kind w = absurd w

pub three_same : (u m r u' m' r' : Type 0) (o : Option SourceFaultKind) → (u → u') → (m → m') → (r → r') → (u' → u) → (m' → m) → (r' → r)
    → IsLeast (Three u m r) o → IsLeast (Three u' m' r') o
three_same u m r u' m' r' o a b c x y z h = same_least (Three u m r) (Three u' m' r') o (three_to u m r u' m' r' a b c) (three_to u' m' r' u m r x y z) h

either_three : (u m r u' m' r' : Type 0) (kind : SourceFaultKind) → Three u m r kind ⊎ Three u' m' r' kind → Three (u ⊎ u') (m ⊎ m') (r ⊎ r') kind
either_three u m r u' m' r' UnknownName w = w
either_three u m r u' m' r' BadOperand w = w
either_three u m r u' m' r' RangeOfImmediate w = w
either_three u m r u' m' r' kind w = ⊎_elim (λ x. absurd x) (λ x. absurd x) w

three_either : (u m r u' m' r' : Type 0) (kind : SourceFaultKind) → Three (u ⊎ u') (m ⊎ m') (r ⊎ r') kind → Three u m r kind ⊎ Three u' m' r' kind
three_either u m r u' m' r' UnknownName w = w
three_either u m r u' m' r' BadOperand w = w
three_either u m r u' m' r' RangeOfImmediate w = w
three_either u m r u' m' r' kind w = absurd w

pub three_joined : (u m r u' m' r' : Type 0) (o p : Option SourceFaultKind) → IsLeast (Three u m r) o → IsLeast (Three u' m' r') p → IsLeast (Three (u ⊎ u') (m ⊎ m') (r ⊎ r')) (lesser o p)
three_joined u m r u' m' r' o p h k =
    same_least _ (Three (u ⊎ u') (m ⊎ m') (r ⊎ r')) (lesser o p) (either_three u m r u' m' r') (three_either u m r u' m' r') (either_least (Three u m r) (Three u' m' r') o p h k)

pub fitting_if : (t : Bool) (m : Type 0) → (t ≡ true → m → ⊥) → (t ≡ false → m) → IsLeast (Three ⊥ m ⊥) (cond t None (Some BadOperand))
fitting_if true m a b = no_three ⊥ m ⊥ (λ x. x) (a refl) (λ x. x)
fitting_if false m a b = (b refl, least_misfit ⊥ m ⊥ (λ x. x))

-- ---- one operand

module _ (text : List ℕ) where
  known_least : (name : List ℕ) → name_in text ≡ Some name → (o : Option ℕ) → register_named name ≡ o → IsLeast (Three (IsNoRegister text) (name_in text ≡ None) ⊥) (fault_in (known o))
  known_least name is (Some r) e =
      no_three (IsNoRegister text) (name_in text ≡ None) ⊥
      (λ u. let both : ◌≡◌ {A = Option (List ℕ)} (Some name) (Some u.0) = sym is ∙ u.1 in let same : name ≡ u.0 = cc in let wrong : ◌≡◌ {A = Option ℕ} (Some r) None = sym e ∙ ap register_named same ∙ u.2 in cc)
      (λ m. cc) (λ x. x)
  known_least name is None e = ((name, is, e), least_unknown (IsNoRegister text) (name_in text ≡ None) ⊥)

  named_least : (o : Option (List ℕ)) → name_in text ≡ o → IsLeast (Three (IsNoRegister text) (name_in text ≡ None) ⊥) (fault_in (named_register o))
  named_least (Some name) e = known_least name e (register_named name) refl
  named_least None e = (e, least_misfit (IsNoRegister text) (name_in text ≡ None) ⊥ (λ u. let wrong : ◌≡◌ {A = Option (List ℕ)} None (Some u.0) = sym e ∙ u.1 in cc))

  register_least : IsLeast (Three (IsNoRegister text) (name_in text ≡ None) ⊥) (fault_in (register_in text))
  unfolding register_in
  register_least = named_least (name_in text) refl

  labelled_least : (labels : Spots) (o : Option (List ℕ)) → name_in text ≡ o → IsLeast (Three ⊥ (name_in text ≡ None) ⊥) (fault_in (labelled labels o))
  labelled_least labels (Some name) e = no_three ⊥ (name_in text ≡ None) ⊥ (λ x. x) (λ m. cc) (λ x. x)
  labelled_least labels None e = (e, least_misfit ⊥ (name_in text ≡ None) ⊥ (λ x. x))

  label_least : (labels : Spots) → IsLeast (Three ⊥ (name_in text ≡ None) ⊥) (fault_in (label_in labels text))
  unfolding label_in
  label_least labels = labelled_least labels (name_in text) refl

  is_named_least : (o : Option (List ℕ)) → name_in text ≡ o → IsLeast (Three ⊥ (name_in text ≡ None) ⊥) (fault_in (name_or_fault o))
  is_named_least (Some name) e = no_three ⊥ (name_in text ≡ None) ⊥ (λ x. x) (λ m. cc) (λ x. x)
  is_named_least None e = (e, least_misfit ⊥ (name_in text ≡ None) ⊥ (λ x. x))

  module _ (below above : ℕ) where
    abbrev NumberFault : SourceFaultKind → Type 0
    NumberFault kind = Three ⊥ (number_in text ≡ None) (IsOutside below above text) kind

    no_number : number_in text ≡ None → IsLeast (Three ⊥ (number_in text ≡ None) (IsOutside below above text)) (Some BadOperand)
    no_number e = (e, least_misfit ⊥ (number_in text ≡ None) (IsOutside below above text) (λ x. x))

    module _ (n : Number) (is : number_in text ≡ Some n) where
      some_number : number_in text ≡ None → ⊥
      some_number e = let wrong : ◌≡◌ {A = Option Number} (Some n) None = sym is ∙ e in cc

      outside : IsOutside below above text → ((n.negative ≡ true) × (below < n.size)) ⊎ ((n.negative ≡ false) × (above < n.size))
      outside o =
          let both : ◌≡◌ {A = Option Number} (Some o.0) (Some n) = sym o.1 ∙ is in
          let same : o.0 ≡ n = cc in
          subst (λ (m : Number). ((m.negative ≡ true) × (below < m.size)) ⊎ ((m.negative ≡ false) × (above < m.size))) same o.2

      within_least : {A : Type 0} (x y : A) (low high negative : Bool) → n.negative ≡ negative
          → (low ≡ true → n.size ≤ below) → (low ≡ false → below < n.size) → (high ≡ true → n.size ≤ above) → (high ≡ false → above < n.size)
          → IsLeast (Three ⊥ (number_in text ≡ None) (IsOutside below above text)) (fault_in (cond negative (cond low (Ok x) (Err RangeOfImmediate)) (cond high (Ok y) (Err RangeOfImmediate))))
      within_least x y true high true e a b c d =
          no_three ⊥ _ _ (λ z. z) some_number
          (λ o. ⊎_elim (λ p. let le = a refl in let lt = p.1 in omega arith) (λ p. let wrong : true ≡ false = sym e ∙ p.0 in cc) (outside o))
      within_least x y false high true e a b c d = ((n, is, inl (e, b refl)), least_outside ⊥ _ _ (λ z. z) some_number)
      within_least x y low true false e a b c d =
          no_three ⊥ _ _ (λ z. z) some_number
          (λ o. ⊎_elim (λ p. let wrong : false ≡ true = sym e ∙ p.0 in cc) (λ p. let le = c refl in let lt = p.1 in omega arith) (outside o))
      within_least x y low false false e a b c d = ((n, is, inr (e, d refl)), least_outside ⊥ _ _ (λ z. z) some_number)

number_least : {A : Type 0} (text : List ℕ) (below above : ℕ) (f : Number → Result A SourceFaultKind) (r : Option Number → Result A SourceFaultKind)
    → ((n : Number) → r (Some n) ≡ f n) → r None ≡ Err BadOperand
    → ((n : Number) → number_in text ≡ Some n → IsLeast (Three ⊥ (number_in text ≡ None) (IsOutside below above text)) (fault_in (f n)))
    → IsLeast (Three ⊥ (number_in text ≡ None) (IsOutside below above text)) (fault_in (r (number_in text)))
number_least text below above f r some none least = by (number_in text) refl
  where
    by : (o : Option Number) → number_in text ≡ o → IsLeast (Three ⊥ (number_in text ≡ None) (IsOutside below above text)) (fault_in (r o))
    by (Some n) e = subst (λ x. IsLeast (Three ⊥ (number_in text ≡ None) (IsOutside below above text)) (fault_in x)) (sym (some n)) (least n e)
    by None e = subst (λ x. IsLeast (Three ⊥ (number_in text ≡ None) (IsOutside below above text)) (fault_in x)) (sym none) (no_number text below above e)

integer_least : (text : List ℕ) (below above : ℕ) → IsLeast (Three ⊥ (number_in text ≡ None) (IsOutside below above text)) (fault_in (integer_in below above text))
unfolding integer_in integer
integer_least text below above =
    number_least text below above (integer below above) (ranged below above) (λ n. refl) refl
    (λ n e. within_least text below above n e _ _ (nat_le n.size below) (nat_le n.size above) n.negative refl
    (λ h. leb-true _ _ h) (λ h. leb-false _ _ h) (λ h. leb-true _ _ h) (λ h. leb-false _ _ h))

zero_if : (n : ℕ) (t : Bool) → (n == 0) ≡ t → t ≡ true → n ≤ 0
zero_if n t e h = let is : n ≡ 0 = eqb-true n 0 (e ∙ h) in omega arith

more_if : (n : ℕ) (t : Bool) → (n == 0) ≡ t → t ≡ false → 0 < n
more_if n t e h = let is : n ≢ 0 = eqb-false n 0 (e ∙ h) in above n is
  where
    above : (n : ℕ) → n ≢ 0 → 0 < n
    above zero h = absurd (h refl)
    above (suc n) h = omega arith

natural_least : (text : List ℕ) (above : ℕ) → IsLeast (Three ⊥ (number_in text ≡ None) (IsOutside 0 above text)) (fault_in (natural_in above text))
unfolding natural_in natural
natural_least text above =
    number_least text 0 above (natural above) (limited above) (λ n. refl) refl
    (λ n e. within_least text 0 above n e _ _ (n.size == 0) (nat_le n.size above) n.negative refl
    (λ h. zero_if n.size _ refl h) (λ h. more_if n.size _ refl h) (λ h. leb-true _ _ h) (λ h. leb-false _ _ h))

upper_least : (text : List ℕ) → IsLeast (Three ⊥ (number_in text ≡ None) (IsOutside 0 1048575 text)) (fault_in (upper_in text))
unfolding upper_in
upper_least text =
    subst (IsLeast (Three ⊥ (number_in text ≡ None) (IsOutside 0 1048575 text))) (bind_fault (natural_in 1048575 text) upper) (natural_least text 1048575)

-- ---- addresses

pub by_test : {A : Type 0} (H : SourceFaultKind → Type 0) (t : Bool) (r s : Result A SourceFaultKind) → (t ≡ true → IsLeast H (fault_in r)) → (t ≡ false → IsLeast H (fault_in s)) → IsLeast H (fault_in (cond t r s))
by_test H true r s a b = a refl
by_test H false r s a b = b refl

pub clash : (t : Bool) → t ≡ true → t ≡ false → ⊥
clash t a b = let wrong : true ≡ false = sym a ∙ b in cc

offset_least : (text : List ℕ)
    → IsLeast (Three ⊥ ((is_blank_text text ≡ false) × (number_in text ≡ None)) ((is_blank_text text ≡ false) × IsOutside 2048 2047 text)) (fault_in (offset_in text))
unfolding offset_in immediate_in
offset_least text =
    by_test _ (is_blank_text text) _ _ (λ e. no_three ⊥ _ _ (λ x. x) (λ m. clash _ e m.0) (λ o. clash _ e o.0))
    (λ e. three_same ⊥ _ _ ⊥ _ _ _ (λ x. x) (λ m. (e, m)) (λ o. (e, o)) (λ x. x) (λ m. m.1) (λ o. o.1) (integer_least text 2048 2047))

-- what stands behind a '('
closes : List ℕ → Bool
closes text = has_byte right_parenthesis text && is_blank_text (after right_parenthesis text)

base_least : (text : List ℕ)
    → IsLeast (Three ((closes text ≡ true) × IsNoRegister (before right_parenthesis text)) ((closes text ≡ false) ⊎ (name_in (before right_parenthesis text) ≡ None)) ⊥) (fault_in (base_in text))
unfolding base_in closes
base_least text =
    by_test _ (has_byte right_parenthesis text && is_blank_text (after right_parenthesis text)) _ _
    (λ e. three_same _ _ ⊥ _ _ ⊥ _ (λ u. (e, u)) (λ m. inr m) (λ x. x) (λ u. u.1) (λ m. ⊎_elim (λ f. absurd (clash _ e f)) (λ n. n) m) (λ x. x) (register_least (before right_parenthesis text)))
    (λ e. (inl e, least_misfit _ _ ⊥ (λ u. clash _ u.0 e)))

address_least : (text : List ℕ) → IsLeast (Three (Unknown Address text) (Misfit Address text) (OutOfRange Address text)) (fault_in (address_in text))
unfolding address_in closes
address_least text =
    by_test _ (has_byte left_parenthesis text) _ _
    (λ e. subst (IsLeast (Three (Unknown Address text) (Misfit Address text) (OutOfRange Address text))) (both_fault (offset_in (offset_text text)) (base_in (after left_parenthesis text)))
    (three_same _ _ _ _ _ _ _
    (λ u. ⊎_elim (λ x. absurd x) (λ y. (e, y.0, y.1)) u)
    (λ m. ⊎_elim (λ x. inr (inr (inr x))) (λ y. ⊎_elim (λ f. inr (inl f)) (λ n. inr (inr (inl n))) y) m)
    (λ o. ⊎_elim (λ x. (e, x.0, x.1)) (λ y. absurd y) o)
    (λ u. inr (u.1, u.2))
    (λ m. ⊎_elim (λ f. absurd (clash _ e f)) (λ m. ⊎_elim (λ f. inr (inl f)) (λ m. ⊎_elim (λ n. inr (inr n)) (λ x. inl x) m) m) m)
    (λ o. inl (o.1, o.2))
    (three_joined _ _ _ _ _ _ _ _ (offset_least (offset_text text)) (base_least (after left_parenthesis text)))))
    (λ e. (inl e, least_misfit _ _ _ (λ u. clash _ u.0 e)))

full_address_least : (text : List ℕ) → IsLeast (Three (Unknown FullAddress text) (Misfit FullAddress text) (OutOfRange FullAddress text)) (fault_in (full_address_in text))
unfolding full_address_in closes immediate_in
full_address_least text =
    by_test _ (has_byte left_parenthesis text) _ _
    (λ e. subst (IsLeast (Three (Unknown FullAddress text) (Misfit FullAddress text) (OutOfRange FullAddress text))) (both_fault (integer_in 2048 2047 (offset_text text)) (base_in (after left_parenthesis text)))
    (three_same _ _ _ _ _ _ _
    (λ u. ⊎_elim (λ x. absurd x) (λ y. (e, y.0, y.1)) u)
    (λ m. ⊎_elim (λ x. inr (inr (inr x))) (λ y. ⊎_elim (λ f. inr (inl f)) (λ n. inr (inr (inl n))) y) m)
    (λ o. ⊎_elim (λ x. (e, x)) (λ y. absurd y) o)
    (λ u. inr (u.1, u.2))
    (λ m. ⊎_elim (λ f. absurd (clash _ e f)) (λ m. ⊎_elim (λ f. inr (inl f)) (λ m. ⊎_elim (λ n. inr (inr n)) (λ x. inl x) m) m) m)
    (λ o. inl o.1)
    (three_joined _ _ _ _ _ _ _ _ (integer_least (offset_text text) 2048 2047) (base_least (after left_parenthesis text)))))
    (λ e. (inl e, least_misfit _ _ _ (λ u. clash _ u.0 e)))

-- ---- the operands of a form

operand_least : (labels : Spots) (slot : Slot) (text : List ℕ) → IsLeast (Three (Unknown slot text) (Misfit slot text) (OutOfRange slot text)) (fault_in (operand_in labels slot text))
operand_least labels Register text = register_least text
operand_least labels (Integer below above) text = integer_least text below above
operand_least labels (Natural above) text = natural_least text above
operand_least labels Upper text = upper_least text
operand_least labels Label text = label_least text labels
operand_least labels Address text = address_least text
operand_least labels FullAddress text = full_address_least text
operand_least labels Name text = is_named_least text (name_in text) refl

operands_least : (labels : Spots) (slots : List Slot) (text : List ℕ)
    → IsLeast (Three (SomePlace Unknown slots text) (SomePlace Misfit slots text) (SomePlace OutOfRange slots text)) (fault_in (operands_in labels slots text))
operands_least labels [] text = no_three ⊥ ⊥ ⊥ (λ x. x) (λ x. x) (λ x. x)
operands_least labels (slot ∷ []) text =
    three_same _ _ _ _ _ _ _ (λ x. inl x) (λ x. inl x) (λ x. inl x)
    (λ x. ⊎_elim (λ y. y) (λ y. absurd y) x) (λ x. ⊎_elim (λ y. y) (λ y. absurd y) x) (λ x. ⊎_elim (λ y. y) (λ y. absurd y) x)
    (operand_least labels slot (first_operand text))
operands_least labels (slot ∷ next ∷ slots) text =
    subst (IsLeast (Three (SomePlace Unknown (slot ∷ next ∷ slots) text) (SomePlace Misfit (slot ∷ next ∷ slots) text) (SomePlace OutOfRange (slot ∷ next ∷ slots) text)))
    (both_fault (operand_in labels slot (first_operand text)) (operands_in labels (next ∷ slots) (other_operands text)))
    (three_joined _ _ _ _ _ _ _ _ (operand_least labels slot (first_operand text)) (operands_least labels (next ∷ slots) (other_operands text)))

label_datum_least : (labels : Spots) (width : DataWidth) (text : List ℕ) → number_in text ≡ None → IsLeast (Three ⊥ (IsNoDatum width text) (IsDatumOutside width text)) (fault_in (label_datum labels width text))
label_datum_least labels Byte text e = (e, least_misfit ⊥ _ _ (λ x. x))
label_datum_least labels Word text e =
    three_same ⊥ _ ⊥ ⊥ _ _ _ (λ x. x) (λ m. (e, m)) (λ x. absurd x) (λ x. x) (λ m. m.1) (λ o. let wrong : ◌≡◌ {A = Option Number} (Some o.0) None = sym o.1 ∙ e in cc) (label_least text labels)
label_datum_least labels Dword text e =
    three_same ⊥ _ ⊥ ⊥ _ _ _ (λ x. x) (λ m. (e, m)) (λ x. absurd x) (λ x. x) (λ m. m.1) (λ o. let wrong : ◌≡◌ {A = Option Number} (Some o.0) None = sym o.1 ∙ e in cc) (label_least text labels)

wrapped_least : (text : List ℕ) (below above : ℕ) (n : Number) → number_in text ≡ Some n → IsLeast (Three ⊥ (number_in text ≡ None) (IsOutside below above text)) (fault_in (wrapped below above n))
unfolding wrapped
wrapped_least text below above n e =
    within_least text below above n e _ _ (nat_le n.size below) (nat_le n.size above) n.negative refl
    (λ h. leb-true _ _ h) (λ h. leb-false _ _ h) (λ h. leb-true _ _ h) (λ h. leb-false _ _ h)

number_datum_least : (width : DataWidth) (text : List ℕ) (n : Number) → number_in text ≡ Some n → IsLeast (Three ⊥ (IsNoDatum width text) (IsDatumOutside width text)) (fault_in (number_datum width n))
number_datum_least Byte text n e = wrapped_least text 128 255 n e
number_datum_least Word text n e =
    three_same ⊥ _ _ ⊥ _ _ _ (λ x. x) (λ m. let wrong : ◌≡◌ {A = Option Number} (Some n) None = sym e ∙ m in cc) (λ o. o) (λ x. x) (λ m. m.0) (λ o. o) (wrapped_least text 2147483648 4294967295 n e)
number_datum_least Dword text n e =
    three_same ⊥ _ _ ⊥ _ _ _ (λ x. x) (λ m. let wrong : ◌≡◌ {A = Option Number} (Some n) None = sym e ∙ m in cc) (λ o. o) (λ x. x) (λ m. m.0) (λ o. o) (wrapped_least text 9223372036854775808 18446744073709551615 n e)

datum_by : (labels : Spots) (width : DataWidth) (text : List ℕ) (o : Option Number) → number_in text ≡ o → IsLeast (Three ⊥ (IsNoDatum width text) (IsDatumOutside width text)) (fault_in (datum_of labels width text o))
datum_by labels width text (Some n) e = subst (IsLeast (Three ⊥ (IsNoDatum width text) (IsDatumOutside width text))) (bind_fault (number_datum width n) (λ v. datum.Value v)) (number_datum_least width text n e)
datum_by labels width text None e = subst (IsLeast (Three ⊥ (IsNoDatum width text) (IsDatumOutside width text))) (bind_fault (label_datum labels width text) (λ s. datum.Label s)) (label_datum_least labels width text e)

datum_least : (labels : Spots) (width : DataWidth) (text : List ℕ) → IsLeast (Three ⊥ (IsNoDatum width text) (IsDatumOutside width text)) (fault_in (datum_in labels width text))
unfolding datum_in
datum_least labels width text = datum_by labels width text (number_in text) refl

regrouped : {A B C : Type 0} → (A ⊎ B) ⊎ C → A ⊎ (B ⊎ C)
regrouped h = ⊎_elim (λ x. ⊎_elim (λ a. inl a) (λ b. inr (inl b)) x) (λ c. inr (inr c)) h

grouped : {A B C : Type 0} → A ⊎ (B ⊎ C) → (A ⊎ B) ⊎ C
grouped h = ⊎_elim (λ a. inl (inl a)) (λ x. ⊎_elim (λ b. inl (inr b)) (λ c. inr c) x) h

data_least : (labels : Spots) (width : DataWidth) (n : ℕ) (reading : StatementReading) (text : List ℕ) (m r : Type 0) → IsLeast (Three ⊥ m r) (fault_in reading)
    → IsLeast (Three ⊥ (m ⊎ SomeOperand (IsNoDatum width) n text) (r ⊎ SomeOperand (IsDatumOutside width) n text)) (fault_in (with_data labels width n reading text))
unfolding with_data
data_least labels width zero reading text m r h =
    three_same ⊥ m r ⊥ _ _ _ (λ x. x) (λ x. inl x) (λ x. inl x) (λ x. x) (λ x. ⊎_elim (λ y. y) (λ y. absurd y) x) (λ x. ⊎_elim (λ y. y) (λ y. absurd y) x) h
data_least labels width (suc n) reading text m r h =
    let one = subst (IsLeast (Three (⊥ ⊎ ⊥) (m ⊎ IsNoDatum width (first_operand text)) (r ⊎ IsDatumOutside width (first_operand text)))) (also_fault reading (datum_in labels width (first_operand text)))
    (three_joined ⊥ m r ⊥ _ _ _ _ h (datum_least labels width (first_operand text))) in
    let first = three_same (⊥ ⊎ ⊥) _ _ ⊥ (m ⊎ IsNoDatum width (first_operand text)) (r ⊎ IsDatumOutside width (first_operand text)) _ (λ x. ⊎_elim (λ y. y) (λ y. y) x) (λ x. x) (λ x. x) (λ x. absurd x) (λ x. x) (λ x. x) one in
    three_same ⊥ _ _ ⊥ _ _ _ (λ x. x) regrouped regrouped (λ x. x) grouped grouped
    (data_least labels width n (also reading (datum_in labels width (first_operand text))) (other_operands text) (m ⊎ IsNoDatum width (first_operand text)) (r ⊎ IsDatumOutside width (first_operand text)) first)

said_least : (labels : Spots) (f : Form) (text : List ℕ) → IsLeast (Three (HasUnknownRegister f text) (HasMisfit f text) (HasNumberOutside f text)) (fault_in (said labels f text))
unfolding said
said_least labels (Each slots makes) text =
    subst (IsLeast (Three (SomePlace Unknown slots text) ((how_many text ≢ length slots) ⊎ SomePlace Misfit slots text) (SomePlace OutOfRange slots text)))
    (counted_fault (length slots) (how_many text) (operands_in labels slots text) ∙ bind_fault (counted (length slots) (how_many text) (operands_in labels slots text)) makes)
    (three_same _ _ _ _ _ _ _ (λ u. ⊎_elim (λ x. x) (λ x. absurd x) u) (λ m. ⊎_elim (λ x. inr x) (λ x. inl x) m) (λ o. ⊎_elim (λ x. x) (λ x. absurd x) o)
    (λ x. inl x) (λ m. ⊎_elim (λ x. inr x) (λ x. inl x) m) (λ x. inl x)
    (three_joined _ _ _ ⊥ (how_many text ≢ length slots) ⊥ _ _ (operands_least labels slots text)
    (fitting_if (how_many text == length slots) (how_many text ≢ length slots) (λ e n. n (eqb-true _ _ e)) (λ e. eqb-false _ _ e))))
said_least labels (Many width makes) text =
    by_test _ (how_many text == 0) _ _
    (λ e. (inl (eqb-true _ _ e), least_misfit ⊥ _ _ (λ x. x)))
    (λ e. three_same ⊥ _ _ ⊥ _ _ _ (λ x. x) (λ m. ⊎_elim (λ x. absurd x) (λ x. inr x) m) (λ o. ⊎_elim (λ x. absurd x) (λ x. x) o)
    (λ x. x) (λ m. ⊎_elim (λ z. absurd (eqb-false _ _ e z)) (λ x. inr x) m) (λ x. inr x)
    (data_least labels width (how_many text) (Ok (makes (how_many text))) text ⊥ ⊥ (no_three ⊥ ⊥ ⊥ (λ x. x) (λ x. x) (λ x. x))))

-- The fault of a statement's reading is the least of what is wrong with its operands.
pub statement_least : (labels : Spots) (m : Mnemonic) (text : List ℕ)
    → IsLeast (Three (HasUnknownRegister (form (how_many text) m) text) (HasMisfit (form (how_many text) m) text) (HasNumberOutside (form (how_many text) m) text)) (fault_in (statement_of labels m text))
unfolding statement_of
statement_least labels m text = said_least labels (form (how_many text) m) text
