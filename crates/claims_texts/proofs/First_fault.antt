-- The first line with a fault is returned, with the least of its faults; else the source means something.
use Rattle.std.proofs.Common.{◌≡◌, ℕ, zero, suc, List, Result, Ok, Err, ◌+◌, refl, ◌∙◌, ◌<◌, ◌≤◌, Bool, true, false, cond, ◌==◌, [], ◌∷◌, ◌++◌, length, take, Option, Some, None, ap, sym, subst, arith, ◌↔◌, ⊎_elim, append_assoc, length-append}
use Rattle.std.specs.List.{slice_get}
use Rattle.std.specs.Option.{option_and_then, option_map}
use Rattle.std.proofs.lemmas.Bool.{eqb-false, cases_lt}
use Rattle.std.proofs.lemmas.Bool.Decides.{nat_tests}
use Rattle.std.proofs.lemmas.Option.{slice_get_past}
use Rattle.std.proofs.Math.Seq.{take-append_seam}
use Rattle.std.specs.Prelude.{IsOk}
use Rattle.std.proofs.lemmas.List.{append-nil}
use Rattle.evm_asm.specs.evm_asm_lexer.declared.source_fault.SourceFaultKind.{SourceFaultKind}
use Rattle.evm_asm.specs.evm_asm_lexer.declared.mnemonic.Section.{Section as Part}
use Rattle.evm_asm.specs.evm_asm_lexer.declared.mnemonic.DataWidth.{DataWidth}
use Rattle.evm_asm.specs.evm_asm_lexer.Faults.{◌>>=◌, least}
use Rattle.evm_asm.specs.evm_asm_lexer.declared.source_fault.SourceFault.{SourceFault}
use Rattle.evm_asm.specs.evm_asm_parser.declared.statement.Statement.{Statement}
use Rattle.evm_asm.specs.evm_asm_parser.declared.statement.Statement.TheVariants.{Numbers, Space, Align}
use Rattle.evm_asm.specs.evm_asm_parser.Operands.{Spots, first_operand, other_operands}
use Rattle.evm_asm.specs.declared.item.Placed.{Placed}
use Rattle.evm_asm.specs.declared.place.SectionPlace.{SectionPlace}
use Rattle.evm_asm.specs.Places.{place_behind, statement_in}
use Rattle.evm_asm.specs.Items.{text_base, expanded, value_in, number_pushed, with_numbers, operands, with_statement, statement_meant, line_meant, meaning_or_fault, stop_at, unless_stopped, line_or_fault, layout_of, lines_meant, and_then, meaning_of}
use Rattle.claims_texts.specs.Least.{fault_in, lesser, line_fault, fault_at, IsFirstFault}
use Rattle.evm_asm.specs.Sources.{source_lines, code_of, statement_text, line_laid, first_fault, Laid, nothing_laid, with_line_laid, laid, source_start}
use Rattle.claims_texts.specs.FirstFault.{RefusedWithTheFirst}
use Rattle.evm_asm.proofs.Statements_without_labels.{Like, values, faults, Whatever}
use Rattle.evm_asm.proofs.Placed_where_laid.{laid-append, slice_get-seam, Line, line_of_told, same_next, laid_lines, laid_one_more}
use Rattle.claims_texts.proofs.Items_worded.{refused_as_meant}

-- ---- the fault of a line doesn't depend on what stands before it in the output

-- one reading twice, with two continuations that have the same faults
each_goes_on : {A B : Type 0} (r : Result A SourceFaultKind) (f g : A → Result B SourceFaultKind) → ((x : A) → Like Whatever (f x) (g x)) → Like Whatever (r >>= f) (r >>= g)
each_goes_on (Ok x) f g h = h x
each_goes_on (Err e) f g h = faults e

goes_on : {A B : Type 0} (r s : Result A SourceFaultKind) (f g : A → Result B SourceFaultKind) → Like Whatever r s → ((x y : A) → Like Whatever (f x) (g y)) → Like Whatever (r >>= f) (s >>= g)
goes_on _ _ f g (values x y h) k = k x y
goes_on _ _ f g (faults e) k = faults e

module _ (labels : Spots) (size : ℕ) where
  number_same : (part : Part) (width : DataWidth) (text : List ℕ) (a b : List Placed) → Like Whatever (number_pushed labels size part width text a) (number_pushed labels size part width text b)
  unfolding number_pushed
  number_same part width text a b = each_goes_on (value_in labels size width text) _ _ (λ v. values _ _ tt)

  numbers_same : (part : Part) (width : DataWidth) (n : ℕ) (text : List ℕ) (a b : List Placed) → Like Whatever (with_numbers labels size part width n text a) (with_numbers labels size part width n text b)
  unfolding with_numbers
  numbers_same part width zero text a b = values a b tt
  numbers_same part width (suc n) text a b =
      goes_on _ _ (λ items. with_numbers labels size part width n (other_operands text) items) (λ items. with_numbers labels size part width n (other_operands text) items)
      (number_same part width (first_operand text) a b) (λ x y. numbers_same part width n (other_operands text) x y)

  statement_same : (m n : ℕ) (place : SectionPlace) (text : List ℕ) (s : Statement) (a b : List Placed) → Like Whatever (with_statement labels size m place text s a) (with_statement labels size n place text s b)
  unfolding with_statement
  statement_same m n place text (Numbers width count) a b = numbers_same place.section width count (operands text) a b
  statement_same m n place text (Space k) a b = values _ _ tt
  statement_same m n place text (Align power) a b = values _ _ tt
  statement_same m n place text s a b = each_goes_on (expanded size (text_base + place.text_size) s) _ _ (λ e. values _ _ tt)

  line_same : (m n : ℕ) (place : SectionPlace) (text : List ℕ) (a b : List Placed) → Like Whatever (line_meant labels size m place text a) (line_meant labels size n place text b)
  unfolding line_meant statement_meant
  line_same m n place text a b =
      each_goes_on (statement_in labels place text) _ _
      (λ s. goes_on _ _ _ _ (statement_same m n place text s a b) (λ x y. each_goes_on (place_behind place s) _ _ (λ next. values _ _ tt)))

alike_fault : {A : Type 0} (r s : Result A SourceFaultKind) → Like Whatever r s → fault_in r ≡ fault_in s
alike_fault _ _ (values a b h) = refl
alike_fault _ _ (faults e) = refl

pub line_fault_same : (labels : Spots) (size m n : ℕ) (place : SectionPlace) (text : List ℕ) (a b : List Placed) → fault_in (line_meant labels size m place text a) ≡ fault_in (line_meant labels size n place text b)
line_fault_same labels size m n place text a b = alike_fault _ _ (line_same labels size m n place text a b)

-- ---- the first line with a fault is told, with the least of its faults

same_number : (m n : ℕ) (t : Bool) → (m == n) ≡ t → m ≡ n → t ≡ true
same_number m n true e h = refl
same_number m n false e h = absurd (eqb-false m n e h)

other_number : (m n : ℕ) (t : Bool) → (m == n) ≡ t → m < n → t ≡ false
other_number m n true e h = absurd (grind (arith, nat_tests))
other_number m n false e h = refl

-- the fault, if there is one, is of a line behind the first m
IsAfter : ℕ → Option SourceFault → Type 0
IsAfter m first = (f : SourceFault) → first ≡ Some f → m < f.line

after_one : (m : ℕ) (first : Option SourceFault) (n : ℕ) (kind : Option SourceFaultKind) → m ≤ n → IsAfter m first → IsAfter m (first_fault first (n + 1) kind)
unfolding IsAfter
after_one m (Some g) n kind le h = h
after_one m None n (Some k) le h = λ f e. let same : ◌≡◌ {A = SourceFault} (record { line = n + 1; kind = k }) f = cc in let line : n + 1 ≡ f.line = ap (λ (g : SourceFault). g.line) same in omega arith
after_one m None n None le h = λ f e. cc

laid_after : (m : ℕ) (s : Laid) (lines : List (List ℕ)) → m ≤ s.lines → IsAfter m s.first → IsAfter m (laid s lines).first
unfolding laid with_line_laid
laid_after m s [] le h = h
laid_after m s (line ∷ lines) le h = laid_after m (with_line_laid s line) lines (omega arith) (after_one m s.first s.lines (line_laid s.labels s.place (code_of line)).1.1 le h)

laid_stays : (s : Laid) (lines : List (List ℕ)) (f : SourceFault) → s.first ≡ Some f → (laid s lines).first ≡ Some f
unfolding laid with_line_laid
laid_stays s [] f h = h
laid_stays s (line ∷ lines) f h = laid_stays (with_line_laid s line) lines f (ap (λ (o : Option SourceFault). first_fault o (s.lines + 1) (line_laid s.labels s.place (code_of line)).1.1) h)

-- a fault of line n
abbrev fault_of_line : ℕ → Option SourceFaultKind → Option SourceFault
fault_of_line n kind = option_map (λ k. record { line = n; kind = k }) kind

none_here : (n : ℕ) (first : Option SourceFault) → IsAfter n first → stop_at first n ≡ None
unfolding IsAfter
none_here n None h = refl
none_here n (Some f) h =
    let less : n < f.line = h f refl in
    let t : (f.line == n) ≡ false = grind (arith, nat_tests) in
    ap (λ (t : Bool). cond t (Some f) None) t

-- the fault that laying out the whole found in this line is the one that laying out the line finds
stops_here : (s : Laid) (line : List ℕ) (rest : List (List ℕ)) (kind : Option SourceFaultKind) → (line_laid s.labels s.place (code_of line)).1.1 ≡ kind → s.first ≡ None
    → stop_at (laid (with_line_laid s line) rest).first (s.lines + 1) ≡ fault_of_line (s.lines + 1) kind
unfolding with_line_laid IsAfter
stops_here s line rest None e none =
    none_here (s.lines + 1) _
    (laid_after (s.lines + 1) (with_line_laid s line) rest (omega arith)
    (λ f h. let clean : (with_line_laid s line).first ≡ None = ap (λ (o : Option SourceFault). first_fault o (s.lines + 1) (line_laid s.labels s.place (code_of line)).1.1) none ∙ ap (λ (k : Option SourceFaultKind). first_fault None (s.lines + 1) k) e in cc))
stops_here s line rest (Some kind) e none =
    let f : SourceFault = record { line = s.lines + 1; kind = kind } in
    let found : (with_line_laid s line).first ≡ Some f = ap (λ (o : Option SourceFault). first_fault o (s.lines + 1) (line_laid s.labels s.place (code_of line)).1.1) none ∙ ap (λ (k : Option SourceFaultKind). first_fault None (s.lines + 1) k) e in
    ap (λ (o : Option SourceFault). stop_at o (s.lines + 1)) (laid_stays (with_line_laid s line) rest f found)
    ∙ ap (λ (t : Bool). cond t (Some f) None) (same_number (s.lines + 1) (s.lines + 1) _ refl refl)

-- what is told of a line depends on the fault that was found in it alone
told_by : {A : Type 0} (f : SourceFault) (n : ℕ) (t : Bool) (r : Result A SourceFaultKind) → (f.line == n) ≡ t → meaning_or_fault (Some f) n r ≡ meaning_or_fault (cond t (Some f) None) n r
told_by f n true r e = refl
told_by f n false (Ok a) e = ap (λ (t : Bool). unless_stopped (cond t (Some f) None) a) e
told_by {A} f n false (Err kind) e = ap (λ (t : Bool). let x : Result A SourceFault = Err (record { line = n; kind = cond t (least f.kind kind) kind }) in x) e

told_same : {A : Type 0} (first : Option SourceFault) (n : ℕ) (r : Result A SourceFaultKind) → meaning_or_fault first n r ≡ meaning_or_fault (stop_at first n) n r
told_same None n r = refl
told_same (Some f) n r = told_by f n (f.line == n) r refl

told_stopped : {A : Type 0} (f : SourceFault) (c : SourceFaultKind) (n : ℕ) (t : Bool) (a : A) → t ≡ true → ◌≡◌ {A = Result A SourceFault} (unless_stopped (cond t (Some (record { line = n; kind = c })) None) a) (Err f)
    → (f.line ≡ n) × (◌≡◌ {A = Option SourceFaultKind} (Some c) (Some f.kind))
told_stopped f c n true a e h = let same : ◌≡◌ {A = SourceFault} (record { line = n; kind = c }) f = cc in (sym (ap (λ (g : SourceFault). g.line) same), ap (λ (g : SourceFault). Some g.kind) same)
told_stopped f c n false a e h = cc

told_both : {A : Type 0} (f : SourceFault) (c k : SourceFaultKind) (n : ℕ) (t : Bool) → t ≡ true → ◌≡◌ {A = Result A SourceFault} (Err (record { line = n; kind = cond t (least c k) k })) (Err f)
    → (f.line ≡ n) × (◌≡◌ {A = Option SourceFaultKind} (Some (least c k)) (Some f.kind))
told_both f c k n true e h = let same : ◌≡◌ {A = SourceFault} (record { line = n; kind = least c k }) f = cc in (sym (ap (λ (g : SourceFault). g.line) same), ap (λ (g : SourceFault). Some g.kind) same)
told_both f c k n false e h = cc

-- the fault that is told of a line is the least of the two
told_fault : {A : Type 0} (n : ℕ) (kind : Option SourceFaultKind) (r : Result A SourceFaultKind) (f : SourceFault) → meaning_or_fault (fault_of_line n kind) n r ≡ Err f → (f.line ≡ n) × (lesser kind (fault_in r) ≡ Some f.kind)
told_fault n None (Ok a) f h = cc
told_fault n None (Err k) f h = let same : ◌≡◌ {A = SourceFault} (record { line = n; kind = k }) f = cc in (sym (ap (λ (g : SourceFault). g.line) same), ap (λ (g : SourceFault). Some g.kind) same)
told_fault n (Some c) (Ok a) f h = told_stopped f c n (n == n) a (same_number n n _ refl refl) h
told_fault {A} n (Some c) (Err k) f h = told_both {A = A} f c k n (n == n) (same_number n n _ refl refl) h

not_stopped : {A : Type 0} (c : SourceFault) (t : Bool) (a x : A) → t ≡ true → unless_stopped (cond t (Some c) None) a ≡ Ok x → ⊥
not_stopped c true a x e h = cc
not_stopped c false a x e h = cc

told_clean : {A : Type 0} (n : ℕ) (kind : Option SourceFaultKind) (r : Result A SourceFaultKind) (x : A) → meaning_or_fault (fault_of_line n kind) n r ≡ Ok x → (r ≡ Ok x) × (kind ≡ None)
told_clean n None (Ok a) x h = let same : a ≡ x = cc in (ap (λ (y : _). Ok y) same, refl)
told_clean n None (Err k) x h = cc
told_clean n (Some c) (Ok a) x h = absurd (not_stopped (record { line = n; kind = c }) (n == n) a x (same_number n n _ refl refl) h)
told_clean n (Some c) (Err k) x h = cc

abbrev told_alone : {A : Type 0} → ℕ → Result A SourceFaultKind → Result A SourceFault
told_alone n r = meaning_or_fault None n r

pub fault_past : (source : List ℕ) (n : ℕ) → length (source_lines source) < n → fault_at source n ≡ None
unfolding fault_at
fault_past source zero h = refl
fault_past source (suc n) h = ap (λ (o : Option (List ℕ)). option_and_then (line_fault (layout_of source) (laid nothing_laid (take n (source_lines source)))) o) (slice_get_past (source_lines source) n (omega arith))

module _ (source : List ℕ) (xs : List (List ℕ)) (line : List ℕ) (rest : List (List ℕ)) (split : source_lines source ≡ xs ++ line ∷ rest) where
  fault_is : fault_at source (suc (length xs)) ≡ line_fault (layout_of source) (laid nothing_laid xs) line
  unfolding fault_at
  fault_is =
      ap (λ (ls : List (List ℕ)). option_and_then (line_fault (layout_of source) (laid nothing_laid (take (length xs) ls))) (slice_get ls (length xs))) split
      ∙ ap (λ (ls : List (List ℕ)). option_and_then (line_fault (layout_of source) (laid nothing_laid ls)) (slice_get (xs ++ line ∷ rest) (length xs))) (take-append_seam xs (line ∷ rest))
      ∙ ap (λ (o : Option (List ℕ)). option_and_then (line_fault (layout_of source) (laid nothing_laid xs)) o) (slice_get-seam xs line rest)

  whole_is : layout_of source ≡ laid (with_line_laid (laid nothing_laid xs) line) rest
  unfolding laid
  whole_is = ap (λ (ls : List (List ℕ)). laid nothing_laid ls) split ∙ laid-append nothing_laid xs (line ∷ rest)

  module _ (clean : (laid nothing_laid xs).first ≡ None) (n : ℕ) (place : SectionPlace) (number : n ≡ length xs + 1) (is : place ≡ (laid nothing_laid xs).place) (a : List Placed) where
    abbrev found : Option SourceFaultKind
    found = (line_laid (laid nothing_laid xs).labels (laid nothing_laid xs).place (code_of line)).1.1

    abbrev meant : Result (SectionPlace × List Placed) SourceFaultKind
    meant = line_meant (layout_of source).labels (layout_of source).place.text_size n place (statement_text (code_of line)) a

    stopped : stop_at (layout_of source).first n ≡ fault_of_line n found
    stopped =
        let lines : n ≡ (laid nothing_laid xs).lines + 1 = omega (arith, laid_lines nothing_laid xs) in
        ap (λ (l : Laid). stop_at l.first n) whole_is
        ∙ subst (λ (m : ℕ). stop_at (laid (with_line_laid (laid nothing_laid xs) line) rest).first m ≡ fault_of_line m found) (sym lines) (stops_here (laid nothing_laid xs) line rest found refl clean)

    told_line : line_or_fault (layout_of source).labels (layout_of source).place.text_size (layout_of source).first n place (code_of line) a ≡ meaning_or_fault (fault_of_line n found) n meant
    unfolding line_or_fault
    told_line = told_same (layout_of source).first n meant ∙ ap (λ (o : Option SourceFault). meaning_or_fault o n meant) stopped

    fault_found : fault_at source (suc (length xs)) ≡ lesser found (fault_in meant)
    fault_found =
        fault_is
        ∙ ap (λ (k : Option SourceFaultKind). lesser found k)
        (line_fault_same (layout_of source).labels (layout_of source).place.text_size 0 n (laid nothing_laid xs).place (statement_text (code_of line)) [] a
        ∙ ap (λ (p : SectionPlace). fault_in (line_meant (layout_of source).labels (layout_of source).place.text_size n p (statement_text (code_of line)) a)) (sym is))

    pub refused : (f : SourceFault) → line_or_fault (layout_of source).labels (layout_of source).place.text_size (layout_of source).first n place (code_of line) a ≡ Err f
        → (f.line ≡ suc (length xs)) × (fault_at source (suc (length xs)) ≡ Some f.kind)
    refused f h =
        let meaning_or_fault = told_fault n found meant f (sym told_line ∙ h) in
        (omega (arith, meaning_or_fault.0), fault_found ∙ meaning_or_fault.1)

    pub passed : (x : SectionPlace × List Placed) → line_or_fault (layout_of source).labels (layout_of source).place.text_size (layout_of source).first n place (code_of line) a ≡ Ok x
        → (x.0 ≡ (with_line_laid (laid nothing_laid xs) line).place) × ((with_line_laid (laid nothing_laid xs) line).first ≡ None) × (fault_at source (suc (length xs)) ≡ None)
    unfolding line_or_fault with_line_laid
    passed x h =
        let meaning_or_fault = told_clean n found meant x (sym told_line ∙ h) in
        let labels = (layout_of source).labels in
        let size : ℕ = (layout_of source).place.text_size in
        let s : Laid = laid nothing_laid xs in
        let none : (with_line_laid s line).first ≡ None = ap (λ (o : Option SourceFault). first_fault o (s.lines + 1) found) clean ∙ ap (λ (k : Option SourceFaultKind). first_fault None (s.lines + 1) k) meaning_or_fault.1 in
        let l = line_of_told labels size n None place (code_of line) a x refl (ap (λ (r : Result (SectionPlace × List Placed) SourceFaultKind). told_alone n r) meaning_or_fault.0) in
        let there : Line labels size n s.place x.0 (statement_text (code_of line)) a x.1 = subst (λ (p : SectionPlace). Line labels size n p x.0 (statement_text (code_of line)) a x.1) is l in
        (same_next size n s line labels x.0 a x.1 none there, none, fault_found ∙ ap (λ (k : Option SourceFaultKind). lesser k (fault_in meant)) meaning_or_fault.1 ∙ ap (λ (r : Result (SectionPlace × List Placed) SourceFaultKind). fault_in r) meaning_or_fault.0)

-- ---- a source is refused with the least fault of its first line that has any, and else means something

-- no line has a fault, or this one is the first and least
abbrev Tells : List ℕ → Result (List Placed) SourceFault → Type 0
Tells source (Ok items) = (n : ℕ) → fault_at source n ≡ None
Tells source (Err fault) = IsFirstFault source fault

either_told : (source : List ℕ) (before : ℕ) (rest : List (List ℕ)) (t : Result (SectionPlace × List Placed) SourceFault) → ((f : SourceFault) → t ≡ Err f → IsFirstFault source f)
    → ((x : SectionPlace × List Placed) → t ≡ Ok x → Tells source (lines_meant (layout_of source) before x.0 rest x.1)) → Tells source (and_then t (λ x. lines_meant (layout_of source) before x.0 rest x.1))
either_told source before rest (Ok x) h k = k x refl
either_told source before rest (Err f) h k = h f refl

one_line_more : (source : List ℕ) (m : ℕ) → ((n : ℕ) → n < suc m → fault_at source n ≡ None) → fault_at source (suc m) ≡ None → (n : ℕ) → n < suc (suc m) → fault_at source n ≡ None
one_line_more source m h k n less =
    ⊎_elim (λ (lt : n < suc m). h n lt) (λ (le : suc m ≤ n). let e : suc m ≡ n = omega arith in subst (λ (i : ℕ). fault_at source i ≡ None) e k) (cases_lt n (suc m))

told : (source : List ℕ) (xs rest : List (List ℕ)) → source_lines source ≡ xs ++ rest → (laid nothing_laid xs).first ≡ None → (before : ℕ) (place : SectionPlace) → before ≡ length xs → place ≡ (laid nothing_laid xs).place
    → ((n : ℕ) → n < suc (length xs) → fault_at source n ≡ None) → (a : List Placed) → Tells source (lines_meant (layout_of source) before place rest a)
unfolding lines_meant
told source xs [] split clean before place number is none a = λ n.
    let all : length (source_lines source) ≡ length xs = ap (λ (ls : List (List ℕ)). length ls) (split ∙ append-nil xs) in
    ⊎_elim (λ (lt : n < suc (length xs)). none n lt) (λ (le : suc (length xs) ≤ n). fault_past source n (omega arith)) (cases_lt n (suc (length xs)))
told source xs (line ∷ rest) split clean before place number is none a =
    let l = layout_of source in
    let n : before + 1 ≡ length xs + 1 = omega arith in
    let longer : length (xs ++ line ∷ []) ≡ suc (length xs) = omega (arith, length-append xs (line ∷ [])) in
    either_told source (before + 1) rest (line_or_fault l.labels l.place.text_size l.first (before + 1) place (code_of line) a)
    (λ f h.
    let here = refused source xs line rest split clean (before + 1) place n is a f h in
    (ap (λ (i : ℕ). fault_at source i) here.0 ∙ here.1, λ m less. none m (omega (arith, here.0))))
    (λ x h.
    let here = passed source xs line rest split clean (before + 1) place n is a x h in
    let same = laid_one_more xs line in
    told source (xs ++ line ∷ []) rest (split ∙ sym (append_assoc xs (line ∷ []) rest)) (ap (λ (s : Laid). s.first) same ∙ here.1) (before + 1) x.0 (omega arith) (here.0 ∙ ap (λ (s : Laid). s.place) (sym same))
    (λ m less. one_line_more source (length xs) none here.2 m (omega arith)) x.1)

none_before : (source : List ℕ) (n : ℕ) → n < 1 → fault_at source n ≡ None
unfolding fault_at
none_before source zero h = refl
none_before source (suc n) h = absurd (omega arith)

meaning_told : (source : List ℕ) → Tells source (meaning_of source)
unfolding meaning_of laid
meaning_told source = told source [] (source_lines source) refl refl 0 source_start refl refl (none_before source) []

same_fault : (f g : SourceFault) → f.line ≡ g.line → f.kind ≡ g.kind → f ≡ g
same_fault f g h k =
    ap (λ (n : ℕ). let r : SourceFault = record { line = n; kind = f.kind } in r) h ∙ ap (λ (kind : SourceFaultKind). let r : SourceFault = record { line = g.line; kind = kind } in r) k

one_first : (source : List ℕ) (f g : SourceFault) → IsFirstFault source f → IsFirstFault source g → f ≡ g
one_first source f g h k =
    let not_less : f.line < g.line → ⊥ = λ less. let none = k.1 f.line less in let some = h.0 in cc in
    let not_more : g.line < f.line → ⊥ = λ less. let none = h.1 g.line less in let some = k.0 in cc in
    let line : f.line ≡ g.line = omega (arith, not_less, not_more) in
    let kinds : ◌≡◌ {A = Option SourceFaultKind} (Some f.kind) (Some g.kind) = sym h.0 ∙ ap (λ (n : ℕ). fault_at source n) line ∙ k.0 in
    let kind : f.kind ≡ g.kind = cc in
    same_fault f g line kind

told_first : (source : List ℕ) (fault : SourceFault) (r : Result (List Placed) SourceFault) → Tells source r → IsFirstFault source fault → r ≡ Err fault
told_first source fault (Ok items) h k = let none = h fault.line in let some = k.0 in cc
told_first source fault (Err f) h k = ap (λ (g : SourceFault). Err g) (one_first source f fault h k)

pub refuses : (source : List ℕ) (fault : SourceFault) → meaning_of source ≡ Err fault ↔ IsFirstFault source fault
refuses source fault = (λ h. subst (λ (r : Result (List Placed) SourceFault). Tells source r) h (meaning_told source), λ h. told_first source fault (meaning_of source) (meaning_told source) h)

none_told : (source : List ℕ) (r : Result (List Placed) SourceFault) → Tells source r → IsOk r → (n : ℕ) → fault_at source n ≡ None
none_told source (Ok items) h k = h
none_told source (Err f) h k = cc

all_clean : (source : List ℕ) (r : Result (List Placed) SourceFault) → Tells source r → ((n : ℕ) → fault_at source n ≡ None) → IsOk r
all_clean source (Ok items) h k = refl
all_clean source (Err f) h k = let none = k f.line in let some = h.0 in cc

pub means : (source : List ℕ) → IsOk (meaning_of source) ↔ ((n : ℕ) → fault_at source n ≡ None)
means source = (λ h. none_told source (meaning_of source) (meaning_told source) h, λ h. all_clean source (meaning_of source) (meaning_told source) h)

pub refused_with_the_first : RefusedWithTheFirst
refused_with_the_first source =
    let program = refused_as_meant source in (
      λ fault. let one = program.0 fault in let two = refuses source fault in (λ h. two.0 (one.0 h), λ h. one.1 (two.1 h)),
      (λ h. (means source).0 (program.1.0 h), λ h. program.1.1 ((means source).1 h)),
    )
