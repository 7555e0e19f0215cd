-- What a source means is placed where laying it out places it.
use Rattle.std.proofs.Common.{◌≡◌, ◌∙◌, ℕ, ◌+◌, ◌<◌, ◌≤◌, Bool, true, false, cond, ◌==◌, List, [], ◌∷◌, length, Option, Some, None, Result, Ok, Err, ap, refl, sym, arith, zero, suc, ◌/◌, ◌%◌, ◌&&◌, nat_le, ◌++◌, All, subst, inl, inr, ◌-◌, take, append_assoc, length-append}
use Rattle.std.proofs.lemmas.Bool.Decides.{nat_tests}
use Rattle.std.proofs.lemmas.List.Elements.{All-push}
use Rattle.std.specs.List.{slice_get}
use Rattle.std.proofs.lemmas.List.{append-nil}
use Rattle.std.proofs.Math.Seq.{take-append_seam}
use Rattle.evm_isa.specs.declared.inst.Inst.{Inst}
use Rattle.evm_isa.specs.Encoded.{encoded}
use Rattle.evm_asm_parser.specs.evm_asm_lexer.declared.source_fault.SourceFault.{SourceFault}
use Rattle.evm_asm_parser.specs.evm_asm_lexer.declared.source_fault.SourceFaultKind.{SourceFaultKind}
use Rattle.evm_asm_parser.specs.evm_asm_lexer.declared.mnemonic.Section.{Section as Part}
use Rattle.evm_asm_parser.specs.evm_asm_lexer.declared.mnemonic.Section.TheVariants.{Text, Data}
use Rattle.evm_asm_parser.specs.evm_asm_lexer.declared.mnemonic.DataWidth.{DataWidth}
use Rattle.evm_asm_parser.specs.evm_asm_lexer.Faults.{◌>>=◌}
use Rattle.evm_asm_parser.specs.declared.statement.Statement.{Statement}
use Rattle.evm_asm_parser.specs.declared.statement.Statement.TheVariants.{Numbers, Space, Align}
use Rattle.evm_asm_parser.specs.Operands.{Spots, first_operand, other_operands}
use Rattle.evm_asm.specs.declared.item.Placed.{Placed}
use Rattle.evm_asm.specs.declared.place.SectionPlace.{SectionPlace}
use Rattle.evm_asm.specs.Sources.{source_lines, code_of, Laid, laid, with_line_laid, line_laid, first_fault, nothing_laid, source_start, statement_text, outcome, measured, line_defined}
use Rattle.evm_asm.specs.Items.{line_meant, line_or_fault, meaning_or_fault, lines_meant, meaning_of, unless_stopped, layout_of, text_base, expanded, with_item, with_instructions, value_in, number_pushed, with_numbers, filling, operands, with_statement, statement_meant}
use Rattle.evm_asm.specs.declared.item.Expansion.{Expansion}
use Rattle.evm_asm.specs.declared.item.Expansion.TheVariants.{Empty, Single, Double}
use Rattle.evm_asm.specs.declared.item.SourceItem.{SourceItem}
use Rattle.evm_asm.specs.declared.item.SourceItem.TheVariants.{Instruction, Number, Zeros, Nops}
use Rattle.evm_asm.specs.declared.output.ProgramLine.{ProgramLine}
use Rattle.evm_asm.specs.Places.{offset, padding, is_text, place_behind, statement_in}
use Rattle.evm_asm.specs.Programs.{Spelled, spelled, spelled_item, worded}
use Rattle.evm_asm.specs.Sizes.{IsAmong, place_before, size_of_text, Means}
use Rattle.evm_asm.proofs.Results.{and_then_ok, bind_ok, same_items, same_ok, same_place}
use Rattle.evm_asm.proofs.Statements_add_their_size.{text_of, text_in, item_longer, text_in-push, IsBalanced, statement_balanced}
use Rattle.evm_asm.proofs.Statements_without_labels.{measured_alike, in_the_text}

-- ---- a source that means something has no line with a fault

-- the fault, if there is one, is of one of the first n lines
IsWithin : Option SourceFault → ℕ → Type 0
IsWithin first n = (f : SourceFault) → first ≡ Some f → (0 < f.line) × (f.line ≤ n)

one_line_more : (first : Option SourceFault) (n : ℕ) (kind : Option SourceFaultKind) → IsWithin first n → IsWithin (first_fault first (n + 1) kind) (n + 1)
unfolding IsWithin
one_line_more (Some g) n kind h = λ f e. let k = h f e in (k.0, omega arith)
one_line_more None n (Some kind) h = λ f e. let same : ◌≡◌ {A = SourceFault} (record { line = n + 1; kind = kind }) f = cc in let line : n + 1 ≡ f.line = ap (λ (g : SourceFault). g.line) same in (omega arith, omega arith)
one_line_more None n None h = λ f e. cc

laid_within : (s : Laid) (lines : List (List ℕ)) → IsWithin s.first s.lines → IsWithin (laid s lines).first (laid s lines).lines
unfolding laid with_line_laid
laid_within s [] h = h
laid_within s (line ∷ lines) h = laid_within (with_line_laid s line) lines (one_line_more s.first s.lines (line_laid s.labels s.place (code_of line)).1.1 h)

pub laid_lines : (s : Laid) (lines : List (List ℕ)) → (laid s lines).lines ≡ s.lines + length lines
unfolding laid with_line_laid
laid_lines s [] = omega arith
laid_lines s (line ∷ lines) = let e = laid_lines (with_line_laid s line) lines in e ∙ omega arith

stopped : (f : SourceFault) (n : ℕ) (a : SectionPlace × List Placed) (x : SectionPlace × List Placed) (t : Bool) → (f.line == n) ≡ t → unless_stopped (cond t (Some f) None) a ≡ Ok x → f.line ≡ n → ⊥
stopped f n a x true e h same = cc
stopped f n a x false e h same = absurd (grind (arith, nat_tests))

told_later : (f : SourceFault) (n : ℕ) (r : Result (SectionPlace × List Placed) SourceFaultKind) (x : SectionPlace × List Placed) → meaning_or_fault (Some f) n r ≡ Ok x → f.line ≡ n → ⊥
told_later f n (Ok a) x h same = stopped f n a x (f.line == n) refl h same
told_later f n (Err kind) x h same = cc

never : (l : Laid) (f : SourceFault) → l.first ≡ Some f → (before : ℕ) (place : SectionPlace) (lines : List (List ℕ)) (so_far items : List Placed)
    → lines_meant l before place lines so_far ≡ Ok items → before < f.line → f.line ≤ before + length lines → ⊥
unfolding lines_meant line_or_fault
never l f e before place [] so_far items h a b = absurd (omega arith)
never l f e before place (line ∷ lines) so_far items h a b =
    let step = and_then_ok (line_or_fault l.labels l.place.text_size l.first (before + 1) place (code_of line) so_far) (λ x. lines_meant l (before + 1) x.0 lines x.1) items h in
    let here : meaning_or_fault (Some f) (before + 1) (line_meant l.labels l.place.text_size (before + 1) place (statement_text (code_of line)) so_far) ≡ Ok step.0 =
    ap (λ (o : Option SourceFault). meaning_or_fault o (before + 1) (line_meant l.labels l.place.text_size (before + 1) place (statement_text (code_of line)) so_far)) (sym e) ∙ step.1 in
    let other : f.line ≡ before + 1 → ⊥ = told_later f (before + 1) _ step.0 here in
    never l f e (before + 1) step.0.0 lines step.0.1 items step.2 (omega (arith, other)) (omega arith)

start_within : IsWithin nothing_laid.first 0
unfolding IsWithin
start_within = λ f e. cc

none_of : (o : Option SourceFault) → ((f : SourceFault) → o ≡ Some f → ⊥) → o ≡ None
none_of None h = refl
none_of (Some f) h = absurd (h f refl)

pub none_ignored : (source : List ℕ) (items : List Placed) → meaning_of source ≡ Ok items → (layout_of source).first ≡ None
unfolding meaning_of IsWithin
none_ignored source items h =
    let l = layout_of source in
    none_of l.first (λ f e.
    let place = laid_within nothing_laid (source_lines source) start_within f e in
    let count = laid_lines nothing_laid (source_lines source) in
    never l f e 0 source_start (source_lines source) [] items h place.0 (omega arith))

-- ---- what holds of each instruction of a list of items, at the address where it stands

module _ (P : ℕ → ℕ → Inst → Type 0) where
  -- P holds of the item, if it is an instruction, at so many bytes of text
  abbrev pub OfItem : ℕ → SourceItem → Type 0
  OfItem off (Instruction line i) = P line (text_base + off) i
  OfItem off item = Unit {0}

  abbrev pub Each : ℕ → List Placed → Type 0
  Each off [] = Unit {0}
  Each off (p ∷ ps) = OfItem off p.item × Each (off + text_of p) ps

  each_push : (off : ℕ) (ps : List Placed) (p : Placed) → Each off ps → OfItem (off + text_in ps) p.item → Each off (ps ++ p ∷ [])
  each_push off [] p h k = let e : off + 0 ≡ off = omega arith in (subst (λ (n : ℕ). OfItem n p.item) e k, tt)
  each_push off (q ∷ ps) p h k =
      let e : off + (text_of q + text_in ps) ≡ off + text_of q + text_in ps = omega arith in
      (h.0, each_push (off + text_of q) ps p h.1 (subst (λ (n : ℕ). OfItem n p.item) e k))

  -- one more item behind those so far
  each_item : (part : Part) (item : SourceItem) (a : List Placed) → Each 0 a → OfItem (text_in a) item → Each 0 (with_item part item a)
  each_item part item a h k = let e : text_in a ≡ 0 + text_in a = omega arith in each_push 0 a (record { section = part; item = item }) h (subst (λ (n : ℕ). OfItem n item) e k)

  each_number : (labels : Spots) (size : ℕ) (part : Part) (width : DataWidth) (text : List ℕ) (a b : List Placed) → number_pushed labels size part width text a ≡ Ok b → Each 0 a → Each 0 b
  unfolding number_pushed
  each_number labels size part width text a b h k =
      let v = bind_ok (value_in labels size width text) (λ v. Ok (with_item part (Number width v) a)) b h in
      subst (λ (c : List Placed). Each 0 c) (same_items _ b v.2) (each_item part (Number width v.0) a k tt)

  each_numbers : (labels : Spots) (size : ℕ) (part : Part) (width : DataWidth) (n : ℕ) (text : List ℕ) (a b : List Placed) → with_numbers labels size part width n text a ≡ Ok b → Each 0 a → Each 0 b
  unfolding with_numbers
  each_numbers labels size part width zero text a b h k = subst (λ (c : List Placed). Each 0 c) (same_items a b h) k
  each_numbers labels size part width (suc n) text a b h k =
      let one = bind_ok (number_pushed labels size part width (first_operand text) a) (λ items. with_numbers labels size part width n (other_operands text) items) b h in
      each_numbers labels size part width n (other_operands text) one.0 b one.2 (each_number labels size part width (first_operand text) a one.0 one.1 k)

  filling_none : (off : ℕ) (t : Bool) (m n : ℕ) → OfItem off (cond t (Nops m) (Zeros n))
  filling_none off true m n = tt
  filling_none off false m n = tt

  each_filling : (place : SectionPlace) (power : ℕ) (a : List Placed) → Each 0 a → Each 0 (with_item place.section (filling place power) a)
  unfolding filling
  each_filling place power a k =
      each_item place.section (filling place power) a k
      (filling_none (text_in a) (is_text place.section && (place.text_size % 4 == 0 && nat_le 2 power)) (padding (offset place) power / 4) (padding (offset place) power))

  each_instruction : (line : ℕ) (e : Expansion) (a : List Placed) → ((i : Inst) (address : ℕ) → IsAmong e (text_base + text_in a) i address → P line address i) → Each 0 a → Each 0 (with_instructions line e a)
  unfolding with_instructions
  each_instruction line Empty a p k = k
  each_instruction line (Single i) a p k = each_item Text (Instruction line i) a k (p i _ (refl, refl))
  each_instruction line (Double i j) a p k =
      let e : text_base + text_in (with_item Text (Instruction line i) a) ≡ text_base + text_in a + 4 = omega (arith, text_in-push a (record { section = Text; item = Instruction line i })) in
      each_item Text (Instruction line j) _ (each_item Text (Instruction line i) a k (p i _ (inl (refl, refl)))) (p j _ (inr (refl, e)))

  -- behind a statement, where P holds of its instructions
  pub each_statement : (labels : Spots) (size line : ℕ) (place : SectionPlace) (text : List ℕ) (s : Statement) (a b : List Placed) → with_statement labels size line place text s a ≡ Ok b
      → ((e : Expansion) → expanded size (text_base + place.text_size) s ≡ Ok e → (i : Inst) (address : ℕ) → IsAmong e (text_base + text_in a) i address → P line address i)
      → Each 0 a → Each 0 b
  unfolding with_statement
  each_statement labels size line place text (Numbers width count) a b h p k = each_numbers labels size place.section width count (operands text) a b h k
  each_statement labels size line place text (Space n) a b h p k = subst (λ (c : List Placed). Each 0 c) (same_items _ b h) (each_item place.section (Zeros n) a k tt)
  each_statement labels size line place text (Align power) a b h p k = subst (λ (c : List Placed). Each 0 c) (same_items _ b h) (each_filling place power a k)
  each_statement labels size line place text s a b h p k =
      let e = bind_ok (expanded size (text_base + place.text_size) s) (λ e. Ok (with_instructions line e a)) b h in
      subst (λ (c : List Placed). Each 0 c) (same_items _ b e.2) (each_instruction line e.0 a (p e.0 e.1) k)

  abbrev OfLine : ProgramLine → Type 0
  OfLine l = P l.line l.address l.instruction

  word_listed : (line : ℕ) (i : Inst) (o : Option ℕ) (s u : Spelled) → worded line i o s ≡ Ok u → P line (text_base + length s.text_bytes) i → All OfLine s.lines → All OfLine u.lines
  word_listed line i (Some w) s u h p all =
      subst (λ (t : Spelled). All OfLine t.lines) (same_ok _ u h)
      (All-push OfLine s.lines (record { address = text_base + length s.text_bytes; line = line; word = w; instruction = i }) all p)
  word_listed line i None s u h p all = cc

  item_listed : (part : Part) (item : SourceItem) (s u : Spelled) → spelled_item part item s ≡ Ok u → OfItem (length s.text_bytes) item → All OfLine s.lines → All OfLine u.lines
  unfolding spelled_item
  item_listed part (Instruction line i) s u h p all = word_listed line i (encoded i) s u h p all
  item_listed Text (Number width value) s u h p all = subst (λ (t : Spelled). All OfLine t.lines) (same_ok _ u h) all
  item_listed Data (Number width value) s u h p all = subst (λ (t : Spelled). All OfLine t.lines) (same_ok _ u h) all
  item_listed Text (Zeros n) s u h p all = subst (λ (t : Spelled). All OfLine t.lines) (same_ok _ u h) all
  item_listed Data (Zeros n) s u h p all = subst (λ (t : Spelled). All OfLine t.lines) (same_ok _ u h) all
  item_listed Text (Nops n) s u h p all = subst (λ (t : Spelled). All OfLine t.lines) (same_ok _ u h) all
  item_listed Data (Nops n) s u h p all = subst (λ (t : Spelled). All OfLine t.lines) (same_ok _ u h) all

  -- what holds of each instruction of the items holds of each line that is spelled
  pub items_listed : (items : List Placed) (s t : Spelled) → spelled items s ≡ Ok t → Each (length s.text_bytes) items → All OfLine s.lines → All OfLine t.lines
  unfolding spelled
  items_listed [] s t h p all = subst (λ (t : Spelled). All OfLine t.lines) (same_ok s t h) all
  items_listed (p ∷ ps) s t h each all =
      let step = and_then_ok (spelled_item p.section p.item s) (spelled ps) t h in
      items_listed ps step.0 t step.2 (subst (λ (n : ℕ). Each n ps) (sym (item_longer p s step.0 step.1).text_is) each.1)
      (item_listed p.section p.item s step.0 step.1 each.0 all)

-- ---- what a source means is placed where laying it out places it

pub same_some : (a b : List ℕ) → ◌≡◌ {A = Option (List ℕ)} (Some a) (Some b) → a ≡ b
same_some a b h = cc

pub same_statement : (a b : Statement) → ◌≡◌ {A = Result Statement SourceFaultKind} (Ok a) (Ok b) → a ≡ b
same_statement a b h = cc

pub laid-append : (s : Laid) (xs ys : List (List ℕ)) → laid s (xs ++ ys) ≡ laid (laid s xs) ys
unfolding laid
laid-append s [] ys = refl
laid-append s (x ∷ xs) ys = laid-append (with_line_laid s x) xs ys

pub laid_one_more : (xs : List (List ℕ)) (line : List ℕ) → laid nothing_laid (xs ++ line ∷ []) ≡ with_line_laid (laid nothing_laid xs) line
unfolding laid
laid_one_more xs line = laid-append nothing_laid xs (line ∷ [])

first_none : (first : Option SourceFault) (n : ℕ) (kind : Option SourceFaultKind) → first_fault first n kind ≡ None → (first ≡ None) × (kind ≡ None)
first_none (Some f) n kind h = cc
first_none None n (Some k) h = cc
first_none None n None h = (refl, refl)

pub line_none : (s : Laid) (line : List ℕ) → (with_line_laid s line).first ≡ None → (s.first ≡ None) × ((line_laid s.labels s.place (code_of line)).1.1 ≡ None)
unfolding with_line_laid
line_none s line h = first_none s.first (s.lines + 1) (line_laid s.labels s.place (code_of line)).1.1 h

pub lines_none : (s : Laid) (lines : List (List ℕ)) → (laid s lines).first ≡ None → s.first ≡ None
unfolding laid
lines_none s [] h = h
lines_none s (line ∷ lines) h = (line_none s line (lines_none (with_line_laid s line) lines h)).0

outcome_none : (place : SectionPlace) (twice : Bool) (r : Result SectionPlace SourceFaultKind) → (outcome place twice r).1 ≡ None → r ≡ Ok (outcome place twice r).0
outcome_none place false (Ok next) h = refl
outcome_none place false (Err kind) h = cc
outcome_none place true (Ok next) h = cc
outcome_none place true (Err kind) h = cc

-- where laying out a line finds no fault, the place behind it is that behind its statement, whatever labels there are
pub line_measured : (all : Spots) (s : Laid) (line : List ℕ) → (with_line_laid s line).first ≡ None → measured all s.place (statement_text (code_of line)) ≡ Ok (with_line_laid s line).place
unfolding with_line_laid line_laid
line_measured all s line h =
    let d = line_defined s.labels s.place (code_of line) in
    measured_alike all d.labels s.place (statement_text (code_of line))
    ∙ outcome_none s.place d.twice (measured d.labels s.place (statement_text (code_of line))) (first_none s.first (s.lines + 1) _ h).1

told_ok : {A : Type 0} (first : Option SourceFault) (n : ℕ) (r : Result A SourceFaultKind) (x : A) → first ≡ None → meaning_or_fault first n r ≡ Ok x → r ≡ Ok x
told_ok None n (Ok a) x e h = cc
told_ok None n (Err kind) x e h = cc
told_ok (Some f) n r x e h = cc

-- a line that means something, from a place to the next
pub record Line (labels : Spots) (size n : ℕ) (place next : SectionPlace) (text : List ℕ) (a b : List Placed) : Type 0 where
  pub statement : Statement
  pub reads : statement_in labels place text ≡ Ok statement
  pub adds : with_statement labels size n place text statement a ≡ Ok b
  pub goes_on : place_behind place statement ≡ Ok next

same_pair : (a b : SectionPlace × List Placed) → ◌≡◌ {A = Result (SectionPlace × List Placed) SourceFaultKind} (Ok a) (Ok b) → (a.0 ≡ b.0) × (a.1 ≡ b.1)
same_pair a b h = let e : a ≡ b = cc in (ap (λ (x : SectionPlace × List Placed). x.0) e, ap (λ (x : SectionPlace × List Placed). x.1) e)

pub line_of_told : (labels : Spots) (size n : ℕ) (first : Option SourceFault) (place : SectionPlace) (code : List ℕ) (a : List Placed) (x : SectionPlace × List Placed) → first ≡ None
    → line_or_fault labels size first n place code a ≡ Ok x → Line labels size n place x.0 (statement_text code) a x.1
unfolding line_or_fault line_meant statement_meant
line_of_told labels size n first place code a x e h =
    let s = bind_ok (statement_in labels place (statement_text code)) (λ s. statement_meant labels size n place (statement_text code) s a) x (told_ok first n _ x e h) in
    let items = bind_ok (with_statement labels size n place (statement_text code) s.0 a) _ x s.2 in
    let next = bind_ok (place_behind place s.0) _ x items.2 in
    let same = same_pair _ x next.2 in
    record { statement = s.0; reads = s.1; adds = items.1 ∙ ap Ok same.1; goes_on = next.1 ∙ ap Ok same.0 }

line_next : (labels : Spots) (size n : ℕ) (place next : SectionPlace) (text : List ℕ) (a b : List Placed) → Line labels size n place next text a b → measured labels place text ≡ Ok next
unfolding measured
line_next labels size n place next text a b l = ap (λ (r : Result Statement SourceFaultKind). r >>= place_behind place) l.reads ∙ l.goes_on

-- the walk over what is meant takes the places of the layout
pub same_next : (size n : ℕ) (s : Laid) (line : List ℕ) (labels : Spots) (next : SectionPlace) (a b : List Placed) → (with_line_laid s line).first ≡ None
    → Line labels size n s.place next (statement_text (code_of line)) a b → next ≡ (with_line_laid s line).place
same_next size n s line labels next a b h l =
    same_place next (with_line_laid s line).place (sym (line_next labels size n s.place next (statement_text (code_of line)) a b l) ∙ line_measured labels s line h)

pub slice_get-seam : {X : Type 0} (xs : List X) (x : X) (ys : List X) → slice_get (xs ++ x ∷ ys) (length xs) ≡ Some x
slice_get-seam [] x ys = refl
slice_get-seam (y ∷ xs) x ys = slice_get-seam xs x ys

module _ (source : List ℕ) (xs : List (List ℕ)) (line : List ℕ) (rest : List (List ℕ)) (split : source_lines source ≡ xs ++ line ∷ rest) (n : ℕ) (number : n ≡ length xs + 1) where
  pub line_is : slice_get (source_lines source) (n - 1) ≡ Some line
  line_is =
      let e : n - 1 ≡ length xs = omega arith in
      ap (λ (k : ℕ). slice_get (source_lines source) k) e ∙ ap (λ (ls : List (List ℕ)). slice_get ls (length xs)) split ∙ slice_get-seam xs line rest

  pub place_is : place_before source n ≡ (laid nothing_laid xs).place
  place_is =
      let e : n - 1 ≡ length xs = omega arith in
      ap (λ (k : ℕ). (laid nothing_laid (take k (source_lines source))).place) e
      ∙ ap (λ (ls : List (List ℕ)). (laid nothing_laid (take (length xs) ls)).place) split
      ∙ ap (λ (ls : List (List ℕ)). (laid nothing_laid ls).place) (take-append_seam xs (line ∷ rest))

  means : (place next : SectionPlace) (a b : List Placed) → place_before source n ≡ place → IsBalanced place a → (l : Line (layout_of source).labels (size_of_text source) n place next (statement_text (code_of line)) a b)
      → (e : Expansion) → expanded (size_of_text source) (text_base + place.text_size) l.statement ≡ Ok e → (i : Inst) (address : ℕ) → IsAmong e (text_base + text_in a) i address → Means source n address i
  means place next a b is balanced l e h i address among = record {
    statement = l.statement;
    expansion = e;
    says = record {
      line = line;
      from_one = omega arith;
      is_line = line_is;
      reads = subst (λ (p : SectionPlace). statement_in (layout_of source).labels p (statement_text (code_of line)) ≡ Ok l.statement) (sym is) l.reads;
    };
    becomes = subst (λ (p : SectionPlace). expanded (size_of_text source) (text_base + p.text_size) l.statement ≡ Ok e) (sym is) h;
    stands =
        let same : text_in a ≡ (place_before source n).text_size = balanced.text_is ∙ ap (λ (p : SectionPlace). p.text_size) (sym is) in
        subst (λ (m : ℕ). IsAmong e (text_base + m) i address) same among;
  }

-- the items of a source, behind all of its lines
pub record IsWalked (source : List ℕ) (place : SectionPlace) (items : List Placed) : Type 0 where
  pub balanced : IsBalanced place items
  pub each : Each (Means source) 0 items

module _ (source : List ℕ) (xs : List (List ℕ)) (line : List ℕ) (rest : List (List ℕ)) (split : source_lines source ≡ xs ++ line ∷ rest) (none : (layout_of source).first ≡ None) where
  line_clean : (with_line_laid (laid nothing_laid xs) line).first ≡ None
  unfolding laid
  line_clean =
      lines_none (with_line_laid (laid nothing_laid xs) line) rest
      (ap (λ (l : Laid). l.first) (sym (laid-append nothing_laid xs (line ∷ rest))) ∙ ap (λ (ls : List (List ℕ)). (laid nothing_laid ls).first) (sym split) ∙ none)

  pub walked_line : (before : ℕ) (place : SectionPlace) → before ≡ length xs → place ≡ (laid nothing_laid xs).place → (a : List Placed) (x : SectionPlace × List Placed)
      → line_or_fault (layout_of source).labels (layout_of source).place.text_size (layout_of source).first (before + 1) place (code_of line) a ≡ Ok x → IsWalked source place a
      → (x.0 ≡ (laid nothing_laid (xs ++ line ∷ [])).place) × IsWalked source x.0 x.1
  walked_line before place number is a x h w =
      let labels = (layout_of source).labels in
      let size : ℕ = size_of_text source in
      let n : ℕ = before + 1 in
      let text : List ℕ = statement_text (code_of line) in
      let l = line_of_told labels size n (layout_of source).first place (code_of line) a x none h in
      let there : Line labels size n (laid nothing_laid xs).place x.0 text a x.1 = subst (λ (p : SectionPlace). Line labels size n p x.0 text a x.1) is l in
      let number' : n ≡ length xs + 1 = omega arith in
      let next : x.0 ≡ (with_line_laid (laid nothing_laid xs) line).place = same_next size n (laid nothing_laid xs) line labels x.0 a x.1 line_clean there in (
        next ∙ ap (λ (s : Laid). s.place) (sym (laid_one_more xs line)),
        record {
          balanced = statement_balanced labels size n place x.0 text l.statement a x.1 (in_the_text labels place text l.statement l.reads) l.adds l.goes_on w.balanced;
          each =
              each_statement (Means source) labels size n place text l.statement a x.1 l.adds
              (means source xs line rest split n number' place x.0 a x.1 (place_is source xs line rest split n number' ∙ sym is) w.balanced l) w.each;
        },
      )

walked : (source : List ℕ) (xs rest : List (List ℕ)) → source_lines source ≡ xs ++ rest → (layout_of source).first ≡ None → (before : ℕ) (place : SectionPlace) → before ≡ length xs → place ≡ (laid nothing_laid xs).place
    → (a items : List Placed) → lines_meant (layout_of source) before place rest a ≡ Ok items → IsWalked source place a → IsWalked source (layout_of source).place items
unfolding lines_meant
walked source xs [] split none before place number is a items h w =
    let whole : layout_of source ≡ laid nothing_laid xs = ap (λ (ls : List (List ℕ)). laid nothing_laid ls) (split ∙ append-nil xs) in
    let same : a ≡ items = cc in
    let there : place ≡ (layout_of source).place = is ∙ ap (λ (l : Laid). l.place) (sym whole) in
    subst (λ (c : List Placed). IsWalked source (layout_of source).place c) same (subst (λ (p : SectionPlace). IsWalked source p a) there w)
walked source xs (line ∷ rest) split none before place number is a items h w =
    let l = layout_of source in
    let step = and_then_ok (line_or_fault l.labels l.place.text_size l.first (before + 1) place (code_of line) a) (λ x. lines_meant l (before + 1) x.0 rest x.1) items h in
    let next = walked_line source xs line rest split none before place number is a step.0 step.1 w in
    let longer : before + 1 ≡ length (xs ++ line ∷ []) = omega (arith, length-append xs (line ∷ [])) in
    walked source (xs ++ line ∷ []) rest (split ∙ sym (append_assoc xs (line ∷ []) rest)) none (before + 1) step.0.0 longer next.0 step.0.1 items step.2 next.1

pub meaning_walked : (source : List ℕ) (items : List Placed) → meaning_of source ≡ Ok items → IsWalked source (layout_of source).place items
unfolding meaning_of laid
meaning_walked source items h =
    walked source [] (source_lines source) refl (none_ignored source items h) 0 source_start refl refl [] items h
    (record { balanced = record { text_is = refl; rest_is = refl }; each = tt })
