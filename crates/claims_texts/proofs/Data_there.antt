-- The bytes of numbers, .space and .align stand at their line's place.
use Rattle.std.proofs.Common.{◌≡◌, ◌∙◌, ℕ, zero, suc, ◌+◌, ◌<◌, ◌≤◌, List, [], ◌∷◌, ◌++◌, length, take, drop, Option, Some, None, Ok, ap, refl, sym, subst, ⊎_elim, arith, append_assoc, length-append, length-drop, ◌-◌, ◌*◌, Result, ◌/◌, ◌%◌, Bool, true, false, cond, ◌&&◌, ◌==◌, nat_le}
use Rattle.std.specs.Int.{w32, to_le_bytes}
use Rattle.std.proofs.lemmas.List.{append-nil, take-append-le, drop-append-le, length-replicate}
use Rattle.std.proofs.Math.Seq.{drop-append_seam, take-length, drop-append-add}
use Rattle.std.specs.Prelude.{replicate}
use Rattle.std.proofs.lemmas.Bool.{cases_lt}
use Rattle.evm_isa.specs.declared.inst.Inst.{Inst}
use Rattle.evm_isa.specs.Encoded.{encoded}
use Rattle.evm_asm.specs.evm_asm_lexer.declared.mnemonic.Section.{Section as Part}
use Rattle.evm_asm.specs.evm_asm_lexer.declared.mnemonic.Section.TheVariants.{Text, Data}
use Rattle.evm_asm.specs.evm_asm_lexer.declared.source_fault.SourceFaultKind.{SourceFaultKind}
use Rattle.evm_asm.specs.evm_asm_lexer.declared.mnemonic.DataWidth.{DataWidth}
use Rattle.evm_asm.specs.evm_asm_parser.Operands.{Spots, first_operand, other_operands}
use Rattle.evm_asm.specs.evm_asm_parser.declared.statement.Statement.{Statement}
use Rattle.evm_asm.specs.evm_asm_parser.declared.statement.Statement.TheVariants.{Numbers, Space, Align}
use Rattle.evm_asm.specs.declared.item.SourceItem.{SourceItem}
use Rattle.evm_asm.specs.declared.item.SourceItem.TheVariants.{Instruction, Number, Zeros, Nops}
use Rattle.evm_asm.specs.declared.item.Placed.{Placed}
use Rattle.evm_asm.specs.Places.{bytes_in, section_size, offset, here, statement_in, padding, is_text}
use Rattle.evm_asm.specs.Items.{text_base, data_base, address_of_offset, with_item, value_in, number_pushed, with_numbers, address, operands, with_statement, and_then, layout_of, meaning_of, filling}
use Rattle.evm_asm.specs.Programs.{Spelled, spelled, spelled_item, worded, repeated, number_bytes, nop_bytes, nothing_spelled}
use Rattle.evm_asm.specs.Sizes.{size_of_text, size_of_data, place_before, Says}
use Rattle.claims_texts.specs.Standing.{gap, operand_at, HasNumber, filling_bytes, SpacesAreZeros, AlignmentsAreFilled}
use Rattle.evm_asm.specs.declared.place.SectionPlace.{SectionPlace}
use Rattle.evm_asm.specs.Sources.{source_lines, code_of, statement_text, nothing_laid, laid}
use Rattle.evm_asm.specs.Assembled.{Assembled, assembled, program_of}
use Rattle.evm_asm.proofs.Statements_add_their_size.{data_of, text_in, data_in, item_longer, IsBalanced, Has, number_length, Adds, number_adds, item_comes, numbers_stay, statement_stays, padding_sized, item_size, length-repeated}
use Rattle.evm_asm.proofs.Results.{and_then_ok, same_ok, bind_ok, same_items}
use Rattle.evm_asm.proofs.Placed_where_laid.{same_some, same_statement, Line, line_is, place_is}
use Rattle.evm_asm.proofs.Programs_as_meant.{sizes_agree, reached}
use Rattle.claims_texts.proofs.Data_at_its_base.{data_at_base, zeros}

-- ---- the bytes of an item that is data stand in the program, at its place in its section

-- how many bytes of a section there are, of so many of text and of data
abbrev pub bytes_of : Part → ℕ → ℕ → ℕ
bytes_of Text t d = t
bytes_of Data t d = d

abbrev pub section_bytes : Part → Spelled → List ℕ
section_bytes Text s = s.text_bytes
section_bytes Data s = s.data_bytes

lengths : (part : Part) (s : Spelled) → bytes_of part (length s.text_bytes) (length s.data_bytes) ≡ length (section_bytes part s)
lengths Text s = refl
lengths Data s = refl

repeated_more : (n : ℕ) (unit bytes : List ℕ) → (more : List ℕ) × (repeated n unit bytes ≡ bytes ++ more)
unfolding repeated
repeated_more zero unit bytes = ([], sym (append-nil bytes))
repeated_more (suc n) unit bytes = let h = repeated_more n unit (bytes ++ unit) in (unit ++ h.0, h.1 ∙ append_assoc bytes unit h.0)

-- the bytes of a section go on
abbrev Goes : Part → Spelled → Spelled → Type 0
Goes part s u = (more : List ℕ) × (section_bytes part u ≡ section_bytes part s ++ more)

unmoved : (part : Part) (s u : Spelled) → section_bytes part u ≡ section_bytes part s → Goes part s u
unmoved part s u h = ([], h ∙ sym (append-nil (section_bytes part s)))

word_goes : (part : Part) (line : ℕ) (i : Inst) (o : Option ℕ) (s u : Spelled) → worded line i o s ≡ Ok u → Goes part s u
word_goes Text line i (Some w) s u h = (to_le_bytes w32 w, ap (λ (t : Spelled). t.text_bytes) (sym (same_ok _ u h)))
word_goes Data line i (Some w) s u h = unmoved Data s u (ap (λ (t : Spelled). t.data_bytes) (sym (same_ok _ u h)))
word_goes part line i None s u h = cc

text_goes : (section : Part) (item : SourceItem) (s u : Spelled) → spelled_item section item s ≡ Ok u → Goes Text s u
unfolding spelled_item
text_goes section (Instruction line i) s u h = word_goes Text line i (encoded i) s u h
text_goes Text (Number width value) s u h = (number_bytes (bytes_in width) value, ap (λ (t : Spelled). t.text_bytes) (sym (same_ok _ u h)))
text_goes Text (Zeros n) s u h = let m = repeated_more n (0 ∷ []) s.text_bytes in (m.0, ap (λ (t : Spelled). t.text_bytes) (sym (same_ok _ u h)) ∙ m.1)
text_goes Text (Nops n) s u h = let m = repeated_more n nop_bytes s.text_bytes in (m.0, ap (λ (t : Spelled). t.text_bytes) (sym (same_ok _ u h)) ∙ m.1)
text_goes Data (Number width value) s u h = unmoved Text s u (ap (λ (t : Spelled). t.text_bytes) (sym (same_ok _ u h)))
text_goes Data (Zeros n) s u h = unmoved Text s u (ap (λ (t : Spelled). t.text_bytes) (sym (same_ok _ u h)))
text_goes Data (Nops n) s u h = unmoved Text s u (ap (λ (t : Spelled). t.text_bytes) (sym (same_ok _ u h)))

data_goes : (section : Part) (item : SourceItem) (s u : Spelled) → spelled_item section item s ≡ Ok u → Goes Data s u
unfolding spelled_item
data_goes section (Instruction line i) s u h = word_goes Data line i (encoded i) s u h
data_goes Data (Number width value) s u h = (number_bytes (bytes_in width) value, ap (λ (t : Spelled). t.data_bytes) (sym (same_ok _ u h)))
data_goes Data (Zeros n) s u h = let m = repeated_more n (0 ∷ []) s.data_bytes in (m.0, ap (λ (t : Spelled). t.data_bytes) (sym (same_ok _ u h)) ∙ m.1)
data_goes Data (Nops n) s u h = let m = repeated_more n nop_bytes s.data_bytes in (m.0, ap (λ (t : Spelled). t.data_bytes) (sym (same_ok _ u h)) ∙ m.1)
data_goes Text (Number width value) s u h = unmoved Data s u (ap (λ (t : Spelled). t.data_bytes) (sym (same_ok _ u h)))
data_goes Text (Zeros n) s u h = unmoved Data s u (ap (λ (t : Spelled). t.data_bytes) (sym (same_ok _ u h)))
data_goes Text (Nops n) s u h = unmoved Data s u (ap (λ (t : Spelled). t.data_bytes) (sym (same_ok _ u h)))

item_goes : (part section : Part) (item : SourceItem) (s u : Spelled) → spelled_item section item s ≡ Ok u → Goes part s u
item_goes Text section item s u h = text_goes section item s u h
item_goes Data section item s u h = data_goes section item s u h

-- the bytes of an item that is no instruction
abbrev pub bytes_of_item : SourceItem → List ℕ
bytes_of_item (Instruction line i) = []
bytes_of_item (Number width value) = number_bytes (bytes_in width) value
bytes_of_item (Zeros n) = repeated n (0 ∷ []) []
bytes_of_item (Nops n) = repeated n nop_bytes []

abbrev pub IsData : SourceItem → Type 0
IsData (Instruction line i) = ⊥
IsData item = Unit {0}

repeated_is : (n : ℕ) (unit bytes : List ℕ) → repeated n unit bytes ≡ bytes ++ repeated n unit []
unfolding repeated
repeated_is zero unit bytes = sym (append-nil bytes)
repeated_is (suc n) unit bytes =
    repeated_is n unit (bytes ++ unit) ∙ append_assoc bytes unit (repeated n unit []) ∙ ap (λ (l : List ℕ). bytes ++ l) (sym (repeated_is n unit unit))

item_adds : (part : Part) (item : SourceItem) (s u : Spelled) → IsData item → spelled_item part item s ≡ Ok u → section_bytes part u ≡ section_bytes part s ++ bytes_of_item item
unfolding spelled_item
item_adds part (Instruction line i) s u d h = absurd d
item_adds Text (Number width value) s u d h = ap (λ (t : Spelled). t.text_bytes) (sym (same_ok _ u h))
item_adds Data (Number width value) s u d h = ap (λ (t : Spelled). t.data_bytes) (sym (same_ok _ u h))
item_adds Text (Zeros n) s u d h = ap (λ (t : Spelled). t.text_bytes) (sym (same_ok _ u h)) ∙ repeated_is n (0 ∷ []) s.text_bytes
item_adds Data (Zeros n) s u d h = ap (λ (t : Spelled). t.data_bytes) (sym (same_ok _ u h)) ∙ repeated_is n (0 ∷ []) s.data_bytes
item_adds Text (Nops n) s u d h = ap (λ (t : Spelled). t.text_bytes) (sym (same_ok _ u h)) ∙ repeated_is n nop_bytes s.text_bytes
item_adds Data (Nops n) s u d h = ap (λ (t : Spelled). t.data_bytes) (sym (same_ok _ u h)) ∙ repeated_is n nop_bytes s.data_bytes

-- bytes stand among others
pub record IsIn (wanted : List ℕ) (at : ℕ) (bytes : List ℕ) : Type 0 where
  pub within : at + length wanted ≤ length bytes
  pub bytes_are : take (length wanted) (drop at bytes) ≡ wanted

pub stays_in : (wanted : List ℕ) (at : ℕ) (b c : List ℕ) → IsIn wanted at b → IsIn wanted at (b ++ c)
stays_in wanted at b c h = record {
  within = let k = h.within in omega (arith, length-append b c);
  bytes_are =
      let room : at + length wanted ≤ length b = h.within in
      ap (λ (x : List ℕ). take (length wanted) x) (drop-append-le at b c (omega arith))
      ∙ take-append-le (length wanted) (drop at b) c (omega (arith, length-drop at b)) ∙ h.bytes_are;
}

comes_in : (wanted b : List ℕ) → IsIn wanted (length b) (b ++ wanted)
comes_in wanted b = record {
  within = omega (arith, length-append b wanted);
  bytes_are = ap (λ (x : List ℕ). take (length wanted) x) (drop-append_seam b wanted) ∙ take-length wanted;
}

module _ (part : Part) (item : SourceItem) (at : ℕ) where
  -- the item is this, behind so many bytes of its section
  abbrev pub IsThis : ℕ → ℕ → Placed → Type 0
  IsThis t d p = (◌≡◌ {A = Placed} p (record { section = part; item = item })) × (bytes_of part t d ≡ at)

  items_stay_in : (items : List Placed) (s t : Spelled) → spelled items s ≡ Ok t → IsIn (bytes_of_item item) at (section_bytes part s) → IsIn (bytes_of_item item) at (section_bytes part t)
  unfolding spelled
  items_stay_in [] s t h k = subst (λ (u : Spelled). IsIn (bytes_of_item item) at (section_bytes part u)) (same_ok s t h) k
  items_stay_in (p ∷ ps) s t h k =
      let step = and_then_ok (spelled_item p.section p.item s) (spelled ps) t h in
      let more = item_goes part p.section p.item s step.0 step.1 in
      items_stay_in ps step.0 t step.2 (subst (λ (bytes : List ℕ). IsIn (bytes_of_item item) at bytes) (sym more.1) (stays_in (bytes_of_item item) at (section_bytes part s) more.0 k))

  this_comes_in : (p : Placed) (s u : Spelled) → IsData item → spelled_item p.section p.item s ≡ Ok u → IsThis (length s.text_bytes) (length s.data_bytes) p → IsIn (bytes_of_item item) at (section_bytes part u)
  this_comes_in p s u d h k =
      let this : spelled_item part item s ≡ Ok u = subst (λ (q : Placed). spelled_item q.section q.item s ≡ Ok u) k.0 h in
      subst (λ (bytes : List ℕ). IsIn (bytes_of_item item) at bytes) (sym (item_adds part item s u d this))
      (subst (λ (m : ℕ). IsIn (bytes_of_item item) m (section_bytes part s ++ bytes_of_item item)) (sym (lengths part s) ∙ k.1) (comes_in (bytes_of_item item) (section_bytes part s)))

  -- the bytes of this item stand in its section
  pub items_come_in : (items : List Placed) (s t : Spelled) → IsData item → spelled items s ≡ Ok t → Has IsThis (length s.text_bytes) (length s.data_bytes) items → IsIn (bytes_of_item item) at (section_bytes part t)
  unfolding spelled
  items_come_in [] s t d h k = absurd k
  items_come_in (p ∷ ps) s t d h k =
      let step = and_then_ok (spelled_item p.section p.item s) (spelled ps) t h in
      ⊎_elim (λ r. items_stay_in ps step.0 t step.2 (this_comes_in p s step.0 d step.1 r))
      (λ more.
      let longer = item_longer p s step.0 step.1 in
      items_come_in ps step.0 t d step.2
      (subst (λ (m : ℕ). Has IsThis (length step.0.text_bytes) m ps) (sym longer.rest_is) (subst (λ (n : ℕ). Has IsThis n (length s.data_bytes + data_of p) ps) (sym longer.text_is) more))) k

pub balanced_bytes : (part : Part) (place : SectionPlace) (a : List Placed) → IsBalanced place a → bytes_of part (text_in a) (data_in a) ≡ section_size part place
balanced_bytes Text place a h = h.text_is
balanced_bytes Data place a h = h.rest_is

-- bytes in a section stand in the program
module _ (wanted : List ℕ) (size data_size : ℕ) (text bytes all : List ℕ) (text_is : length text ≡ size) (bytes_are : length bytes ≡ data_size)
    (with_data : 0 < data_size → all ≡ text ++ replicate (gap size) 0 ++ bytes) (with_none : data_size ≡ 0 → all ≡ text) where
  text_in_all : (at : ℕ) → IsIn wanted at text → IsIn wanted at all
  text_in_all at h =
      ⊎_elim (λ (more : 0 < data_size). subst (λ (b : List ℕ). IsIn wanted at b) (sym (with_data more)) (stays_in wanted at (text ++ replicate (gap size) 0) bytes (stays_in wanted at text (replicate (gap size) 0) h)))
      (λ (none : data_size ≤ 0). let zero : data_size ≡ 0 = omega arith in subst (λ (b : List ℕ). IsIn wanted at b) (sym (with_none zero)) h)
      (cases_lt 0 data_size)

  nothing_taken : (ws rest : List ℕ) → length ws ≤ 0 → take (length ws) rest ≡ ws
  nothing_taken [] rest h = refl
  nothing_taken (w ∷ ws) rest h = absurd (omega arith)

  data_in_all : (at : ℕ) → IsIn wanted at bytes → take (length wanted) (drop (data_base size - text_base + at) all) ≡ wanted
  data_in_all at h =
      ⊎_elim (λ (more : 0 < data_size).
      let front : List ℕ = text ++ replicate (gap size) 0 in
      let filled : length {A = ℕ} (replicate (gap size) 0) ≡ gap size = length-replicate (gap size) 0 in
      let long : data_base size - text_base ≡ length front = omega (arith, length-append text (replicate (gap size) 0), filled) in
      ap (λ (b : List ℕ). take (length wanted) (drop (data_base size - text_base + at) b)) (with_data more)
      ∙ ap (λ (m : ℕ). take (length wanted) (drop (m + at) (front ++ bytes))) long
      ∙ ap (λ (b : List ℕ). take (length wanted) b) (drop-append-add front bytes at)
      ∙ h.bytes_are)
      (λ (none : data_size ≤ 0). let room = h.within in nothing_taken wanted (drop (data_base size - text_base + at) all) (omega arith))
      (cases_lt 0 data_size)

pub section_in_all : (part : Part) (wanted : List ℕ) (size data_size o more : ℕ) (s : Spelled) (all : List ℕ) → length s.text_bytes ≡ size → length s.data_bytes ≡ data_size
    → (0 < data_size → all ≡ s.text_bytes ++ replicate (gap size) 0 ++ s.data_bytes) → (data_size ≡ 0 → all ≡ s.text_bytes) → IsIn wanted (o + more) (section_bytes part s)
    → take (length wanted) (drop (address_of_offset size part o - text_base + more) all) ≡ wanted
section_in_all Text wanted size data_size o more s all t d f g h =
    let at : address_of_offset size Text o - text_base + more ≡ o + more = omega arith in
    ap (λ (m : ℕ). take (length wanted) (drop m all)) at ∙ (text_in_all wanted size data_size s.text_bytes s.data_bytes all t d f g (o + more) h).bytes_are
section_in_all Data wanted size data_size o more s all t d f g h =
    let at : address_of_offset size Data o - text_base + more ≡ data_base size - text_base + (o + more) = omega arith in
    ap (λ (m : ℕ). take (length wanted) (drop m all)) at ∙ data_in_all wanted size data_size s.text_bytes s.data_bytes all t d f g (o + more) h

-- ---- the bytes of each number of a source stand in the program

adds_bytes : (part : Part) (n : ℕ) (a b : List Placed) → Adds part n a b → bytes_of part (text_in b) (data_in b) ≡ bytes_of part (text_in a) (data_in a) + n
adds_bytes Text n a b h = h.text_is
adds_bytes Data n a b h = h.rest_is

module _ (part : Part) (width : DataWidth) (value at : ℕ) where
  -- the item is this number, behind so many bytes of its section
  abbrev pub IsThisNumber : ℕ → ℕ → Placed → Type 0
  IsThisNumber t d p = IsThis part (Number width value) at t d p

  same_value : (v : ℕ) (r : Result ℕ SourceFaultKind) → r ≡ Ok v → r ≡ Ok value → v ≡ value
  same_value v r h k = cc

  number_comes : (labels : Spots) (size : ℕ) (text : List ℕ) (a b : List Placed) → number_pushed labels size part width text a ≡ Ok b → value_in labels size width text ≡ Ok value
      → bytes_of part (text_in a) (data_in a) ≡ at → Has IsThisNumber 0 0 b
  unfolding number_pushed
  number_comes labels size text a b h k e =
      let v = bind_ok (value_in labels size width text) (λ v. Ok (with_item part (Number width v) a)) b h in
      let same : v.0 ≡ value = same_value v.0 (value_in labels size width text) v.1 k in
      subst (λ (c : List Placed). Has IsThisNumber 0 0 c) (same_items _ b v.2)
      (item_comes IsThisNumber part (Number width v.0) a (ap (λ (m : ℕ). let p : Placed = record { section = part; item = Number width m } in p) same, e))

  pub numbers_come : (labels : Spots) (size n k : ℕ) (text : List ℕ) (a b : List Placed) → k < n → with_numbers labels size part width n text a ≡ Ok b → value_in labels size width (operand_at k text) ≡ Ok value
      → bytes_of part (text_in a) (data_in a) + k * bytes_in width ≡ at → Has IsThisNumber 0 0 b
  unfolding with_numbers
  numbers_come labels size zero k text a b less h v e = absurd (omega arith)
  numbers_come labels size (suc n) zero text a b less h v e =
      let one = bind_ok (number_pushed labels size part width (first_operand text) a) (λ items. with_numbers labels size part width n (other_operands text) items) b h in
      numbers_stay IsThisNumber labels size part width n (other_operands text) one.0 b one.2 (number_comes labels size (first_operand text) a one.0 one.1 v (omega arith))
  numbers_come labels size (suc n) (suc k) text a b less h v e =
      let one = bind_ok (number_pushed labels size part width (first_operand text) a) (λ items. with_numbers labels size part width n (other_operands text) items) b h in
      let more = adds_bytes part (bytes_in width) a one.0 (number_adds labels size part width (first_operand text) a one.0 one.1) in
      numbers_come labels size n k (other_operands text) one.0 b (omega arith) one.2 v (omega (arith, more))

module _ (source : List ℕ) (n k : ℕ) (width : DataWidth) (value : ℕ) (h : HasNumber source n k width value) where
  -- number k of line n, where the line is at a place
  abbrev Number_at : SectionPlace → ℕ → ℕ → Placed → Type 0
  Number_at place = IsThis place.section (Number width value) (offset place + k * bytes_in width)

  number_comes_here : (xs : List (List ℕ)) (line : List ℕ) (rest : List (List ℕ)) → source_lines source ≡ xs ++ line ∷ rest → n ≡ length xs + 1 → (place next : SectionPlace) → place ≡ (laid nothing_laid xs).place
      → (a b : List Placed) → IsBalanced place a → Line (layout_of source).labels (size_of_text source) n place next (statement_text (code_of line)) a b → Has (Number_at (place_before source n)) 0 0 b
  unfolding with_statement
  number_comes_here xs line rest split number place next is a b balanced l =
      let labels = (layout_of source).labels in
      let size : ℕ = size_of_text source in
      let there : place_before source n ≡ place = place_is source xs line rest split n number ∙ sym is in
      let one : h.says.line ≡ line = same_some h.says.line line (sym h.says.is_line ∙ line_is source xs line rest split n number) in
      let text : List ℕ = statement_text (code_of line) in
      let reads : statement_in labels place text ≡ Ok (Numbers width h.count) =
      subst (λ (p : SectionPlace). statement_in labels p text ≡ Ok (Numbers width h.count)) there
      (subst (λ (t : List ℕ). statement_in labels (place_before source n) (statement_text (code_of t)) ≡ Ok (Numbers width h.count)) one h.says.reads) in
      let statement : l.statement ≡ Numbers width h.count = same_statement l.statement (Numbers width h.count) (sym l.reads ∙ reads) in
      let adds : with_statement labels size n place text (Numbers width h.count) a ≡ Ok b = subst (λ (s : Statement). with_statement labels size n place text s a ≡ Ok b) statement l.adds in
      let is_value : value_in labels size width (operand_at k (operands text)) ≡ Ok value =
      subst (λ (t : List ℕ). value_in labels size width (operand_at k (operands (statement_text (code_of t)))) ≡ Ok value) one h.is_value in
      let at : bytes_of place.section (text_in a) (data_in a) + k * bytes_in width ≡ offset place + k * bytes_in width = ap (λ (m : ℕ). m + k * bytes_in width) (balanced_bytes place.section place a balanced) in
      subst (λ (p : SectionPlace). Has (Number_at p) 0 0 b) (sym there)
      (numbers_come place.section width value (offset place + k * bytes_in width) labels size h.count k (operands text) a b h.within adds is_value at)

  meaning_has_number : (items : List Placed) → meaning_of source ≡ Ok items → Has (Number_at (place_before source n)) 0 0 items
  meaning_has_number items meant =
      reached source n (λ a. Has (Number_at (place_before source n)) 0 0 a)
      (λ j place next text a b l. statement_stays (Number_at (place_before source n)) (layout_of source).labels (size_of_text source) j place text l.statement a b l.adds)
      number_comes_here h.says.line h.says.from_one h.says.is_line items meant

  pub number_there : (p : Assembled) → program_of source ≡ Ok p
      → take (bytes_in width) (drop (address (size_of_text source) (here (place_before source n)) - text_base + k * bytes_in width) p.bytes) ≡ number_bytes (bytes_in width) value
  unfolding program_of
  number_there p e =
      let place : SectionPlace = place_before source n in
      let meant = and_then_ok (meaning_of source) (λ items. and_then (spelled items nothing_spelled) (λ s. Ok (assembled (layout_of source).place.text_size (layout_of source).labels s))) p e in
      let spelt = and_then_ok (spelled meant.0 nothing_spelled) (λ s. Ok (assembled (layout_of source).place.text_size (layout_of source).labels s)) p meant.2 in
      let sizes = sizes_agree source meant.0 spelt.0 meant.1 spelt.1 in
      let image = data_at_base source meant.0 spelt.0 p meant.1 spelt.1 e in
      let long : length (number_bytes (bytes_in width) value) ≡ bytes_in width = number_length width value in
      subst (λ (m : ℕ). take m (drop (address (size_of_text source) (here place) - text_base + k * bytes_in width) p.bytes) ≡ number_bytes (bytes_in width) value) long
      (section_in_all place.section (number_bytes (bytes_in width) value) (size_of_text source) (size_of_data source) (offset place) (k * bytes_in width) spelt.0 p.bytes sizes.0 sizes.1 image.0 image.1
      (items_come_in place.section (Number width value) (offset place + k * bytes_in width) meant.0 nothing_spelled spelt.0 tt spelt.1 (meaning_has_number meant.0 meant.1)))

-- ---- the bytes of .space and .align stand at their line's place

-- line n of a source adds one item of data at its place
module _ (source : List ℕ) (n : ℕ) (statement : Statement) (item : SectionPlace → SourceItem) (says : Says source n statement) (is_data : (place : SectionPlace) → IsData (item place))
    (adds : (labels : Spots) (size j : ℕ) (place : SectionPlace) (text : List ℕ) (a b : List Placed) → with_statement labels size j place text statement a ≡ Ok b → with_item place.section (item place) a ≡ b) where
  abbrev Item_at : SectionPlace → ℕ → ℕ → Placed → Type 0
  Item_at place = IsThis place.section (item place) (offset place)

  comes_here : (xs : List (List ℕ)) (line : List ℕ) (rest : List (List ℕ)) → source_lines source ≡ xs ++ line ∷ rest → n ≡ length xs + 1 → (place next : SectionPlace) → place ≡ (laid nothing_laid xs).place
      → (a b : List Placed) → IsBalanced place a → Line (layout_of source).labels (size_of_text source) n place next (statement_text (code_of line)) a b → Has (Item_at (place_before source n)) 0 0 b
  comes_here xs line rest split number place next is a b balanced l =
      let labels = (layout_of source).labels in
      let size : ℕ = size_of_text source in
      let there : place_before source n ≡ place = place_is source xs line rest split n number ∙ sym is in
      let one : says.line ≡ line = same_some says.line line (sym says.is_line ∙ line_is source xs line rest split n number) in
      let text : List ℕ = statement_text (code_of line) in
      let reads : statement_in labels place text ≡ Ok statement =
      subst (λ (p : SectionPlace). statement_in labels p text ≡ Ok statement) there
      (subst (λ (t : List ℕ). statement_in labels (place_before source n) (statement_text (code_of t)) ≡ Ok statement) one says.reads) in
      let same : l.statement ≡ statement = same_statement l.statement statement (sym l.reads ∙ reads) in
      let added : with_statement labels size n place text statement a ≡ Ok b = subst (λ (s : Statement). with_statement labels size n place text s a ≡ Ok b) same l.adds in
      subst (λ (p : SectionPlace). Has (Item_at p) 0 0 b) (sym there)
      (subst (λ (c : List Placed). Has (Item_at place) 0 0 c) (adds labels size n place text a b added)
      (item_comes (Item_at place) place.section (item place) a (refl, balanced_bytes place.section place a balanced)))

  meaning_has : (items : List Placed) → meaning_of source ≡ Ok items → Has (Item_at (place_before source n)) 0 0 items
  meaning_has items meant =
      reached source n (λ a. Has (Item_at (place_before source n)) 0 0 a)
      (λ j place next text a b l. statement_stays (Item_at (place_before source n)) (layout_of source).labels (size_of_text source) j place text l.statement a b l.adds)
      comes_here says.line says.from_one says.is_line items meant

  item_there : (p : Assembled) → program_of source ≡ Ok p
      → take (length (bytes_of_item (item (place_before source n)))) (drop (address (size_of_text source) (here (place_before source n)) - text_base) p.bytes) ≡ bytes_of_item (item (place_before source n))
  unfolding program_of
  item_there p e =
      let place : SectionPlace = place_before source n in
      let wanted : List ℕ = bytes_of_item (item place) in
      let meant = and_then_ok (meaning_of source) (λ items. and_then (spelled items nothing_spelled) (λ s. Ok (assembled (layout_of source).place.text_size (layout_of source).labels s))) p e in
      let spelt = and_then_ok (spelled meant.0 nothing_spelled) (λ s. Ok (assembled (layout_of source).place.text_size (layout_of source).labels s)) p meant.2 in
      let sizes = sizes_agree source meant.0 spelt.0 meant.1 spelt.1 in
      let image = data_at_base source meant.0 spelt.0 p meant.1 spelt.1 e in
      let stands = items_come_in place.section (item place) (offset place) meant.0 nothing_spelled spelt.0 (is_data place) spelt.1 (meaning_has meant.0 meant.1) in
      let at : offset place + 0 ≡ offset place = omega arith in
      let there : address (size_of_text source) (here place) - text_base + 0 ≡ address (size_of_text source) (here place) - text_base = omega arith in
      subst (λ (m : ℕ). take (length wanted) (drop m p.bytes) ≡ wanted) there
      (section_in_all place.section wanted (size_of_text source) (size_of_data source) (offset place) 0 spelt.0 p.bytes sizes.0 sizes.1 image.0 image.1
      (subst (λ (m : ℕ). IsIn wanted m (section_bytes place.section spelt.0)) (sym at) stands))

space_adds : (labels : Spots) (size j count : ℕ) (place : SectionPlace) (text : List ℕ) (a b : List Placed) → with_statement labels size j place text (Space count) a ≡ Ok b → with_item place.section (Zeros count) a ≡ b
unfolding with_statement
space_adds labels size j count place text a b h = same_items _ b h

align_adds : (labels : Spots) (size j power : ℕ) (place : SectionPlace) (text : List ℕ) (a b : List Placed) → with_statement labels size j place text (Align power) a ≡ Ok b → with_item place.section (filling place power) a ≡ b
unfolding with_statement
align_adds labels size j power place text a b h = same_items _ b h

pub spaces_are_zeros : SpacesAreZeros
spaces_are_zeros source p e n size says =
    let there = item_there source n (Space size) (λ place. Zeros size) says (λ place. tt) (λ labels text_size j place text a b h. space_adds labels text_size j size place text a b h) p e in
    let bytes : repeated size (0 ∷ []) [] ≡ replicate size 0 = zeros size [] in
    let long : length (repeated size (0 ∷ []) []) ≡ size = omega (arith, length-repeated size (0 ∷ []) []) in
    subst (λ (m : ℕ). take m (drop (address (size_of_text source) (here (place_before source n)) - text_base) p.bytes) ≡ replicate size 0) long (there ∙ bytes)

pub filling_data : (place : SectionPlace) (power : ℕ) → IsData (filling place power)
unfolding filling
filling_data place power = by (is_text place.section && (place.text_size % 4 == 0 && nat_le 2 power))
  where
    by : (t : Bool) → IsData (cond t (Nops (padding (offset place) power / 4)) (Zeros (padding (offset place) power)))
    by true = tt
    by false = tt

filling_is : (place : SectionPlace) (power : ℕ) → bytes_of_item (filling place power) ≡ filling_bytes place power
unfolding filling
filling_is place power = by (is_text place.section && (place.text_size % 4 == 0 && nat_le 2 power))
  where
    by : (t : Bool) → bytes_of_item (cond t (Nops (padding (offset place) power / 4)) (Zeros (padding (offset place) power))) ≡ cond t (repeated (padding (offset place) power / 4) nop_bytes []) (replicate (padding (offset place) power) 0)
    by true = refl
    by false = zeros (padding (offset place) power) []

filling_long : (place : SectionPlace) (power : ℕ) → length (bytes_of_item (filling place power)) ≡ item_size (filling place power)
unfolding filling
filling_long place power = by (is_text place.section && (place.text_size % 4 == 0 && nat_le 2 power))
  where
    by : (t : Bool) → length (bytes_of_item (cond t (Nops (padding (offset place) power / 4)) (Zeros (padding (offset place) power)))) ≡ item_size (cond t (Nops (padding (offset place) power / 4)) (Zeros (padding (offset place) power)))
    by true = omega (arith, length-repeated (padding (offset place) power / 4) nop_bytes [])
    by false = omega (arith, length-repeated (padding (offset place) power) (0 ∷ []) [])

pub alignments_are_filled : AlignmentsAreFilled
alignments_are_filled source p e n power says =
    let place : SectionPlace = place_before source n in
    let there = item_there source n (Align power) (λ place. filling place power) says (λ place. filling_data place power) (λ labels size j place text a b h. align_adds labels size j power place text a b h) p e in
    let long : length (bytes_of_item (filling place power)) ≡ padding (offset place) power = filling_long place power ∙ padding_sized place power in
    subst (λ (m : ℕ). take m (drop (address (size_of_text source) (here place) - text_base) p.bytes) ≡ filling_bytes place power) long (there ∙ filling_is place power)
