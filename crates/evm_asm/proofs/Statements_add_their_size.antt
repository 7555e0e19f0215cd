-- What a statement adds to the items is its size, and what is there stays.
use Rattle.std.proofs.Common.{◌≡◌, ℕ, zero, suc, ◌+◌, ◌*◌, List, [], ◌∷◌, ◌++◌, length, Option, Some, None, Ok, refl, subst, arith, length-append, ◌∙◌, min, ◌-◌, ◌/◌, ◌%◌, ◌^◌, ◌<◌, ◌≤◌, Bool, true, false, cond, ◌&&◌, ◌==◌, nat_le, Err, ap, sym, ◌⊎◌, inl, inr, ⊎_elim}
use Rattle.std.specs.Int.{w32, to_le_bytes}
use Rattle.std.specs.Prelude.{ℤ}
use Rattle.std.proofs.lemmas.Bool.{leb-true}
use Rattle.std.proofs.lemmas.Bool.Decides.{nat_tests}
use Rattle.std.proofs.lemmas.Nat.{pow-add}
use Rattle.std.proofs.Math.Pow.{pow_pos}
use Rattle.evm_isa.specs.declared.inst.Inst.{Inst}
use Rattle.evm_isa.specs.Encoded.{encoded}
use Rattle.evm_asm_parser.specs.evm_asm_lexer.declared.mnemonic.Section.{Section as Part}
use Rattle.evm_asm_parser.specs.evm_asm_lexer.declared.mnemonic.Section.TheVariants.{Text, Data}
use Rattle.evm_asm_parser.specs.evm_asm_lexer.declared.mnemonic.DataWidth.{DataWidth}
use Rattle.evm_asm_parser.specs.evm_asm_lexer.declared.mnemonic.DataWidth.TheVariants.{Byte, Word, Dword}
use Rattle.evm_asm_parser.specs.evm_asm_lexer.declared.source_fault.SourceFaultKind.TheVariants.{TooLarge}
use Rattle.evm_asm_parser.specs.evm_asm_lexer.Faults.{◌>>=◌}
use Rattle.evm_asm_parser.specs.declared.spot.Spot.{Spot}
use Rattle.evm_asm_parser.specs.declared.statement.Statement.{Statement}
use Rattle.evm_asm_parser.specs.declared.statement.Statement.TheVariants.{Nothing, One, Branch, Jump, LoadImmediate, LoadAddress, Section, Numbers, Space, Align}
use Rattle.evm_asm_parser.specs.Operands.{Spots, first_operand, other_operands}
use Rattle.evm_asm.specs.declared.item.SourceItem.{SourceItem}
use Rattle.evm_asm.specs.declared.item.SourceItem.TheVariants.{Instruction, Number, Zeros, Nops}
use Rattle.evm_asm.specs.declared.item.Placed.{Placed}
use Rattle.evm_asm.specs.Places.{bytes_in, offset, section_size, farther, grown, is_small, low_word, needs_low_part, padding, load_size, size_at, place_behind, is_text}
use Rattle.evm_asm.specs.Programs.{Spelled, spelled, spelled_item, worded, repeated, number_bytes, nop_bytes}
use Rattle.evm_asm.specs.declared.item.Expansion.{Expansion}
use Rattle.evm_asm.specs.declared.item.Expansion.TheVariants.{Empty, Single, Double}
use Rattle.evm_asm.specs.declared.place.SectionPlace.{SectionPlace}
use Rattle.evm_asm.specs.Items.{text_base, distance_to, load_immediate, load_address, expanded, with_item, with_instructions, value_in, number_pushed, with_numbers, filling, operands, with_statement}
use Rattle.evm_asm.proofs.Results.{and_then_ok, same_ok, bind_ok, same_items, same_place, same_expansion}
use Rattle.evm_asm.proofs.Statements_without_labels.{is_instruction}

-- ---- how many bytes a list of items adds to each section

-- so many bytes of a section, as the text and the data see them
abbrev pub in_text : Part → ℕ → ℕ
in_text Text n = n
in_text Data n = 0

abbrev pub in_data : Part → ℕ → ℕ
in_data Text n = 0
in_data Data n = n

abbrev pub item_size : SourceItem → ℕ
item_size (Instruction line i) = 4
item_size (Number width value) = bytes_in width
item_size (Zeros n) = n
item_size (Nops n) = n * 4

-- an instruction stands in the text, whatever its section is
abbrev pub item_section : Part → SourceItem → Part
item_section part (Instruction line i) = Text
item_section part item = part

abbrev pub text_of : Placed → ℕ
text_of p = in_text (item_section p.section p.item) (item_size p.item)

abbrev pub data_of : Placed → ℕ
data_of p = in_data (item_section p.section p.item) (item_size p.item)

abbrev pub text_in : List Placed → ℕ
text_in [] = 0
text_in (p ∷ ps) = text_of p + text_in ps

abbrev pub data_in : List Placed → ℕ
data_in [] = 0
data_in (p ∷ ps) = data_of p + data_in ps

pub text_in-push : (ps : List Placed) (p : Placed) → text_in (ps ++ p ∷ []) ≡ text_in ps + text_of p
text_in-push [] p = omega arith
text_in-push (q ∷ ps) p = let h = text_in-push ps p in omega (arith, h)

pub data_in-push : (ps : List Placed) (p : Placed) → data_in (ps ++ p ∷ []) ≡ data_in ps + data_of p
data_in-push [] p = omega arith
data_in-push (q ∷ ps) p = let h = data_in-push ps p in omega (arith, h)

pub length-repeated : (n : ℕ) (unit bytes : List ℕ) → length (repeated n unit bytes) ≡ length bytes + n * length unit
unfolding repeated
length-repeated zero unit bytes = omega arith
length-repeated (suc n) unit bytes = let h = length-repeated n unit (bytes ++ unit) in let k = length-append bytes unit in omega (arith, h, k)

-- the lengths of the two sections behind an item
pub record IsLonger (text more : ℕ) (s u : Spelled) : Type 0 where
  pub text_is : length u.text_bytes ≡ length s.text_bytes + text
  pub rest_is : length u.data_bytes ≡ length s.data_bytes + more

pub number_length : (width : DataWidth) (value : ℕ) → length (number_bytes (bytes_in width) value) ≡ bytes_in width
number_length Byte value = refl
number_length Word value = refl
number_length Dword value = refl

word_longer : (line : ℕ) (i : Inst) (o : Option ℕ) (s u : Spelled) → worded line i o s ≡ Ok u → IsLonger 4 0 s u
word_longer line i (Some w) s u h =
    let four : length (to_le_bytes w32 w) ≡ 4 = refl in
    subst (λ (t : Spelled). IsLonger 4 0 s t) (same_ok _ u h)
    (record { text_is = omega (arith, length-append s.text_bytes (to_le_bytes w32 w)); rest_is = omega arith })
word_longer line i None s u h = cc

longer_by : (part : Part) (item : SourceItem) (s u : Spelled) → spelled_item part item s ≡ Ok u
    → IsLonger (in_text (item_section part item) (item_size item)) (in_data (item_section part item) (item_size item)) s u
unfolding spelled_item
longer_by part (Instruction line i) s u h = word_longer line i (encoded i) s u h
longer_by Text (Number width value) s u h =
    subst (λ (t : Spelled). IsLonger (bytes_in width) 0 s t) (same_ok _ u h)
    (record { text_is = omega (arith, length-append s.text_bytes (number_bytes (bytes_in width) value), number_length width value); rest_is = omega arith })
longer_by Data (Number width value) s u h =
    subst (λ (t : Spelled). IsLonger 0 (bytes_in width) s t) (same_ok _ u h)
    (record { text_is = omega arith; rest_is = omega (arith, length-append s.data_bytes (number_bytes (bytes_in width) value), number_length width value) })
longer_by Text (Zeros n) s u h =
    subst (λ (t : Spelled). IsLonger n 0 s t) (same_ok _ u h)
    (record { text_is = omega (arith, length-repeated n (0 ∷ []) s.text_bytes); rest_is = omega arith })
longer_by Data (Zeros n) s u h =
    subst (λ (t : Spelled). IsLonger 0 n s t) (same_ok _ u h)
    (record { text_is = omega arith; rest_is = omega (arith, length-repeated n (0 ∷ []) s.data_bytes) })
longer_by Text (Nops n) s u h =
    subst (λ (t : Spelled). IsLonger (n * 4) 0 s t) (same_ok _ u h)
    (record { text_is = omega (arith, length-repeated n nop_bytes s.text_bytes); rest_is = omega arith })
longer_by Data (Nops n) s u h =
    subst (λ (t : Spelled). IsLonger 0 (n * 4) s t) (same_ok _ u h)
    (record { text_is = omega arith; rest_is = omega (arith, length-repeated n nop_bytes s.data_bytes) })

pub item_longer : (p : Placed) (s u : Spelled) → spelled_item p.section p.item s ≡ Ok u → IsLonger (text_of p) (data_of p) s u
item_longer p s u h = longer_by p.section p.item s u h

pub items_longer : (items : List Placed) (s t : Spelled) → spelled items s ≡ Ok t → IsLonger (text_in items) (data_in items) s t
unfolding spelled
items_longer [] s t h = subst (λ (t : Spelled). IsLonger 0 0 s t) (same_ok s t h) (record { text_is = omega arith; rest_is = omega arith })
items_longer (p ∷ ps) s t h =
    let step = and_then_ok (spelled_item p.section p.item s) (spelled ps) t h in
    let one = item_longer p s step.0 step.1 in
    let others = items_longer ps step.0 t step.2 in
    record { text_is = omega (arith, one.text_is, others.text_is); rest_is = omega (arith, one.rest_is, others.rest_is) }

-- ---- what a statement adds to the sections is its size

-- the second list has so many bytes more of a section
pub record Adds (part : Part) (n : ℕ) (a b : List Placed) : Type 0 where
  pub text_is : text_in b ≡ text_in a + in_text part n
  pub rest_is : data_in b ≡ data_in a + in_data part n

-- the items have the bytes that the place counts
pub record IsBalanced (place : SectionPlace) (items : List Placed) : Type 0 where
  pub text_is : text_in items ≡ place.text_size
  pub rest_is : data_in items ≡ place.data_size

adds_none : (part : Part) (n : ℕ) (a : List Placed) → n ≡ 0 → Adds part n a a
adds_none Text n a h = record { text_is = omega arith; rest_is = omega arith }
adds_none Data n a h = record { text_is = omega arith; rest_is = omega arith }

adds_both : (part : Part) (m n k : ℕ) (a b c : List Placed) → k ≡ m + n → Adds part m a b → Adds part n b c → Adds part k a c
adds_both Text m n k a b c e h g = record { text_is = omega (arith, h.text_is, g.text_is); rest_is = omega (arith, h.rest_is, g.rest_is) }
adds_both Data m n k a b c e h g = record { text_is = omega (arith, h.text_is, g.text_is); rest_is = omega (arith, h.rest_is, g.rest_is) }

adds_item : (part : Part) (item : SourceItem) (n : ℕ) (so_far : List Placed) → item_section part item ≡ part → item_size item ≡ n → Adds part n so_far (with_item part item so_far)
adds_item part item n so_far e k = record {
  text_is = text_in-push so_far (record { section = part; item = item }) ∙ ap (λ (q : Part). text_in so_far + in_text q (item_size item)) e ∙ ap (λ (m : ℕ). text_in so_far + in_text part m) k;
  rest_is = data_in-push so_far (record { section = part; item = item }) ∙ ap (λ (q : Part). data_in so_far + in_data q (item_size item)) e ∙ ap (λ (m : ℕ). data_in so_far + in_data part m) k;
}

farther_balanced : (part : Part) (place : SectionPlace) (n : ℕ) (a b : List Placed) → Adds part n a b → IsBalanced place a → IsBalanced (farther part place n) b
farther_balanced Text place n a b h k = record { text_is = omega (arith, h.text_is, k.text_is); rest_is = omega (arith, h.rest_is, k.rest_is) }
farther_balanced Data place n a b h k = record { text_is = omega (arith, h.text_is, k.text_is); rest_is = omega (arith, h.rest_is, k.rest_is) }

-- the place, where a section isn't too long
grown_by : (part : Part) (place next : SectionPlace) (size room : ℕ) (t : Bool) → nat_le size room ≡ t → room ≤ 8388608 → cond t (Ok (farther part place size)) (Err TooLarge) ≡ Ok next
    → (size ≤ 8388608) × (farther part place size ≡ next)
grown_by part place next size room true e k h = let le : size ≤ room = leb-true size room e in (omega arith, same_place _ next h)
grown_by part place next size room false e k h = cc

grown_ok : (place next : SectionPlace) (size : ℕ) → grown place size ≡ Ok next → (size ≤ 8388608) × (farther place.section place size ≡ next)
unfolding grown
grown_ok place next size h = grown_by place.section place next size (8388608 - offset place) _ refl (omega arith) h

grown_balanced : (place next : SectionPlace) (size : ℕ) (a b : List Placed) → grown place size ≡ Ok next → (size ≤ 8388608 → Adds place.section size a b) → IsBalanced place a → IsBalanced next b
grown_balanced place next size a b h adds k =
    let g = grown_ok place next size h in
    subst (λ (p : SectionPlace). IsBalanced p b) g.1 (farther_balanced place.section place size a b (adds g.0) k)

pub number_adds : (labels : Spots) (size : ℕ) (part : Part) (width : DataWidth) (text : List ℕ) (a b : List Placed) → number_pushed labels size part width text a ≡ Ok b → Adds part (bytes_in width) a b
unfolding number_pushed
number_adds labels size part width text a b h =
    let v = bind_ok (value_in labels size width text) (λ v. Ok (with_item part (Number width v) a)) b h in
    subst (λ (c : List Placed). Adds part (bytes_in width) a c) (same_items _ b v.2) (adds_item part (Number width v.0) (bytes_in width) a refl refl)

numbers_add : (labels : Spots) (size : ℕ) (part : Part) (width : DataWidth) (n : ℕ) (text : List ℕ) (a b : List Placed) → with_numbers labels size part width n text a ≡ Ok b → Adds part (n * bytes_in width) a b
unfolding with_numbers
numbers_add labels size part width zero text a b h = subst (λ (c : List Placed). Adds part (0 * bytes_in width) a c) (same_items a b h) (adds_none part (0 * bytes_in width) a (omega arith))
numbers_add labels size part width (suc n) text a b h =
    let one = bind_ok (number_pushed labels size part width (first_operand text) a) (λ items. with_numbers labels size part width n (other_operands text) items) b h in
    adds_both part (bytes_in width) (n * bytes_in width) (suc n * bytes_in width) a one.0 b (omega arith)
    (number_adds labels size part width (first_operand text) a one.0 one.1) (numbers_add labels size part width n (other_operands text) one.0 b one.2)

abbrev pub expansion_size : Expansion → ℕ
expansion_size Empty = 0
expansion_size (Single i) = 4
expansion_size (Double i j) = 8

instructions_add : (line : ℕ) (e : Expansion) (a : List Placed) → Adds Text (expansion_size e) a (with_instructions line e a)
unfolding with_instructions
instructions_add line Empty a = adds_none Text 0 a refl
instructions_add line (Single i) a = adds_item Text (Instruction line i) 4 a refl refl
instructions_add line (Double i j) a =
    adds_both Text 4 4 8 a _ _ refl (adds_item Text (Instruction line i) 4 a refl refl) (adds_item Text (Instruction line j) 4 _ refl refl)

immediate_size_by : (a b c d : Inst) (t u : Bool) → cond t 4 (cond u 8 4) ≡ expansion_size (cond t (Single a) (cond u (Double b c) (Single d)))
immediate_size_by a b c d true u = refl
immediate_size_by a b c d false true = refl
immediate_size_by a b c d false false = refl

immediate_size : (rd : ℕ) (value : ℤ) → load_size value ≡ expansion_size (load_immediate rd value)
unfolding load_size load_immediate
immediate_size rd value = immediate_size_by _ _ _ _ (is_small value) (needs_low_part (low_word value))

address_size : (size from rd : ℕ) (o : Option Spot) (e : Expansion) → load_address size from rd o ≡ Ok e → 8 ≡ expansion_size e
unfolding load_address
address_size size from rd (Some spot) e h = ap (λ (x : Expansion). expansion_size x) (same_expansion _ e h)
address_size size from rd None e h = cc

-- an instruction statement becomes as many bytes as its size says
expanded_size : (size from off : ℕ) (s : Statement) (e : Expansion) → is_instruction s ≡ true → expanded size from s ≡ Ok e → size_at off s ≡ expansion_size e
unfolding expanded size_at
expanded_size size from off (One i) e k h = ap (λ (x : Expansion). expansion_size x) (same_expansion _ e h)
expanded_size size from off (Branch op rs1 rs2 target) e k h =
    let d = bind_ok (distance_to 4096 4094 size from target) _ e h in ap (λ (x : Expansion). expansion_size x) (same_expansion _ e d.2)
expanded_size size from off (Jump rd target) e k h =
    let d = bind_ok (distance_to 1048576 1048574 size from target) _ e h in ap (λ (x : Expansion). expansion_size x) (same_expansion _ e d.2)
expanded_size size from off (LoadImmediate rd value) e k h = immediate_size rd value ∙ ap (λ (x : Expansion). expansion_size x) (same_expansion _ e h)
expanded_size size from off (LoadAddress rd target) e k h = address_size size from rd target e h
expanded_size size from off s e k h = cc

instruction_balanced : (size line : ℕ) (place next : SectionPlace) (s : Statement) (a b : List Placed) → is_instruction s ≡ true → place.section ≡ Text
    → (expanded size (text_base + place.text_size) s >>= λ e. Ok (with_instructions line e a)) ≡ Ok b → grown place (size_at (offset place) s) ≡ Ok next → IsBalanced place a → IsBalanced next b
instruction_balanced size line place next s a b k t h g balanced =
    let e = bind_ok (expanded size (text_base + place.text_size) s) (λ e. Ok (with_instructions line e a)) b h in
    let adds : Adds Text (expansion_size e.0) a b = subst (λ (c : List Placed). Adds Text (expansion_size e.0) a c) (same_items _ b e.2) (instructions_add line e.0 a) in
    let sized : Adds Text (size_at (offset place) s) a b = subst (λ (n : ℕ). Adds Text n a b) (sym (expanded_size size (text_base + place.text_size) (offset place) s e.0 k e.1)) adds in
    grown_balanced place next (size_at (offset place) s) a b g (λ _. subst (λ (part : Part). Adds part (size_at (offset place) s) a b) (sym t) sized) balanced

-- a padding up to a multiple of 4 or more, from a multiple of 4, is a multiple of 4
remainder : (x q : ℕ) → 0 < q → x % 4 ≡ 0 → x % (4 * q) % 4 ≡ 0
remainder x q h k = omega arith

power_of_four : (power : ℕ) → 2 ≤ power → 2 ^ power ≡ 4 * 2 ^ (power - 2)
power_of_four power h = let e : power ≡ 2 + (power - 2) = omega arith in ap (λ (n : ℕ). 2 ^ n) e ∙ pow-add 2 2 (power - 2)

padded_by : (o p q : ℕ) → p ≡ 4 * q → 0 < q → o % 4 ≡ 0 → (p - o % p) % p / 4 * 4 ≡ (p - o % p) % p
padded_by o p q e h k =
    let one : o % (4 * q) % 4 ≡ 0 = remainder o q h k in
    let less : o % (4 * q) < 4 * q = omega arith in
    let two : (4 * q - o % (4 * q)) % (4 * q) % 4 ≡ 0 = remainder (4 * q - o % (4 * q)) q h (omega arith) in
    subst (λ (n : ℕ). (n - o % n) % n / 4 * 4 ≡ (n - o % n) % n) (sym e) (omega arith)

padded : (o power : ℕ) → o % 4 ≡ 0 → 2 ≤ power → padding o power / 4 * 4 ≡ padding o power
padded o power k h = padded_by o (2 ^ power) (2 ^ (power - 2)) (power_of_four power h) (pow_pos (power - 2)) k

filled_by : (part : Part) (place : SectionPlace) (power : ℕ) (t u : Bool) → (place.text_size % 4 == 0) ≡ t → nat_le 2 power ≡ u
    → item_size (cond (is_text part && (t && u)) (Nops (padding (section_size part place) power / 4)) (Zeros (padding (section_size part place) power))) ≡ padding (section_size part place) power
filled_by Text place power true true e f = let le : 2 ≤ power = leb-true 2 power f in let zero : place.text_size % 4 ≡ 0 = grind (arith, nat_tests) in padded place.text_size power zero le
filled_by Text place power true false e f = refl
filled_by Text place power false u e f = refl
filled_by Data place power t u e f = refl

filled_section : (part : Part) (t : Bool) (m n : ℕ) → item_section part (cond t (Nops m) (Zeros n)) ≡ part
filled_section part true m n = refl
filled_section part false m n = refl

pub padding_sized : (place : SectionPlace) (power : ℕ) → item_size (filling place power) ≡ padding (offset place) power
unfolding filling
padding_sized place power = filled_by place.section place power (place.text_size % 4 == 0) (nat_le 2 power) refl refl

align_adds : (place : SectionPlace) (power : ℕ) (a : List Placed) → Adds place.section (padding (offset place) power) a (with_item place.section (filling place power) a)
unfolding filling
align_adds place power a =
    adds_item place.section (filling place power) (padding (offset place) power) a
    (filled_section place.section (is_text place.section && (place.text_size % 4 == 0 && nat_le 2 power)) _ _)
    (filled_by place.section place power (place.text_size % 4 == 0) (nat_le 2 power) refl refl)

-- behind a statement the items have the bytes that the place counts
pub statement_balanced : (labels : Spots) (size line : ℕ) (place next : SectionPlace) (text : List ℕ) (s : Statement) (a b : List Placed)
    → (is_instruction s ≡ true → place.section ≡ Text) → with_statement labels size line place text s a ≡ Ok b → place_behind place s ≡ Ok next → IsBalanced place a → IsBalanced next b
unfolding with_statement place_behind expanded with_instructions size_at
statement_balanced labels size line place next text Nothing a b t h k balanced =
    grown_balanced place next 0 a b k (λ _. subst (λ (c : List Placed). Adds place.section 0 a c) (same_items a b h) (adds_none place.section 0 a refl)) balanced
statement_balanced labels size line place next text (Section part) a b t h k balanced =
    subst (λ (c : List Placed). IsBalanced next c) (same_items a b h)
    (subst (λ (p : SectionPlace). IsBalanced p a) (same_place _ next k) (record { text_is = balanced.text_is; rest_is = balanced.rest_is }))
statement_balanced labels size line place next text (Numbers width count) a b t h k balanced =
    grown_balanced place next _ a b k
    (λ small. let n : count * bytes_in width ≡ min (bytes_in width * count) 18446744073709551615 = omega arith in
    subst (λ (m : ℕ). Adds place.section m a b) n (numbers_add labels size place.section width count (operands text) a b h)) balanced
statement_balanced labels size line place next text (Space n) a b t h k balanced =
    grown_balanced place next n a b k (λ _. subst (λ (c : List Placed). Adds place.section n a c) (same_items _ b h) (adds_item place.section (Zeros n) n a refl refl)) balanced
statement_balanced labels size line place next text (Align power) a b t h k balanced =
    grown_balanced place next (padding (offset place) power) a b k (λ _. subst (λ (c : List Placed). Adds place.section (padding (offset place) power) a c) (same_items _ b h) (align_adds place power a)) balanced
statement_balanced labels size line place next text s a b t h k balanced = instruction_balanced size line place next s a b refl (t refl) h k balanced

-- ---- what stands in a list of items stays there

module _ (R : ℕ → ℕ → Placed → Type 0) where
  -- R holds of one of the items, behind so many bytes of text and of data
  abbrev pub Has : ℕ → ℕ → List Placed → Type 0
  Has t d [] = ⊥
  Has t d (p ∷ ps) = R t d p ⊎ Has (t + text_of p) (d + data_of p) ps

  stays : (t d : ℕ) (ps : List Placed) (p : Placed) → Has t d ps → Has t d (ps ++ p ∷ [])
  stays t d [] p h = absurd h
  stays t d (q ∷ ps) p h = ⊎_elim (λ k. inl k) (λ k. inr (stays (t + text_of q) (d + data_of q) ps p k)) h

  at_bytes : (p : Placed) (t u d e : ℕ) → t ≡ u → d ≡ e → R t d p → R u e p
  at_bytes p t u d e h k r = subst (λ (m : ℕ). R u m p) k (subst (λ (m : ℕ). R m d p) h r)

  comes : (t d : ℕ) (ps : List Placed) (p : Placed) → R (t + text_in ps) (d + data_in ps) p → Has t d (ps ++ p ∷ [])
  comes t d [] p r = inl (at_bytes p (t + 0) t (d + 0) d (omega arith) (omega arith) r)
  comes t d (q ∷ ps) p r =
      inr (comes (t + text_of q) (d + data_of q) ps p
      (at_bytes p (t + (text_of q + text_in ps)) (t + text_of q + text_in ps) (d + (data_of q + data_in ps)) (d + data_of q + data_in ps) (omega arith) (omega arith) r))

  pub item_stays : (part : Part) (item : SourceItem) (a : List Placed) → Has 0 0 a → Has 0 0 (with_item part item a)
  item_stays part item a h = stays 0 0 a (record { section = part; item = item }) h

  pub item_comes : (part : Part) (item : SourceItem) (a : List Placed) → R (text_in a) (data_in a) (record { section = part; item = item }) → Has 0 0 (with_item part item a)
  item_comes part item a r =
      let p : Placed = record { section = part; item = item } in
      comes 0 0 a p (at_bytes p (text_in a) (0 + text_in a) (data_in a) (0 + data_in a) (omega arith) (omega arith) r)

  number_stays : (labels : Spots) (size : ℕ) (part : Part) (width : DataWidth) (text : List ℕ) (a b : List Placed) → number_pushed labels size part width text a ≡ Ok b → Has 0 0 a → Has 0 0 b
  unfolding number_pushed
  number_stays labels size part width text a b h k =
      let v = bind_ok (value_in labels size width text) (λ v. Ok (with_item part (Number width v) a)) b h in
      subst (λ (c : List Placed). Has 0 0 c) (same_items _ b v.2) (item_stays part (Number width v.0) a k)

  pub numbers_stay : (labels : Spots) (size : ℕ) (part : Part) (width : DataWidth) (n : ℕ) (text : List ℕ) (a b : List Placed) → with_numbers labels size part width n text a ≡ Ok b → Has 0 0 a → Has 0 0 b
  unfolding with_numbers
  numbers_stay labels size part width zero text a b h k = subst (λ (c : List Placed). Has 0 0 c) (same_items a b h) k
  numbers_stay labels size part width (suc n) text a b h k =
      let one = bind_ok (number_pushed labels size part width (first_operand text) a) (λ items. with_numbers labels size part width n (other_operands text) items) b h in
      numbers_stay labels size part width n (other_operands text) one.0 b one.2 (number_stays labels size part width (first_operand text) a one.0 one.1 k)

  instructions_stay : (line : ℕ) (e : Expansion) (a : List Placed) → Has 0 0 a → Has 0 0 (with_instructions line e a)
  unfolding with_instructions
  instructions_stay line Empty a k = k
  instructions_stay line (Single i) a k = item_stays Text (Instruction line i) a k
  instructions_stay line (Double i j) a k = item_stays Text (Instruction line j) _ (item_stays Text (Instruction line i) a k)

  pub statement_stays : (labels : Spots) (size line : ℕ) (place : SectionPlace) (text : List ℕ) (s : Statement) (a b : List Placed) → with_statement labels size line place text s a ≡ Ok b → Has 0 0 a → Has 0 0 b
  unfolding with_statement
  statement_stays labels size line place text (Numbers width count) a b h k = numbers_stay labels size place.section width count (operands text) a b h k
  statement_stays labels size line place text (Space n) a b h k = subst (λ (c : List Placed). Has 0 0 c) (same_items _ b h) (item_stays place.section (Zeros n) a k)
  statement_stays labels size line place text (Align power) a b h k = subst (λ (c : List Placed). Has 0 0 c) (same_items _ b h) (item_stays place.section (filling place power) a k)
  statement_stays labels size line place text s a b h k =
      let e = bind_ok (expanded size (text_base + place.text_size) s) (λ e. Ok (with_instructions line e a)) b h in
      subst (λ (c : List Placed). Has 0 0 c) (same_items _ b e.2) (instructions_stay line e.0 a k)
