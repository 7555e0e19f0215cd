-- The lines and the labels of a program stand in the order of its source.
use Rattle.std.proofs.Common.{◌≡◌, ℕ, zero, suc, ◌+◌, ◌≤◌, List, [], ◌∷◌, ◌++◌, length, Option, Some, None, Ok, IfOk, All, ap, refl, subst, arith, ◌∙◌, Bool, true, false, cond, is_some, sym, append_assoc, map}
use Rattle.std.specs.List.{AllPairs}
use Rattle.std.proofs.lemmas.List.Elements.{All-push, All-map}
use Rattle.std.proofs.lemmas.List.Quantifiers.{all_pairs_push}
use Rattle.std.proofs.lemmas.Result.{IfOk-at_ok}
use Rattle.std.proofs.lemmas.List.{append-nil}
use Rattle.evm_isa.specs.declared.inst.Inst.{Inst}
use Rattle.evm_isa.specs.Encoded.{encoded}
use Rattle.evm_asm.specs.evm_asm_lexer.declared.mnemonic.Section.{Section as Part}
use Rattle.evm_asm.specs.evm_asm_lexer.declared.mnemonic.Section.TheVariants.{Text, Data}
use Rattle.evm_asm.specs.evm_asm_lexer.declared.mnemonic.DataWidth.{DataWidth}
use Rattle.evm_asm.specs.evm_asm_lexer.Faults.{◌>>=◌}
use Rattle.evm_asm.specs.evm_asm_lexer.Names.{named}
use Rattle.evm_asm.specs.evm_asm_parser.declared.statement.Statement.{Statement}
use Rattle.evm_asm.specs.evm_asm_parser.declared.statement.Statement.TheVariants.{Numbers, Space, Align}
use Rattle.evm_asm.specs.evm_asm_parser.Operands.{Spots, first_operand, other_operands}
use Rattle.evm_asm.proofs.evm_asm_parser.Outcomes.{any_ok, read_ok}
use Rattle.evm_asm.specs.evm_asm_parser.declared.spot.Spot.{Spot}
use Rattle.evm_asm.specs.declared.item.Expansion.{Expansion}
use Rattle.evm_asm.specs.declared.item.Expansion.TheVariants.{Empty, Single, Double}
use Rattle.evm_asm.specs.declared.item.SourceItem.{SourceItem}
use Rattle.evm_asm.specs.declared.item.SourceItem.TheVariants.{Instruction, Number, Zeros, Nops}
use Rattle.evm_asm.specs.declared.item.Placed.{Placed}
use Rattle.evm_asm.specs.declared.output.ProgramLine.{ProgramLine}
use Rattle.evm_asm.specs.declared.place.SectionPlace.{SectionPlace}
use Rattle.evm_asm.specs.Places.{place_behind, statement_in, here}
use Rattle.evm_asm.specs.Sources.{Laid, code_of, source_lines, source_start, statement_text, label_at, behind_labels, Defined, with_label, defined, line_laid, nothing_laid, with_line_laid, laid, measured, line_defined}
use Rattle.evm_asm.specs.Items.{text_base, and_then, expanded, with_item, with_instructions, value_in, number_pushed, with_numbers, filling, operands, with_statement, statement_meant, line_meant, meaning_or_fault, line_or_fault, lines_meant, layout_of, meaning_of, address}
use Rattle.evm_asm.specs.Programs.{Spelled, nothing_spelled, with_word, worded, spelled_item, spelled}
use Rattle.evm_asm.specs.Assembled.{Assembled, assembled, program_of, addressed}
use Rattle.evm_asm.specs.Sizes.{size_of_text, place_before}
use Rattle.claims_texts.specs.Standing.{ComesLater, LinesStandInOrder, HasLabel, labels_at, labels_of, LabelsStandInOrder}
use Rattle.evm_asm.proofs.Results.{and_then_if_ok, told_ok, and_then_ok, same_ok, same_program}
use Rattle.evm_asm.proofs.Statements_add_their_size.{text_of, item_longer}
use Rattle.claims_texts.proofs.Data_there.{IsData, filling_data}
use Rattle.evm_asm.proofs.Placed_where_laid.{laid-append, line_is, place_is, lines_none, line_none, none_ignored}
use Rattle.claims_texts.proofs.Labels_found.{once_told}

-- ---- the lines of a program stand in the order of the source's lines and of their addresses

-- ---- the items of a source

-- the line of an item, where it is an instruction
abbrev line_from : ℕ → SourceItem → ℕ
line_from low (Instruction line i) = line
line_from low item = low

-- the lines of the instructions don't fall
abbrev Rises : ℕ → List Placed → Type 0
Rises low [] = Unit {0}
Rises low (p ∷ ps) = (low ≤ line_from low p.item) × Rises (line_from low p.item) ps

abbrev last_line : ℕ → List Placed → ℕ
last_line low [] = low
last_line low (p ∷ ps) = last_line (line_from low p.item) ps

rises_on : (low : ℕ) (ps : List Placed) (p : Placed) → Rises low ps → last_line low ps ≤ line_from (last_line low ps) p.item → Rises low (ps ++ p ∷ [])
rises_on low [] p r h = (h, tt)
rises_on low (q ∷ ps) p r h = (r.0, rises_on (line_from low q.item) ps p r.1 h)

last_on : (low : ℕ) (ps : List Placed) (p : Placed) → last_line low (ps ++ p ∷ []) ≡ line_from (last_line low ps) p.item
last_on low [] p = refl
last_on low (q ∷ ps) p = last_on (line_from low q.item) ps p

-- .. and none is behind line n
abbrev RisesTo : ℕ → List Placed → Type 0
RisesTo n items = Rises 0 items × (last_line 0 items ≤ n)

instruction_pushed : (n : ℕ) (i : Inst) (a : List Placed) → RisesTo n a → RisesTo n (with_item Text (Instruction n i) a)
instruction_pushed n i a h =
    let p : Placed = record { section = Text; item = Instruction n i } in
    (rises_on 0 a p h.0 h.1, omega (arith, last_on 0 a p))

data_pushed : (n : ℕ) (part : Part) (item : SourceItem) (a : List Placed) → IsData item → RisesTo n a → RisesTo n (with_item part item a)
data_pushed n part (Instruction line i) a d h = absurd d
data_pushed n part (Number width value) a d h = let p : Placed = record { section = part; item = Number width value } in (rises_on 0 a p h.0 (omega arith), (let k = h.1 in omega (arith, last_on 0 a p)))
data_pushed n part (Zeros m) a d h = let p : Placed = record { section = part; item = Zeros m } in (rises_on 0 a p h.0 (omega arith), (let k = h.1 in omega (arith, last_on 0 a p)))
data_pushed n part (Nops m) a d h = let p : Placed = record { section = part; item = Nops m } in (rises_on 0 a p h.0 (omega arith), (let k = h.1 in omega (arith, last_on 0 a p)))

module _ (n : ℕ) where
  instructions_pushed : (e : Expansion) (a : List Placed) → RisesTo n a → RisesTo n (with_instructions n e a)
  unfolding with_instructions
  instructions_pushed Empty a h = h
  instructions_pushed (Single i) a h = instruction_pushed n i a h
  instructions_pushed (Double i j) a h = instruction_pushed n j _ (instruction_pushed n i a h)

  value_pushed : (labels : Spots) (size : ℕ) (part : Part) (width : DataWidth) (text : List ℕ) (a : List Placed) → RisesTo n a → IfOk (number_pushed labels size part width text a) (RisesTo n)
  unfolding number_pushed
  value_pushed labels size part width text a h =
      read_ok (value_in labels size width text) (λ v. Ok (with_item part (Number width v) a)) (λ _. Unit {0}) (RisesTo n)
      (any_ok (value_in labels size width text)) (λ v _. data_pushed n part (Number width v) a tt h)

  values_pushed : (labels : Spots) (size : ℕ) (part : Part) (width : DataWidth) (m : ℕ) (text : List ℕ) (a : List Placed) → RisesTo n a → IfOk (with_numbers labels size part width m text a) (RisesTo n)
  unfolding with_numbers
  values_pushed labels size part width zero text a h = h
  values_pushed labels size part width (suc m) text a h =
      read_ok (number_pushed labels size part width (first_operand text) a) (with_numbers labels size part width m (other_operands text)) (RisesTo n) (RisesTo n)
      (value_pushed labels size part width (first_operand text) a h) (λ items k. values_pushed labels size part width m (other_operands text) items k)

  becomes : (size at : ℕ) (s : Statement) (a : List Placed) → RisesTo n a → IfOk (expanded size at s >>= λ e. Ok (with_instructions n e a)) (RisesTo n)
  becomes size at s a h =
      read_ok (expanded size at s) (λ e. Ok (with_instructions n e a)) (λ _. Unit {0}) (RisesTo n) (any_ok (expanded size at s)) (λ e _. instructions_pushed e a h)

  statement_pushed : (labels : Spots) (size : ℕ) (place : SectionPlace) (text : List ℕ) (s : Statement) (a : List Placed) → RisesTo n a → IfOk (with_statement labels size n place text s a) (RisesTo n)
  unfolding with_statement
  statement_pushed labels size place text (Numbers width count) a h = values_pushed labels size place.section width count (operands text) a h
  statement_pushed labels size place text (Space m) a h = data_pushed n place.section (Zeros m) a tt h
  statement_pushed labels size place text (Align power) a h = data_pushed n place.section (filling place power) a (filling_data place power) h
  statement_pushed labels size place text s a h = becomes size (text_base + place.text_size) s a h

  line_pushed : (labels : Spots) (size : ℕ) (place : SectionPlace) (text : List ℕ) (a : List Placed) → RisesTo n a → IfOk (line_meant labels size n place text a) (λ x. RisesTo n x.1)
  unfolding line_meant statement_meant
  line_pushed labels size place text a h =
      read_ok (statement_in labels place text) _ (λ _. Unit {0}) (λ x. RisesTo n x.1) (any_ok (statement_in labels place text)) (λ s _.
      read_ok (with_statement labels size n place text s a) _ (RisesTo n) (λ x. RisesTo n x.1) (statement_pushed labels size place text s a h) (λ items k.
      read_ok (place_behind place s) (λ next. Ok (next, items)) (λ _. Unit {0}) (λ x. RisesTo n x.1) (any_ok (place_behind place s)) (λ _ _. k)))

lines_pushed : (l : Laid) (before : ℕ) (place : SectionPlace) (lines : List (List ℕ)) (a : List Placed) → RisesTo before a → IfOk (lines_meant l before place lines a) (Rises 0)
unfolding lines_meant line_or_fault
lines_pushed l before place [] a h = h.0
lines_pushed l before place (line ∷ lines) a h =
    let n : ℕ = before + 1 in
    let meant = line_meant l.labels l.place.text_size n place (statement_text (code_of line)) a in
    and_then_if_ok (meaning_or_fault l.first n meant) (λ x. lines_meant l n x.0 lines x.1) (λ x. RisesTo n x.1) (Rises 0)
    (told_ok l.first n meant (λ x. RisesTo n x.1) (line_pushed n l.labels l.place.text_size place (statement_text (code_of line)) a (h.0, (let k = h.1 in omega arith))))
    (λ x k. lines_pushed l n x.0 lines x.1 k)

meaning_rises : (source : List ℕ) → IfOk (meaning_of source) (Rises 0)
unfolding meaning_of
meaning_rises source = lines_pushed (layout_of source) 0 source_start (source_lines source) [] (tt, omega arith)

-- ---- the lines of the program

-- the lines so far are in order; each comes from line `low` or an earlier one, and stands in the text so far
record InOrder (low : ℕ) (s : Spelled) : Type 0 where
  pub later : AllPairs ComesLater s.lines
  pub within : All (λ l. (l.line ≤ low) × (l.address + 4 ≤ text_base + length s.text_bytes)) s.lines

data_lines : (part : Part) (item : SourceItem) (s u : Spelled) → IsData item → spelled_item part item s ≡ Ok u → s.lines ≡ u.lines
unfolding spelled_item
data_lines part (Instruction line i) s u d h = absurd d
data_lines Text (Number width value) s u d h = ap (λ (t : Spelled). t.lines) (same_ok _ u h)
data_lines Data (Number width value) s u d h = ap (λ (t : Spelled). t.lines) (same_ok _ u h)
data_lines Text (Zeros n) s u d h = ap (λ (t : Spelled). t.lines) (same_ok _ u h)
data_lines Data (Zeros n) s u d h = ap (λ (t : Spelled). t.lines) (same_ok _ u h)
data_lines Text (Nops n) s u d h = ap (λ (t : Spelled). t.lines) (same_ok _ u h)
data_lines Data (Nops n) s u d h = ap (λ (t : Spelled). t.lines) (same_ok _ u h)

data_in_order : (low : ℕ) (part : Part) (item : SourceItem) (s u : Spelled) → IsData item → spelled_item part item s ≡ Ok u → InOrder low s → InOrder low u
data_in_order low part item s u d h o =
    let same = data_lines part item s u d h in
    let longer = item_longer (record { section = part; item = item }) s u h in
    record {
      later = subst (AllPairs ComesLater) same o.later;
      within = subst (All (λ l. (l.line ≤ low) × (l.address + 4 ≤ text_base + length u.text_bytes))) same
          (λ k d less. let x = o.within k d less in (x.0, (let y = x.1 in omega (arith, longer.text_is))));
    }

word_in_order : (low line : ℕ) (i : Inst) (o : Option ℕ) (s u : Spelled) → worded line i o s ≡ Ok u → length u.text_bytes ≡ length s.text_bytes + 4 → low ≤ line → InOrder low s → InOrder line u
word_in_order low line i None s u h longer le o = cc
word_in_order low line i (Some w) s u h longer le o =
    let is : with_word line i w s ≡ u = same_ok _ u h in
    let m : ProgramLine = record { address = text_base + length s.text_bytes; line = line; word = w; instruction = i } in
    record {
      later = subst (λ (t : Spelled). AllPairs ComesLater t.lines) is
          (all_pairs_push ComesLater s.lines m o.later (λ k d less. let x = o.within k d less in let y = x.0 in let z = x.1 in (omega arith, z)));
      within = subst (λ (t : Spelled). All (λ l. (l.line ≤ line) × (l.address + 4 ≤ text_base + length u.text_bytes)) t.lines) is
          (All-push (λ l. (l.line ≤ line) × (l.address + 4 ≤ text_base + length u.text_bytes)) s.lines m
          (λ k d less. let x = o.within k d less in let y = x.0 in let z = x.1 in (omega arith, omega arith)) (omega arith, omega arith));
    }

worded_by : (part : Part) (line : ℕ) (i : Inst) (s u : Spelled) → spelled_item part (Instruction line i) s ≡ Ok u → worded line i (encoded i) s ≡ Ok u
unfolding spelled_item
worded_by part line i s u h = h

item_in_order : (low : ℕ) (p : Placed) (s u : Spelled) → spelled_item p.section p.item s ≡ Ok u → low ≤ line_from low p.item → InOrder low s → InOrder (line_from low p.item) u
item_in_order low p s u h le o = by p.section p.item h (item_longer p s u h).text_is le
  where
    by : (part : Part) (item : SourceItem) → spelled_item part item s ≡ Ok u → length u.text_bytes ≡ length s.text_bytes + text_of (record { section = part; item = item }) → low ≤ line_from low item → InOrder (line_from low item) u
    by part (Instruction line i) h longer le = word_in_order low line i (encoded i) s u (worded_by part line i s u h) longer le o
    by part (Number width value) h longer le = data_in_order low part (Number width value) s u tt h o
    by part (Zeros n) h longer le = data_in_order low part (Zeros n) s u tt h o
    by part (Nops n) h longer le = data_in_order low part (Nops n) s u tt h o

all_in_order : (low : ℕ) (items : List Placed) (s t : Spelled) → spelled items s ≡ Ok t → Rises low items → InOrder low s → AllPairs ComesLater t.lines
unfolding spelled
all_in_order low [] s t h r o = subst (λ (u : Spelled). AllPairs ComesLater u.lines) (same_ok s t h) o.later
all_in_order low (p ∷ ps) s t h r o =
    let step = and_then_ok (spelled_item p.section p.item s) (spelled ps) t h in
    all_in_order (line_from low p.item) ps step.0 t step.2 r.1 (item_in_order low p s step.0 step.1 r.0 o)

none_in_order : InOrder 0 nothing_spelled
none_in_order = record { later = λ i j d less h. absurd (omega arith); within = λ k d less. absurd (omega arith) }

pub lines_stand_in_order : LinesStandInOrder
unfolding program_of
lines_stand_in_order source p h =
    let meant = and_then_ok (meaning_of source) (λ items. and_then (spelled items nothing_spelled) (λ s. Ok (assembled (layout_of source).place.text_size (layout_of source).labels s))) p h in
    let spelt = and_then_ok (spelled meant.0 nothing_spelled) (λ s. Ok (assembled (layout_of source).place.text_size (layout_of source).labels s)) p meant.2 in
    subst (λ (q : Assembled). AllPairs ComesLater q.lines) (same_program _ p spelt.2)
    (all_in_order 0 meant.0 nothing_spelled spelt.0 spelt.1 (IfOk-at_ok (Rises 0) meant.1 (meaning_rises source)) none_in_order)

-- ---- the labels of a program are those of the source, in its order, and stand where their lines do

-- the text behind one label more
one_further : (k : ℕ) (code name rest : List ℕ) (o : Option (List ℕ × List ℕ)) → label_at code ≡ o → label_at (behind_labels k code) ≡ Some (name, rest) → behind_labels (suc k) code ≡ rest
unfolding behind_labels
one_further zero code name rest None e h = cc
one_further zero code name rest (Some label) e h =
    let same : ◌≡◌ {A = Option (List ℕ × List ℕ)} (Some label) (Some (name, rest)) = sym e ∙ h in
    let pair : ◌≡◌ {A = List ℕ × List ℕ} label (name, rest) = cc in
    ap (λ (o : Option (List ℕ × List ℕ)). elim o as (λ _. List ℕ) [ None ↦ code | Some label ↦ label.1 ]) e ∙ ap (λ (l : List ℕ × List ℕ). l.1) pair
one_further (suc k) code name rest None e h =
    let stays : behind_labels (suc k) code ≡ code = ap (λ (o : Option (List ℕ × List ℕ)). elim o as (λ _. List ℕ) [ None ↦ code | Some label ↦ behind_labels k label.1 ]) e in
    let found : label_at code ≡ Some (name, rest) = ap (λ (t : List ℕ). label_at t) (sym stays) ∙ h in cc
one_further (suc k) code name rest (Some label) e h =
    let goes_on = λ (m : ℕ). ap (λ (o : Option (List ℕ × List ℕ)). elim o as (λ _. List ℕ) [ None ↦ code | Some label ↦ behind_labels m label.1 ]) e in
    goes_on (suc k) ∙ one_further k label.1 name rest (label_at label.1) refl (ap (λ (t : List ℕ). label_at t) (sym (goes_on k)) ∙ h)

module _ (P : List ℕ × Spot → Type 0) (spot : Spot) (code : List ℕ) (all : (k : ℕ) (name rest : List ℕ) → label_at (behind_labels k code) ≡ Some (name, rest) → P (name, spot)) where
  label_kept : (name : List ℕ) (d : Defined) (t : Bool) → P (name, spot) → All P d.labels
      → All P (cond {A = Defined} t (record { labels = d.labels; twice = true }) (record { labels = d.labels ++ (name, spot) ∷ []; twice = d.twice })).labels
  label_kept name d true p h = h
  label_kept name d false p h = All-push P d.labels (name, spot) h p

  with_label_kept : (name : List ℕ) (d : Defined) → P (name, spot) → All P d.labels → All P (with_label spot name d).labels
  unfolding with_label
  with_label_kept name d p h = label_kept name d (is_some (named d.labels name)) p h

  defined_by : (m k : ℕ) (text : List ℕ) (d : Defined) (o : Option (List ℕ × List ℕ)) → text ≡ behind_labels k code → label_at text ≡ o → All P d.labels
      → ((t : List ℕ) (e : Defined) → t ≡ behind_labels (suc k) code → All P e.labels → All P (defined m spot t e).labels)
      → All P (elim o as (λ _. Defined) [ None ↦ d | Some label ↦ defined m spot label.1 (with_label spot label.0 d) ]).labels
  defined_by m k text d None is e h more = h
  defined_by m k text d (Some label) is e h more =
      let found : label_at (behind_labels k code) ≡ Some (label.0, label.1) = ap (λ (t : List ℕ). label_at t) (sym is) ∙ e in
      more label.1 (with_label spot label.0 d) (sym (one_further k code label.0 label.1 (label_at code) refl found)) (with_label_kept label.0 d (all k label.0 label.1 found) h)

  defined_kept : (m k : ℕ) (text : List ℕ) (d : Defined) → text ≡ behind_labels k code → All P d.labels → All P (defined m spot text d).labels
  unfolding defined
  defined_kept zero k text d is h = h
  defined_kept (suc m) k text d is h = defined_by m k text d (label_at text) is refl h (λ t e there kept. defined_kept m (suc k) t e there kept)

Stands : List ℕ → List ℕ × Spot → Type 0
Stands source l = (n : ℕ) × HasLabel source n l.0 × (l.1 ≡ here (place_before source n))

line_stands : (source : List ℕ) (xs : List (List ℕ)) (line : List ℕ) (rest : List (List ℕ)) → source_lines source ≡ xs ++ line ∷ rest → All (Stands source) (laid nothing_laid xs).labels
    → All (Stands source) (with_line_laid (laid nothing_laid xs) line).labels
unfolding with_line_laid line_laid Stands behind_labels
line_stands source xs line rest split h =
    let s : Laid = laid nothing_laid xs in
    let code : List ℕ = code_of line in
    let number : length xs + 1 ≡ length xs + 1 = refl in
    defined_kept (Stands source) (here s.place) code
    (λ k name behind label. (
      length xs + 1,
      record { line = line; others = k; behind = behind; from_one = omega arith; is_line = line_is source xs line rest split (length xs + 1) refl; is_label = label },
      ap (λ (p : SectionPlace). here p) (sym (place_is source xs line rest split (length xs + 1) refl)),
    ))
    (length code) 0 code (record { labels = s.labels; twice = false }) refl h

lines_stand : (source : List ℕ) (xs rest : List (List ℕ)) → source_lines source ≡ xs ++ rest → All (Stands source) (laid nothing_laid xs).labels → All (Stands source) (layout_of source).labels
unfolding laid
lines_stand source xs [] split h = subst (λ (ls : List (List ℕ)). All (Stands source) (laid nothing_laid ls).labels) (sym (split ∙ append-nil xs)) h
lines_stand source xs (line ∷ rest) split h =
    lines_stand source (xs ++ line ∷ []) rest (split ∙ sym (append_assoc xs (line ∷ []) rest))
    (subst (λ (s : Laid). All (Stands source) s.labels) (sym (laid-append nothing_laid xs (line ∷ []))) (line_stands source xs line rest split h))

none_stand : (source : List ℕ) → All (Stands source) []
none_stand source = λ k d h. absurd (omega arith)

all_stand : (source : List ℕ) → All (Stands source) (layout_of source).labels
unfolding laid
all_stand source = lines_stand source [] (source_lines source) refl (none_stand source)

HasAddress : List ℕ → List ℕ × ℕ → Type 0
HasAddress source l = (n : ℕ) × HasLabel source n l.0 × (l.1 ≡ address (size_of_text source) (here (place_before source n)))

stands_at : (source : List ℕ) (l : List ℕ × Spot) → Stands source l → HasAddress source (l.0, address (size_of_text source) l.1)
unfolding Stands HasAddress
stands_at source l h = (h.0, h.1, ap (λ (s : Spot). address (size_of_text source) s) h.2)

all_addressed : (source : List ℕ) → All (HasAddress source) (addressed (size_of_text source) (layout_of source).labels)
all_addressed source =
    All-map (HasAddress source) (λ (l : List ℕ × Spot). (l.0, address (size_of_text source) l.1)) (layout_of source).labels
    (λ k d h. stands_at source _ (all_stand source k d h))

pub labels_stand : (source : List ℕ) (p : Assembled) → program_of source ≡ Ok p
    → All (λ l. (n : ℕ) × HasLabel source n l.0 × (l.1 ≡ address (size_of_text source) (here (place_before source n)))) p.labels
unfolding program_of HasAddress
labels_stand source p h =
    let meant = and_then_ok (meaning_of source) (λ items. and_then (spelled items nothing_spelled) (λ s. Ok (assembled (layout_of source).place.text_size (layout_of source).labels s))) p h in
    let spelt = and_then_ok (spelled meant.0 nothing_spelled) (λ s. Ok (assembled (layout_of source).place.text_size (layout_of source).labels s)) p meant.2 in
    subst (λ (q : Assembled). All (HasAddress source) q.labels) (same_program _ p spelt.2) (all_addressed source)

abbrev names_of : Spots → List (List ℕ)
names_of labels = map (λ l. l.0) labels

named_last : (labels : Spots) (name : List ℕ) (spot : Spot) → names_of (labels ++ (name, spot) ∷ []) ≡ names_of labels ++ name ∷ []
named_last [] name spot = refl
named_last (l ∷ labels) name spot = ap (λ (ns : List (List ℕ)). l.0 ∷ ns) (named_last labels name spot)

label_by : (spot : Spot) (name : List ℕ) (d : Defined) (t : Bool)
    → (cond {A = Defined} t (record { labels = d.labels; twice = true }) (record { labels = d.labels ++ (name, spot) ∷ []; twice = d.twice })).twice ≡ false
    → (names_of (cond {A = Defined} t (record { labels = d.labels; twice = true }) (record { labels = d.labels ++ (name, spot) ∷ []; twice = d.twice })).labels ≡ names_of d.labels ++ name ∷ []) × (d.twice ≡ false)
label_by spot name d true h = cc
label_by spot name d false h = (named_last d.labels name spot, h)

label_added : (spot : Spot) (name : List ℕ) (d : Defined) → (with_label spot name d).twice ≡ false → (names_of (with_label spot name d).labels ≡ names_of d.labels ++ name ∷ []) × (d.twice ≡ false)
unfolding with_label
label_added spot name d h = label_by spot name d (is_some (named d.labels name)) h

in_order_by : (m : ℕ) (spot : Spot) (d : Defined) (o : Option (List ℕ × List ℕ))
    → ((text : List ℕ) (e : Defined) → (defined m spot text e).twice ≡ false → (names_of (defined m spot text e).labels ≡ names_of e.labels ++ labels_at m text) × (e.twice ≡ false))
    → (elim o as (λ _. Defined) [ None ↦ d | Some label ↦ defined m spot label.1 (with_label spot label.0 d) ]).twice ≡ false
    → (names_of (elim o as (λ _. Defined) [ None ↦ d | Some label ↦ defined m spot label.1 (with_label spot label.0 d) ]).labels
    ≡ names_of d.labels ++ elim o as (λ _. List (List ℕ)) [ None ↦ [] | Some label ↦ label.0 ∷ labels_at m label.1 ]) × (d.twice ≡ false)
in_order_by m spot d None more h = (sym (append-nil (names_of d.labels)), h)
in_order_by m spot d (Some label) more h =
    let rest = more label.1 (with_label spot label.0 d) h in
    let one = label_added spot label.0 d rest.1 in
    (rest.0 ∙ ap (λ (ns : List (List ℕ)). ns ++ labels_at m label.1) one.0 ∙ append_assoc (names_of d.labels) (label.0 ∷ []) (labels_at m label.1), one.1)

defined_in_order : (m : ℕ) (spot : Spot) (text : List ℕ) (d : Defined) → (defined m spot text d).twice ≡ false
    → (names_of (defined m spot text d).labels ≡ names_of d.labels ++ labels_at m text) × (d.twice ≡ false)
unfolding defined labels_at
defined_in_order zero spot text d h = (sym (append-nil (names_of d.labels)), h)
defined_in_order (suc m) spot text d h = in_order_by m spot d (label_at text) (λ t e k. defined_in_order m spot t e k) h

line_in_order : (s : Laid) (line : List ℕ) → (with_line_laid s line).first ≡ None
    → names_of (with_line_laid s line).labels ≡ names_of s.labels ++ labels_at (length (code_of line)) (code_of line)
unfolding with_line_laid line_laid
line_in_order s line h =
    let d = line_defined s.labels s.place (code_of line) in
    let once = once_told s.place d.twice (measured d.labels s.place (statement_text (code_of line))) (line_none s line h).1 in
    (defined_in_order (length (code_of line)) (here s.place) (code_of line) (record { labels = s.labels; twice = false }) once).0

lines_in_order : (s : Laid) (lines : List (List ℕ)) → (laid s lines).first ≡ None → names_of (laid s lines).labels ≡ names_of s.labels ++ labels_of lines
unfolding laid labels_of
lines_in_order s [] h = sym (append-nil (names_of s.labels))
lines_in_order s (line ∷ lines) h =
    lines_in_order (with_line_laid s line) lines h
    ∙ ap (λ (ns : List (List ℕ)). ns ++ labels_of lines) (line_in_order s line (lines_none (with_line_laid s line) lines h))
    ∙ append_assoc (names_of s.labels) (labels_at (length (code_of line)) (code_of line)) (labels_of lines)

addressed_names : (size : ℕ) (labels : Spots) → map (λ l. l.0) (addressed size labels) ≡ names_of labels
addressed_names size [] = refl
addressed_names size (l ∷ labels) = ap (λ (ns : List (List ℕ)). l.0 ∷ ns) (addressed_names size labels)

pub labels_stand_in_order : LabelsStandInOrder
unfolding program_of
labels_stand_in_order source p h =
    let meant = and_then_ok (meaning_of source) (λ items. and_then (spelled items nothing_spelled) (λ s. Ok (assembled (layout_of source).place.text_size (layout_of source).labels s))) p h in
    let spelt = and_then_ok (spelled meant.0 nothing_spelled) (λ s. Ok (assembled (layout_of source).place.text_size (layout_of source).labels s)) p meant.2 in
    subst (λ (q : Assembled). map (λ l. l.0) q.labels ≡ labels_of (source_lines source)) (same_program _ p spelt.2)
    (addressed_names (layout_of source).place.text_size (layout_of source).labels
    ∙ lines_in_order nothing_laid (source_lines source) (none_ignored source meant.0 meant.1))
