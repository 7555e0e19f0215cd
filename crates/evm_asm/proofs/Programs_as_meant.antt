-- A program is as long as it was laid out, and fits; it has what its lines mean, and no more.
use Rattle.std.proofs.Common.{◌≡◌, ◌∙◌, ℕ, ◌-◌, ◌%◌, ◌<◌, List, [], ◌∷◌, ◌++◌, length, Result, Ok, ap, refl, sym, subst, arith, append_assoc, ◌+◌, ◌≤◌, Bool, true, false, cond, nat_le, Err, lit≤, length-append, Some, None, ⊎_elim, Option}
use Rattle.std.specs.Prelude.{Any}
use Rattle.std.proofs.lemmas.List.{append-nil}
use Rattle.std.proofs.lemmas.Bool.{leb-true, cases_lt}
use Rattle.std.specs.List.{slice_get}
use Rattle.std.proofs.lemmas.Option.{slice_get_within}
use Rattle.std.proofs.lemmas.List.Quantifiers.{Any-push}
use Rattle.std.proofs.Math.ListN.{get_or-append}
use Rattle.evm_isa.specs.declared.inst.Inst.{Inst}
use Rattle.evm_isa.specs.Encoded.{encoded}
use Rattle.evm_asm_parser.specs.evm_asm_lexer.declared.source_fault.SourceFaultKind.{SourceFaultKind}
use Rattle.evm_asm_parser.specs.evm_asm_lexer.declared.source_fault.SourceFaultKind.TheVariants.{TooLarge}
use Rattle.evm_asm_parser.specs.evm_asm_lexer.declared.mnemonic.Section.{Section as Part}
use Rattle.evm_asm_parser.specs.evm_asm_lexer.declared.mnemonic.Section.TheVariants.{Text, Data}
use Rattle.evm_asm_parser.specs.declared.statement.Statement.{Statement}
use Rattle.evm_asm_parser.specs.declared.statement.Statement.TheVariants.{Section, Numbers, Space, Align}
use Rattle.evm_asm_parser.specs.Operands.{Spots}
use Rattle.evm_asm.specs.declared.item.Placed.{Placed}
use Rattle.evm_asm.specs.declared.output.ProgramLine.{ProgramLine}
use Rattle.evm_asm.specs.Items.{and_then, layout_of, meaning_of, line_or_fault, lines_meant, text_base, expanded, with_item, with_instructions, with_statement}
use Rattle.evm_asm.specs.Programs.{Spelled, nothing_spelled, spelled, repeated, program_bytes, spelled_item, worded}
use Rattle.evm_asm.specs.Assembled.{Assembled, assembled, program_of}
use Rattle.evm_asm.specs.Sizes.{size_of_text, size_of_data, Means, IsAmong, place_before}
use Rattle.evm_asm.specs.declared.place.SectionPlace.{SectionPlace}
use Rattle.evm_asm.specs.Places.{offset, section_size, farther, grown, size_at, place_behind, statement_in}
use Rattle.evm_asm.specs.Sources.{Laid, nothing_laid, laid, with_line_laid, line_laid, line_defined, outcome, measured, source_lines, code_of, statement_text, source_start}
use Rattle.evm_asm.specs.declared.item.Expansion.{Expansion}
use Rattle.evm_asm.specs.declared.item.Expansion.TheVariants.{Empty, Single, Double}
use Rattle.evm_asm.specs.declared.item.SourceItem.{SourceItem}
use Rattle.evm_asm.specs.declared.item.SourceItem.TheVariants.{Instruction, Number, Zeros, Nops}
use Rattle.evm_asm.proofs.Statements_add_their_size.{items_longer, length-repeated, IsBalanced, data_of, text_in, item_longer, text_in-push, Has, item_stays, item_comes, statement_stays}
use Rattle.evm_asm.proofs.Placed_where_laid.{meaning_walked, none_ignored, Line, line_of_told, IsWalked, walked_line, same_some, same_statement, line_is, place_is}
use Rattle.evm_asm.proofs.Results.{and_then_ok, same_program, bind_ok, same_place, same_items, same_expansion, same_ok}

-- ---- a program is as long as it was laid out

pub sizes_agree : (source : List ℕ) (items : List Placed) (s : Spelled) → meaning_of source ≡ Ok items → spelled items nothing_spelled ≡ Ok s
    → (length s.text_bytes ≡ size_of_text source) × (length s.data_bytes ≡ size_of_data source)
sizes_agree source items s h k =
    let walked = meaning_walked source items h in
    let longer = items_longer items nothing_spelled s k in
    (omega (arith, longer.text_is, walked.balanced.text_is), omega (arith, longer.rest_is, walked.balanced.rest_is))

-- ---- no section is longer than 8,388,608 bytes, so every program fits

record IsLimited (place : SectionPlace) : Type 0 where
  pub text_is : place.text_size ≤ 8388608
  pub rest_is : place.data_size ≤ 8388608

farther_limited : (part : Part) (place : SectionPlace) (size : ℕ) → size ≤ 8388608 - section_size part place → IsLimited place → IsLimited (farther part place size)
farther_limited Text place size few h = record { text_is = omega (arith, few, h.text_is); rest_is = h.rest_is }
farther_limited Data place size few h = record { text_is = h.text_is; rest_is = omega (arith, few, h.rest_is) }

grown_limited_by : (part : Part) (place next : SectionPlace) (size : ℕ) (t : Bool) → nat_le size (8388608 - section_size part place) ≡ t → cond t (Ok (farther part place size)) (Err TooLarge) ≡ Ok next
    → IsLimited place → IsLimited next
grown_limited_by part place next size true e h k = subst IsLimited (same_place _ next h) (farther_limited part place size (leb-true _ _ e) k)
grown_limited_by part place next size false e h k = cc

grown_limited : (place next : SectionPlace) (size : ℕ) → grown place size ≡ Ok next → IsLimited place → IsLimited next
unfolding grown
grown_limited place next size h k = grown_limited_by place.section place next size _ refl h k

behind_limited : (place next : SectionPlace) (s : Statement) → place_behind place s ≡ Ok next → IsLimited place → IsLimited next
unfolding place_behind size_at
behind_limited place next (Section part) h k = subst IsLimited (same_place _ next h) (record { text_is = k.text_is; rest_is = k.rest_is })
behind_limited place next s h k = grown_limited place next (size_at (offset place) s) h k

measured_limited : (labels : Spots) (place next : SectionPlace) (text : List ℕ) → measured labels place text ≡ Ok next → IsLimited place → IsLimited next
unfolding measured
measured_limited labels place next text h k =
    let s = bind_ok (statement_in labels place text) (place_behind place) next h in
    behind_limited place next s.0 s.2 k

outcome_limited : (place : SectionPlace) (twice : Bool) (r : Result SectionPlace SourceFaultKind) → ((next : SectionPlace) → r ≡ Ok next → IsLimited next) → IsLimited place → IsLimited (outcome place twice r).0
outcome_limited place false (Ok next) h k = h next refl
outcome_limited place false (Err kind) h k = k
outcome_limited place true (Ok next) h k = k
outcome_limited place true (Err kind) h k = k

line_limited : (s : Laid) (line : List ℕ) → IsLimited s.place → IsLimited (with_line_laid s line).place
unfolding with_line_laid line_laid
line_limited s line k =
    let d = line_defined s.labels s.place (code_of line) in
    let text : List ℕ = statement_text (code_of line) in
    outcome_limited s.place d.twice (measured d.labels s.place text) (λ next h. measured_limited d.labels s.place next text h k) k

laid_limited : (s : Laid) (lines : List (List ℕ)) → IsLimited s.place → IsLimited (laid s lines).place
unfolding laid
laid_limited s [] k = k
laid_limited s (line ∷ lines) k = laid_limited (with_line_laid s line) lines (line_limited s line k)

-- text and data within their sections are together within the limit
image_fits : (text bytes : List ℕ) → length text ≤ 8388608 → length bytes ≤ 8388608 → length (program_bytes text bytes) ≤ 16777216
image_fits text [] h k = omega arith
image_fits text (b ∷ bs) h k =
    let padded : List ℕ = repeated ((4096 - length text % 4096) % 4096) (0 ∷ []) text in
    omega (arith, length-append padded (b ∷ bs), length-repeated ((4096 - length text % 4096) % 4096) (0 ∷ []) text)

-- what a source means has no more bytes than a program may have
pub meant_fits : (source : List ℕ) (items : List Placed) (s : Spelled) → meaning_of source ≡ Ok items → spelled items nothing_spelled ≡ Ok s → length (program_bytes s.text_bytes s.data_bytes) ≤ 16777216
meant_fits source items s m e =
    let sizes = sizes_agree source items s m e in
    let limits = laid_limited nothing_laid (source_lines source) (record { text_is = lit≤ tt; rest_is = lit≤ tt }) in
    image_fits s.text_bytes s.data_bytes (omega (arith, sizes.0, limits.text_is)) (omega (arith, sizes.1, limits.rest_is))

pub program_fits : (source : List ℕ) (p : Assembled) → program_of source ≡ Ok p → length p.bytes ≤ 16777216
unfolding program_of
program_fits source p h =
    let meant = and_then_ok (meaning_of source) (λ items. and_then (spelled items nothing_spelled) (λ s. Ok (assembled (layout_of source).place.text_size (layout_of source).labels s))) p h in
    let spelt = and_then_ok (spelled meant.0 nothing_spelled) (λ s. Ok (assembled (layout_of source).place.text_size (layout_of source).labels s)) p meant.2 in
    subst (λ (q : Assembled). length q.bytes ≤ 16777216) (same_program _ p spelt.2) (meant_fits source meant.0 spelt.0 meant.1 spelt.1)

-- ---- what a line of a source adds to the items, and later lines keep, holds of all items

module _ (source : List ℕ) (n : ℕ) (H : List Placed → Type 0)
    (stays : (k : ℕ) (place next : SectionPlace) (text : List ℕ) (a b : List Placed) → Line (layout_of source).labels (size_of_text source) k place next text a b → H a → H b)
    (comes : (xs : List (List ℕ)) (line : List ℕ) (rest : List (List ℕ)) → source_lines source ≡ xs ++ line ∷ rest → n ≡ length xs + 1 → (place next : SectionPlace) → place ≡ (laid nothing_laid xs).place
    → (a b : List Placed) → IsBalanced place a → Line (layout_of source).labels (size_of_text source) n place next (statement_text (code_of line)) a b → H b) where
  kept : (xs rest : List (List ℕ)) → source_lines source ≡ xs ++ rest → (layout_of source).first ≡ None → (before : ℕ) (place : SectionPlace) → before ≡ length xs → place ≡ (laid nothing_laid xs).place
      → (a items : List Placed) → lines_meant (layout_of source) before place rest a ≡ Ok items → IsWalked source place a → (n ≤ length xs → H a) → n ≤ length (source_lines source) → H items
  unfolding lines_meant
  kept xs [] split none before place number is a items h w has within =
      let all : length (source_lines source) ≡ length xs = ap (λ (ls : List (List ℕ)). length ls) (split ∙ append-nil xs) in
      let same : a ≡ items = cc in
      subst (λ (c : List Placed). H c) same (has (omega arith))
  kept xs (line ∷ rest) split none before place number is a items h w has within =
      let l = layout_of source in
      let step = and_then_ok (line_or_fault l.labels l.place.text_size l.first (before + 1) place (code_of line) a) (λ x. lines_meant l (before + 1) x.0 rest x.1) items h in
      let next = walked_line source xs line rest split none before place number is a step.0 step.1 w in
      let longer : before + 1 ≡ length (xs ++ line ∷ []) = omega (arith, length-append xs (line ∷ [])) in
      let told = line_of_told l.labels l.place.text_size (before + 1) l.first place (code_of line) a step.0 none step.1 in
      kept (xs ++ line ∷ []) rest (split ∙ sym (append_assoc xs (line ∷ []) rest)) none (before + 1) step.0.0 longer next.0 step.0.1 items step.2 next.1
      (λ le.
      ⊎_elim
      (λ (less : n < length xs + 1). stays (before + 1) place step.0.0 (statement_text (code_of line)) a step.0.1 told (has (omega arith)))
      (λ (more : length xs + 1 ≤ n).
      let same : before + 1 ≡ n = omega arith in
      comes xs line rest split (omega arith) place step.0.0 is a step.0.1 w.balanced
      (subst (λ (k : ℕ). Line l.labels l.place.text_size k place step.0.0 (statement_text (code_of line)) a step.0.1) same told))
      (cases_lt n (length xs + 1))) within

  pub reached : (line : List ℕ) → 0 < n → slice_get (source_lines source) (n - 1) ≡ Some line → (items : List Placed) → meaning_of source ≡ Ok items → H items
  unfolding meaning_of laid
  reached line from_one is_line items h =
      let less : n - 1 < length (source_lines source) = slice_get_within (source_lines source) (n - 1) line is_line in
      kept [] (source_lines source) refl (none_ignored source items h) 0 source_start refl refl [] items h
      (record { balanced = record { text_is = refl; rest_is = refl }; each = tt }) (λ le. absurd (omega arith)) (omega arith)

-- ---- each instruction that a line means stands in the program

any_stays : {X : Type 0} (P : X → Type 0) (xs ys : List X) → Any P xs → Any P (xs ++ ys)
any_stays P xs ys h = let less : h.0 < length xs = h.2 in (h.0, h.1, omega (arith, length-append xs ys), get_or-append xs ys h.1 h.0 less ∙ h.3, h.4)

module _ (Q : ℕ → ℕ → Inst → Type 0) where
  abbrev IsSuch : ℕ → SourceItem → Type 0
  IsSuch t (Instruction line i) = Q line (text_base + t) i
  IsSuch t item = ⊥

  -- the item is an instruction of which Q holds, at so many bytes of text
  abbrev pub Such : ℕ → ℕ → Placed → Type 0
  Such t d p = IsSuch t p.item

  second_comes : (line : ℕ) (i j : Inst) (a : List Placed) → Q line (text_base + text_in a + 4) j → Has Such 0 0 (with_instructions line (Double i j) a)
  unfolding with_instructions
  second_comes line i j a q =
      let e : text_base + text_in a + 4 ≡ text_base + text_in (with_item Text (Instruction line i) a) = omega (arith, text_in-push a (record { section = Text; item = Instruction line i })) in
      item_comes Such Text (Instruction line j) _ (subst (λ (m : ℕ). Q line m j) e q)

  moved : (line m n : ℕ) (i j : Inst) → i ≡ j → m ≡ n → Q line m i → Q line n j
  moved line m n i j e h q = subst (λ (y : Inst). Q line n y) e (subst (λ (k : ℕ). Q line k i) h q)

  instruction_comes : (line : ℕ) (e : Expansion) (a : List Placed) (i : Inst) (address : ℕ) → IsAmong e (text_base + text_in a) i address → Q line address i → Has Such 0 0 (with_instructions line e a)
  unfolding with_instructions
  instruction_comes line Empty a i address k q = absurd k
  instruction_comes line (Single x) a i address k q = item_comes Such Text (Instruction line x) a (moved line address (text_base + text_in a) i x k.0 k.1 q)
  instruction_comes line (Double x y) a i address k q =
      ⊎_elim
      (λ h. item_stays Such Text (Instruction line y) _ (item_comes Such Text (Instruction line x) a (moved line address (text_base + text_in a) i x h.0 h.1 q)))
      (λ h. second_comes line x y a (moved line address (text_base + text_in a + 4) i y h.0 h.1 q)) k

  -- an instruction of a statement is among its items
  pub statement_comes : (labels : Spots) (size line : ℕ) (place : SectionPlace) (text : List ℕ) (s : Statement) (a b : List Placed) → with_statement labels size line place text s a ≡ Ok b
      → (e : Expansion) → expanded size (text_base + place.text_size) s ≡ Ok e → (i : Inst) (address : ℕ) → IsAmong e (text_base + text_in a) i address → Q line address i → Has Such 0 0 b
  unfolding with_statement expanded
  statement_comes labels size line place text (Numbers width count) a b h e g i address k q = absurd (subst (λ (x : Expansion). IsAmong x (text_base + text_in a) i address) (sym (same_expansion Empty e g)) k)
  statement_comes labels size line place text (Space n) a b h e g i address k q = absurd (subst (λ (x : Expansion). IsAmong x (text_base + text_in a) i address) (sym (same_expansion Empty e g)) k)
  statement_comes labels size line place text (Align power) a b h e g i address k q = absurd (subst (λ (x : Expansion). IsAmong x (text_base + text_in a) i address) (sym (same_expansion Empty e g)) k)
  statement_comes labels size line place text s a b h e g i address k q =
      let f = bind_ok (expanded size (text_base + place.text_size) s) (λ e. Ok (with_instructions line e a)) b h in
      let same : e ≡ f.0 = same_expansion e f.0 (sym g ∙ f.1) in
      subst (λ (c : List Placed). Has Such 0 0 c) (same_items _ b f.2) (instruction_comes line f.0 a i address (subst (λ (x : Expansion). IsAmong x (text_base + text_in a) i address) same k) q)

  abbrev OfLine : ProgramLine → Type 0
  OfLine l = Q l.line l.address l.instruction

  word_stays : (line : ℕ) (i : Inst) (o : Option ℕ) (s u : Spelled) → worded line i o s ≡ Ok u → Any OfLine s.lines → Any OfLine u.lines
  word_stays line i (Some w) s u h k = subst (λ (t : Spelled). Any OfLine t.lines) (same_ok _ u h) (any_stays OfLine s.lines _ k)
  word_stays line i None s u h k = cc

  word_comes : (line : ℕ) (i : Inst) (o : Option ℕ) (s u : Spelled) → worded line i o s ≡ Ok u → Q line (text_base + length s.text_bytes) i → Any OfLine u.lines
  word_comes line i (Some w) s u h q =
      subst (λ (t : Spelled). Any OfLine t.lines) (same_ok _ u h)
      (Any-push OfLine s.lines (record { address = text_base + length s.text_bytes; line = line; word = w; instruction = i }) q)
  word_comes line i None s u h q = cc

  line_stays : (part : Part) (item : SourceItem) (s u : Spelled) → spelled_item part item s ≡ Ok u → Any OfLine s.lines → Any OfLine u.lines
  unfolding spelled_item
  line_stays part (Instruction line i) s u h k = word_stays line i (encoded i) s u h k
  line_stays Text (Number width value) s u h k = subst (λ (t : Spelled). Any OfLine t.lines) (same_ok _ u h) k
  line_stays Data (Number width value) s u h k = subst (λ (t : Spelled). Any OfLine t.lines) (same_ok _ u h) k
  line_stays Text (Zeros n) s u h k = subst (λ (t : Spelled). Any OfLine t.lines) (same_ok _ u h) k
  line_stays Data (Zeros n) s u h k = subst (λ (t : Spelled). Any OfLine t.lines) (same_ok _ u h) k
  line_stays Text (Nops n) s u h k = subst (λ (t : Spelled). Any OfLine t.lines) (same_ok _ u h) k
  line_stays Data (Nops n) s u h k = subst (λ (t : Spelled). Any OfLine t.lines) (same_ok _ u h) k

  line_comes : (part : Part) (item : SourceItem) (s u : Spelled) → spelled_item part item s ≡ Ok u → IsSuch (length s.text_bytes) item → Any OfLine u.lines
  unfolding spelled_item
  line_comes part (Instruction line i) s u h q = word_comes line i (encoded i) s u h q
  line_comes part item s u h q = absurd q

  lines_stay : (items : List Placed) (s t : Spelled) → spelled items s ≡ Ok t → Any OfLine s.lines → Any OfLine t.lines
  unfolding spelled
  lines_stay [] s t h k = subst (λ (t : Spelled). Any OfLine t.lines) (same_ok s t h) k
  lines_stay (p ∷ ps) s t h k =
      let step = and_then_ok (spelled_item p.section p.item s) (spelled ps) t h in
      lines_stay ps step.0 t step.2 (line_stays p.section p.item s step.0 step.1 k)

  -- such an instruction becomes a line
  pub lines_come : (items : List Placed) (s t : Spelled) → spelled items s ≡ Ok t → Has Such (length s.text_bytes) (length s.data_bytes) items → Any OfLine t.lines
  unfolding spelled
  lines_come [] s t h k = absurd k
  lines_come (p ∷ ps) s t h k =
      let step = and_then_ok (spelled_item p.section p.item s) (spelled ps) t h in
      ⊎_elim (λ q. lines_stay ps step.0 t step.2 (line_comes p.section p.item s step.0 step.1 q))
      (λ more.
      let longer = item_longer p s step.0 step.1 in
      lines_come ps step.0 t step.2 (subst (λ (m : ℕ). Has Such (length step.0.text_bytes) m ps) (sym longer.rest_is) (subst (λ (n : ℕ). Has Such n (length s.data_bytes + data_of p) ps) (sym longer.text_is) more))) k

module _ (source : List ℕ) (n address : ℕ) (i : Inst) (m : Means source n address i) where
  -- the instruction that line n means
  abbrev Is : ℕ → ℕ → Inst → Type 0
  Is line at j = (line ≡ n) × (at ≡ address) × (j ≡ i)

  comes_here : (xs : List (List ℕ)) (line : List ℕ) (rest : List (List ℕ)) → source_lines source ≡ xs ++ line ∷ rest → n ≡ length xs + 1 → (k : ℕ) → k ≡ n → (place next : SectionPlace) → place ≡ (laid nothing_laid xs).place
      → (a b : List Placed) → IsBalanced place a → Line (layout_of source).labels (size_of_text source) k place next (statement_text (code_of line)) a b → Has (Such Is) 0 0 b
  comes_here xs line rest split number k same place next is a b balanced l =
      let labels = (layout_of source).labels in
      let size : ℕ = size_of_text source in
      let there : place_before source n ≡ place = place_is source xs line rest split n number ∙ sym is in
      let one : m.says.line ≡ line = same_some m.says.line line (sym m.says.is_line ∙ line_is source xs line rest split n number) in
      let reads : statement_in labels place (statement_text (code_of line)) ≡ Ok m.statement =
      subst (λ (p : SectionPlace). statement_in labels p (statement_text (code_of line)) ≡ Ok m.statement) there
      (subst (λ (t : List ℕ). statement_in labels (place_before source n) (statement_text (code_of t)) ≡ Ok m.statement) one m.says.reads) in
      let statement : m.statement ≡ l.statement = same_statement m.statement l.statement (sym reads ∙ l.reads) in
      let becomes : expanded size (text_base + place.text_size) l.statement ≡ Ok m.expansion =
      subst (λ (s : Statement). expanded size (text_base + place.text_size) s ≡ Ok m.expansion) statement
      (subst (λ (p : SectionPlace). expanded size (text_base + p.text_size) m.statement ≡ Ok m.expansion) there m.becomes) in
      let sizes : (place_before source n).text_size ≡ text_in a = ap (λ (p : SectionPlace). p.text_size) there ∙ sym balanced.text_is in
      let among : IsAmong m.expansion (text_base + text_in a) i address = subst (λ (x : ℕ). IsAmong m.expansion (text_base + x) i address) sizes m.stands in
      statement_comes Is labels size k place (statement_text (code_of line)) l.statement a b l.adds m.expansion becomes i address among (same, refl, refl)

  meaning_has : (items : List Placed) → meaning_of source ≡ Ok items → Has (Such Is) 0 0 items
  meaning_has items h =
      reached source n (λ a. Has (Such Is) 0 0 a)
      (λ k place next text a b l. statement_stays (Such Is) (layout_of source).labels (size_of_text source) k place text l.statement a b l.adds)
      (λ xs line rest split number place next is a b balanced l. comes_here xs line rest split number n refl place next is a b balanced l)
      m.says.line m.says.from_one m.says.is_line items h

  pub all_there : (p : Assembled) → program_of source ≡ Ok p → Any (λ (l : ProgramLine). (l.line ≡ n) × (l.address ≡ address) × (l.instruction ≡ i)) p.lines
  unfolding program_of
  all_there p h =
      let meant = and_then_ok (meaning_of source) (λ items. and_then (spelled items nothing_spelled) (λ s. Ok (assembled (layout_of source).place.text_size (layout_of source).labels s))) p h in
      let spelt = and_then_ok (spelled meant.0 nothing_spelled) (λ s. Ok (assembled (layout_of source).place.text_size (layout_of source).labels s)) p meant.2 in
      subst (λ (q : Assembled). Any (λ (l : ProgramLine). (l.line ≡ n) × (l.address ≡ address) × (l.instruction ≡ i)) q.lines) (same_program _ p spelt.2)
      (lines_come Is meant.0 nothing_spelled spelt.0 spelt.1 (meaning_has meant.0 meant.1))
