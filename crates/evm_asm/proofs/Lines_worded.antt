-- The lines of a program have the words of their instructions, which stand at their addresses.
use Rattle.std.proofs.Common.{◌≡◌, ℕ, ◌<◌, ◌^◌, List, [], ◌∷◌, ◌+◌, length, Option, Some, None, Result, Ok, Err, All, IfOk, refl, arith, subst, ◌∙◌, zero, suc, ◌-◌, ◌≤◌, ◌++◌, take, drop, ap, length-append, length-drop}
use Rattle.std.proofs.lemmas.List.Elements.{All-push}
use Rattle.std.specs.Int.{w32, to_le_bytes}
use Rattle.std.proofs.lemmas.List.{take-append-le, drop-append-le}
use Rattle.std.proofs.Math.Seq.{drop-append_seam}
use Rattle.evm_isa.specs.declared.inst.Inst.{Inst}
use Rattle.evm_isa.specs.Encoded.{encoded}
use Rattle.evm_isa.specs.Table.{Row}
use Rattle.evm_asm_parser.specs.evm_asm_lexer.declared.mnemonic.Section.{Section}
use Rattle.evm_asm_parser.specs.evm_asm_lexer.declared.mnemonic.Section.TheVariants.{Text, Data}
use Rattle.evm_asm.specs.declared.item.SourceItem.{SourceItem}
use Rattle.evm_asm.specs.declared.item.SourceItem.TheVariants.{Instruction, Number, Zeros, Nops}
use Rattle.evm_asm.specs.declared.item.Placed.{Placed}
use Rattle.evm_asm.specs.Items.{and_then, meaning_of, layout_of, text_base}
use Rattle.evm_asm.specs.Programs.{Spelled, nothing_spelled, spelled, spelled_item, worded, repeated, program_bytes}
use Rattle.evm_asm.specs.Assembled.{IsWorded, Assembled, assembled, program_of, StandsIn}
use Rattle.evm_asm.specs.declared.output.ProgramLine.{ProgramLine}
use Rattle.evm_asm.proofs.Results.{and_then_ok, same_ok, same_program}

-- ---- the lines of a program have the words of their instructions

module _ (law : (i : Inst) (w : ℕ) → encoded i ≡ Some w → (w < 2 ^ 32) × Row i w) where
  word_worded : (line : ℕ) (i : Inst) (o : Option ℕ) (s u : Spelled) → encoded i ≡ o → worded line i o s ≡ Ok u → All IsWorded s.lines → All IsWorded u.lines
  word_worded line i (Some w) s u e h all = subst (λ (t : Spelled). All IsWorded t.lines) (same_ok _ u h) (All-push IsWorded s.lines (record { address = text_base + length s.text_bytes; line = line; word = w; instruction = i }) all
      (let l = law i w e in record { table = l.1; fits = l.0 }))
  word_worded line i None s u e h all = cc

  item_worded : (part : Section) (item : SourceItem) (s u : Spelled) → spelled_item part item s ≡ Ok u → All IsWorded s.lines → All IsWorded u.lines
  unfolding spelled_item
  item_worded part (Instruction line i) s u h all = word_worded line i (encoded i) s u refl h all
  item_worded Text (Number width value) s u h all = subst (λ (t : Spelled). All IsWorded t.lines) (same_ok _ u h) all
  item_worded Data (Number width value) s u h all = subst (λ (t : Spelled). All IsWorded t.lines) (same_ok _ u h) all
  item_worded Text (Zeros n) s u h all = subst (λ (t : Spelled). All IsWorded t.lines) (same_ok _ u h) all
  item_worded Data (Zeros n) s u h all = subst (λ (t : Spelled). All IsWorded t.lines) (same_ok _ u h) all
  item_worded Text (Nops n) s u h all = subst (λ (t : Spelled). All IsWorded t.lines) (same_ok _ u h) all
  item_worded Data (Nops n) s u h all = subst (λ (t : Spelled). All IsWorded t.lines) (same_ok _ u h) all

  spelled_worded : (items : List Placed) (s t : Spelled) → spelled items s ≡ Ok t → All IsWorded s.lines → All IsWorded t.lines
  unfolding spelled
  spelled_worded [] s t h all = subst (λ (t : Spelled). All IsWorded t.lines) (same_ok s t h) all
  spelled_worded (p ∷ ps) s t h all =
      let step = and_then_ok (spelled_item p.section p.item s) (spelled ps) t h in
      spelled_worded ps step.0 t step.2 (item_worded p.section p.item s step.0 step.1 all)

  none_worded : All IsWorded []
  none_worded = λ k d h. absurd (omega arith)

  pub program_worded : (source : List ℕ) (p : Assembled) → program_of source ≡ Ok p → All IsWorded p.lines
  unfolding program_of
  program_worded source p h =
      let meant = and_then_ok (meaning_of source) (λ items. and_then (spelled items nothing_spelled) (λ s. Ok (assembled (layout_of source).place.text_size (layout_of source).labels s))) p h in
      let spelt = and_then_ok (spelled meant.0 nothing_spelled) (λ s. Ok (assembled (layout_of source).place.text_size (layout_of source).labels s)) p meant.2 in
      subst (λ (q : Assembled). All IsWorded q.lines) (same_program _ p spelt.2) (spelled_worded meant.0 nothing_spelled spelt.0 spelt.1 none_worded)

-- ---- the word of each line stands at its address

stays : (b c : List ℕ) (l : ProgramLine) → StandsIn b l → StandsIn (b ++ c) l
stays b c l h = record {
  above = h.above;
  within = let k = h.within in omega (arith, length-append b c);
  bytes_are =
      let k : ℕ = l.address - text_base in
      let room : k + 4 ≤ length b = h.within in
      ap (λ (x : List ℕ). take 4 x) (drop-append-le k b c (omega arith))
      ∙ take-append-le 4 (drop k b) c (omega (arith, length-drop k b)) ∙ h.bytes_are;
}

all_stay : (b c : List ℕ) (ls : List ProgramLine) → All (StandsIn b) ls → All (StandsIn (b ++ c)) ls
all_stay b c ls all = λ k d h. stays b c _ (all k d h)

all_repeated : (n : ℕ) (unit b : List ℕ) (ls : List ProgramLine) → All (StandsIn b) ls → All (StandsIn (repeated n unit b)) ls
unfolding repeated
all_repeated zero unit b ls all = all
all_repeated (suc n) unit b ls all = all_repeated n unit (b ++ unit) ls (all_stay b unit ls all)

new_stands : (text : List ℕ) (line word : ℕ) (i : Inst) → StandsIn (text ++ to_le_bytes w32 word) (record { address = text_base + length text; line = line; word = word; instruction = i })
new_stands text line word i =
    let at : text_base + length text - text_base ≡ length text = omega arith in
    record {
      above = omega arith;
      within = (let four : length (to_le_bytes w32 word) ≡ 4 = refl in omega (arith, length-append text (to_le_bytes w32 word)));
      bytes_are =
          ap (λ (n : ℕ). take 4 (drop n (text ++ to_le_bytes w32 word))) at
          ∙ ap (λ (x : List ℕ). take 4 x) (drop-append_seam text (to_le_bytes w32 word));
    }

word_stands : (line : ℕ) (i : Inst) (o : Option ℕ) (s u : Spelled) → worded line i o s ≡ Ok u → All (StandsIn s.text_bytes) s.lines → All (StandsIn u.text_bytes) u.lines
word_stands line i (Some w) s u h all =
    subst (λ (t : Spelled). All (StandsIn t.text_bytes) t.lines) (same_ok _ u h)
    (All-push (StandsIn (s.text_bytes ++ to_le_bytes w32 w)) s.lines _ (all_stay s.text_bytes (to_le_bytes w32 w) s.lines all) (new_stands s.text_bytes line w i))
word_stands line i None s u h all = cc

item_stands : (part : Section) (item : SourceItem) (s u : Spelled) → spelled_item part item s ≡ Ok u → All (StandsIn s.text_bytes) s.lines → All (StandsIn u.text_bytes) u.lines
unfolding spelled_item
item_stands part (Instruction line i) s u h all = word_stands line i (encoded i) s u h all
item_stands Text (Number width value) s u h all = subst (λ (t : Spelled). All (StandsIn t.text_bytes) t.lines) (same_ok _ u h) (all_stay s.text_bytes _ s.lines all)
item_stands Data (Number width value) s u h all = subst (λ (t : Spelled). All (StandsIn t.text_bytes) t.lines) (same_ok _ u h) all
item_stands Text (Zeros n) s u h all = subst (λ (t : Spelled). All (StandsIn t.text_bytes) t.lines) (same_ok _ u h) (all_repeated n _ s.text_bytes s.lines all)
item_stands Data (Zeros n) s u h all = subst (λ (t : Spelled). All (StandsIn t.text_bytes) t.lines) (same_ok _ u h) all
item_stands Text (Nops n) s u h all = subst (λ (t : Spelled). All (StandsIn t.text_bytes) t.lines) (same_ok _ u h) (all_repeated n _ s.text_bytes s.lines all)
item_stands Data (Nops n) s u h all = subst (λ (t : Spelled). All (StandsIn t.text_bytes) t.lines) (same_ok _ u h) all

spelled_stands : (items : List Placed) (s t : Spelled) → spelled items s ≡ Ok t → All (StandsIn s.text_bytes) s.lines → All (StandsIn t.text_bytes) t.lines
unfolding spelled
spelled_stands [] s t h all = subst (λ (t : Spelled). All (StandsIn t.text_bytes) t.lines) (same_ok s t h) all
spelled_stands (p ∷ ps) s t h all =
    let step = and_then_ok (spelled_item p.section p.item s) (spelled ps) t h in
    spelled_stands ps step.0 t step.2 (item_stands p.section p.item s step.0 step.1 all)

in_image : (text bytes : List ℕ) (ls : List ProgramLine) → All (StandsIn text) ls → All (StandsIn (program_bytes text bytes)) ls
in_image text [] ls all = all
in_image text (b ∷ bs) ls all = all_stay _ (b ∷ bs) ls (all_repeated _ _ text ls all)

none_stand : All (StandsIn []) []
none_stand = λ k d h. absurd (omega arith)

pub program_stands : (source : List ℕ) (p : Assembled) → program_of source ≡ Ok p → All (StandsIn p.bytes) p.lines
unfolding program_of
program_stands source p h =
    let meant = and_then_ok (meaning_of source) (λ items. and_then (spelled items nothing_spelled) (λ s. Ok (assembled (layout_of source).place.text_size (layout_of source).labels s))) p h in
    let spelt = and_then_ok (spelled meant.0 nothing_spelled) (λ s. Ok (assembled (layout_of source).place.text_size (layout_of source).labels s)) p meant.2 in
    subst (λ (q : Assembled). All (StandsIn q.bytes) q.lines) (same_program _ p spelt.2)
    (in_image spelt.0.text_bytes spelt.0.data_bytes spelt.0.lines (spelled_stands meant.0 nothing_spelled spelt.0 spelt.1 none_stand))
