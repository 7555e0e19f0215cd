-- The bytes and the lines of a program stand where its source places them.
use Rattle.std.proofs.Common.{◌≡◌, ◌∙◌, ℕ, zero, suc, ◌-◌, ◌%◌, ◌<◌, List, [], ◌∷◌, ◌++◌, length, Result, Ok, All, ap, refl, sym, subst, arith, append_assoc}
use Rattle.std.specs.Prelude.{replicate}
use Rattle.std.proofs.lemmas.List.{append-nil}
use Rattle.evm_asm.specs.evm_asm_lexer.declared.source_fault.SourceFault.{SourceFault}
use Rattle.evm_asm.specs.declared.item.Placed.{Placed}
use Rattle.evm_asm.specs.declared.output.ProgramLine.{ProgramLine}
use Rattle.evm_asm.specs.Items.{and_then, layout_of, meaning_of}
use Rattle.evm_asm.specs.Programs.{Spelled, nothing_spelled, spelled, repeated, program_bytes}
use Rattle.evm_asm.specs.Assembled.{Assembled, assembled, program_of}
use Rattle.evm_asm.specs.Sizes.{size_of_text, size_of_data, Means}
use Rattle.claims_texts.specs.Standing.{gap}
use Rattle.evm_asm.proofs.Placed_where_laid.{items_listed, meaning_walked}
use Rattle.evm_asm.proofs.Results.{and_then_ok, same_program}
use Rattle.evm_asm.proofs.Programs_as_meant.{sizes_agree}

pub zeros : (n : ℕ) (bytes : List ℕ) → repeated n (0 ∷ []) bytes ≡ bytes ++ replicate n 0
unfolding repeated
zeros zero bytes = sym (append-nil bytes)
zeros (suc n) bytes = zeros n (bytes ++ 0 ∷ []) ∙ append_assoc bytes (0 ∷ []) (replicate n 0)

image_with : (text bytes : List ℕ) → 0 < length bytes → program_bytes text bytes ≡ repeated ((4096 - length text % 4096) % 4096) (0 ∷ []) text ++ bytes
image_with text [] h = absurd (omega arith)
image_with text (b ∷ bs) h = refl

image_without : (text bytes : List ℕ) → length bytes ≡ 0 → program_bytes text bytes ≡ text
image_without text [] h = refl
image_without text (b ∷ bs) h = absurd (omega arith)

image_at_base : (source : List ℕ) (items : List Placed) (s : Spelled) → meaning_of source ≡ Ok items → spelled items nothing_spelled ≡ Ok s
    → (0 < size_of_data source → program_bytes s.text_bytes s.data_bytes ≡ s.text_bytes ++ replicate (gap (size_of_text source)) 0 ++ s.data_bytes)
    × (size_of_data source ≡ 0 → program_bytes s.text_bytes s.data_bytes ≡ s.text_bytes)
image_at_base source items s h k =
    let sizes = sizes_agree source items s h k in
    let text : ℕ = size_of_text source in
    let fill : (4096 - length s.text_bytes % 4096) % 4096 ≡ gap text = omega (arith, sizes.0) in (
      (λ more.
          image_with s.text_bytes s.data_bytes (omega (arith, sizes.1))
          ∙ ap (λ (n : ℕ). repeated n (0 ∷ []) s.text_bytes ++ s.data_bytes) fill
          ∙ ap (λ (bytes : List ℕ). bytes ++ s.data_bytes) (zeros (gap text) s.text_bytes)),
      λ none. image_without s.text_bytes s.data_bytes (omega (arith, sizes.1)),
    )

program_is : (source : List ℕ) (items : List Placed) (s : Spelled) (p : Assembled) → meaning_of source ≡ Ok items → spelled items nothing_spelled ≡ Ok s → program_of source ≡ Ok p
    → assembled (size_of_text source) (layout_of source).labels s ≡ p
unfolding program_of
program_is source items s p h k e =
    let make = λ (t : Spelled). assembled (size_of_text source) (layout_of source).labels t in
    let one : program_of source ≡ Ok (make s) =
    ap (λ (r : Result (List Placed) SourceFault). and_then r (λ items. and_then (spelled items nothing_spelled) (λ t. Ok (make t)))) h
    ∙ ap (λ (r : Result Spelled SourceFault). and_then r (λ t. Ok (make t))) k in
    same_program (make s) p (sym one ∙ e)

pub data_at_base : (source : List ℕ) (items : List Placed) (s : Spelled) (p : Assembled) → meaning_of source ≡ Ok items → spelled items nothing_spelled ≡ Ok s → program_of source ≡ Ok p
    → (0 < size_of_data source → p.bytes ≡ s.text_bytes ++ replicate (gap (size_of_text source)) 0 ++ s.data_bytes)
    × (size_of_data source ≡ 0 → p.bytes ≡ s.text_bytes)
data_at_base source items s p h k e =
    let image = image_at_base source items s h k in
    let bytes : p.bytes ≡ program_bytes s.text_bytes s.data_bytes = ap (λ (q : Assembled). q.bytes) (sym (program_is source items s p h k e)) in
    ((λ more. bytes ∙ image.0 more), λ none. bytes ∙ image.1 none)

none_listed : (source : List ℕ) → All (λ (l : ProgramLine). Means source l.line l.address l.instruction) []
none_listed source = λ k d h. absurd (omega arith)

pub lines_stand : (source : List ℕ) (p : Assembled) → program_of source ≡ Ok p → All (λ l. Means source l.line l.address l.instruction) p.lines
unfolding program_of
lines_stand source p h =
    let meant = and_then_ok (meaning_of source) (λ items. and_then (spelled items nothing_spelled) (λ s. Ok (assembled (layout_of source).place.text_size (layout_of source).labels s))) p h in
    let spelt = and_then_ok (spelled meant.0 nothing_spelled) (λ s. Ok (assembled (layout_of source).place.text_size (layout_of source).labels s)) p meant.2 in
    subst (λ (q : Assembled). All (λ (l : ProgramLine). Means source l.line l.address l.instruction) q.lines) (same_program _ p spelt.2)
    (items_listed (Means source) meant.0 nothing_spelled spelt.0 spelt.1 (meaning_walked source meant.0 meant.1).each (none_listed source))
