-- The table read from both sides.
use Rattle.std.proofs.Common.{◌≡◌, ◌↔◌, ℕ, ◌<◌, ◌^◌, ◌∙◌, sym, refl, Option, Some, None, IfSome}
use Rattle.std.proofs.lemmas.Option.{same_Some}
use Rattle.evm_isa.specs.Table.{Row}
use Rattle.evm_isa.specs.Decoded.{decoded}
use Rattle.evm_isa.specs.Encoded.{encoded}
use Rattle.evm_isa.specs.declared.inst.Inst.{Inst}
use Rattle.evm_isa.proofs.Reading.{decoded_row, decoded_complete}
use Rattle.evm_isa.proofs.Writing.{encoded_sound, encoded_complete}

pub encoded_by : (i : Inst) (w : ℕ) → (encoded i ≡ Some w) ↔ ((w < 2 ^ 32) × Row i w)
encoded_by i w = (encoded_sound i w, λ p. encoded_complete i w p.0 p.1)

pub decode_encoded : (i : Inst) (w : ℕ) → encoded i ≡ Some w → decoded w ≡ Some i
decode_encoded i w e = let s = encoded_sound i w e in decoded_complete i w s.0 s.1

pub encode_decoded : (w : ℕ) (i : Inst) → w < 2 ^ 32 → decoded w ≡ Some i → encoded i ≡ Some w
encode_decoded w i h e = encoded_complete i w h ((decoded_row w i h).0 e)

pub same_instruction : (w : ℕ) (i j : Inst) → w < 2 ^ 32 → Row i w → Row j w → i ≡ j
same_instruction w i j h p q = same_Some i j (sym (decoded_complete i w h p) ∙ decoded_complete j w h q)

pub same_word : (i : Inst) (v w : ℕ) → v < 2 ^ 32 → w < 2 ^ 32 → Row i v → Row i w → v ≡ w
same_word i v w g h p q = same_Some v w (sym (encoded_complete i v g p) ∙ encoded_complete i w h q)

present : (r : Option ℕ) (P : ℕ → Type 0) → ((w : ℕ) → r ≡ Some w → P w) → IfSome r P
present None P f = tt
present (Some w) P f = f w refl

pub decoded_again : (i : Inst) → IfSome (encoded i) (λ w. decoded w ≡ Some i)
decoded_again i = present (encoded i) (λ w. decoded w ≡ Some i) (decode_encoded i)
