-- What is read doesn't hang on what comes later.
use Rattle.std.proofs.Common.{◌≡◌, ℕ, ◌<◌, inl, inr, eqb, ltb, List, [], ◌∷◌, ◌++◌, length, Option, Some, None, refl, ◌∙◌, arith}
use Rattle.std.proofs.lemmas.List.{length-append}
use Rattle.std.proofs.lemmas.Bool.{cases_Bool, ltb-true, lt-ltb}
use Rattle.std.proofs.lemmas.Option.{some_pair_parts}
use Rattle.gdb_packets.specs.Items.{Item, Damaged, cut_hash, packet_behind, behind_dollar, packet_at, sign, item_at}
use Rattle.gdb_packets.specs.declared.item.TheConstants.{PACKET_LIMIT}
use Rattle.gdb_packets.proofs.Cuts.{cut_hash-more, cut_hash-later}

packet_behind-more : (item : Item) (body behind rest more : List ℕ) → packet_behind body behind ≡ Some (item, rest) → packet_behind body (behind ++ more) ≡ Some (item, rest ++ more)
packet_behind-more item body [] rest more e = absurd cc
packet_behind-more item body (high ∷ []) rest more e = absurd cc
packet_behind-more item body (high ∷ low ∷ behind) rest more e =
    let parts = some_pair_parts _ item behind rest e in
    rw (parts.0, parts.1) refl

-- of bytes with no # and too many for a body, more bytes make no packet
too_long : (bytes more : List ℕ) (cut : Option (List ℕ × List ℕ)) → PACKET_LIMIT < length bytes → cut_hash bytes ≡ None → cut_hash (bytes ++ more) ≡ cut → behind_dollar (bytes ++ more) cut ≡ Some (Damaged, bytes ++ more)
too_long bytes more None long none is =
    let longer = lt-ltb PACKET_LIMIT (length (bytes ++ more)) (omega (arith, length-append bytes more)) in
    rw longer refl
too_long bytes more (Some cut) long none is =
    let later = lt-ltb PACKET_LIMIT (length cut.0) (omega (arith, cut_hash-later bytes more cut none is)) in
    rw later refl

behind_dollar-more : (item : Item) (rest bytes more : List ℕ) (cut : Option (List ℕ × List ℕ)) → cut_hash bytes ≡ cut → behind_dollar bytes cut ≡ Some (item, rest) → behind_dollar (bytes ++ more) (cut_hash (bytes ++ more)) ≡ Some (item, rest ++ more)
behind_dollar-more item rest bytes more None is e =
    elim (cases_Bool (ltb PACKET_LIMIT (length bytes))) [
      | inl long ↦
          let parts = some_pair_parts Damaged item bytes rest (rw long at e) in
          let whole = too_long bytes more (cut_hash (bytes ++ more)) (ltb-true PACKET_LIMIT (length bytes) long) is refl in
          whole ∙ rw (parts.0, parts.1) refl
      | inr other ↦ let wrong : ◌≡◌ {A = Option (Item × List ℕ)} None (Some (item, rest)) = rw other at e in absurd cc
    ]
behind_dollar-more item rest bytes more (Some cut) is e =
    let next = cut_hash-more bytes more cut is in
    elim (cases_Bool (ltb PACKET_LIMIT (length cut.0))) [
      | inl long ↦
          let parts = some_pair_parts Damaged item bytes rest (rw long at e) in
          rw (next, long, parts.0, parts.1) refl
      | inr short ↦ rw (next, short) (packet_behind-more item cut.0 cut.1 rest more (rw short at e))
    ]

pub item_at-more : (item : Item) (rest bytes more : List ℕ) → item_at bytes ≡ Some (item, rest) → item_at (bytes ++ more) ≡ Some (item, rest ++ more)
unfolding item_at packet_at
item_at-more item rest [] more e = absurd cc
item_at-more item rest (b ∷ bytes) more e =
    elim (cases_Bool (eqb b 36)) [
      | inl dollar ↦ rw dollar (behind_dollar-more item rest bytes more (cut_hash bytes) refl (rw dollar at e))
      | inr other ↦
          let parts = some_pair_parts (sign b) item bytes rest (rw other at e) in
          rw (other, parts.0, parts.1) refl
    ]
