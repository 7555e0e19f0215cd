-- Well-formed packets are read, and nothing else is read as a packet.
use Rattle.std.proofs.Common.{◌≡◌, ℕ, ◌/◌, ◌%◌, ◌≤◌, inl, inr, Bool, true, false, cond, eqb, ltb, List, [], ◌∷◌, ◌++◌, length, Option, Some, None, refl, sym, ap, ◌∙◌, append_assoc}
use Rattle.std.proofs.lemmas.List.{append-nil}
use Rattle.std.proofs.lemmas.Bool.{cases_Bool, eqb-true, eq-eqb, ltb-false, le-ltb}
use Rattle.std.proofs.lemmas.Option.{some_pair_parts}
use Rattle.evm_text.specs.Written.{character, pairs}
use Rattle.evm_text.proofs.Options.{refuse_some}
use Rattle.gdb_packets.specs.Framing.{turned, is_special, escaped, checksum, packet, framed}
use Rattle.gdb_packets.specs.Items.{Item, Packet, Damaged, payload_on, payload_of, IsPacket, cut_hash, says, or_damaged, checked, packet_behind, behind_dollar, packet_at, sign, item_at}
use Rattle.gdb_packets.specs.declared.item.TheConstants.{PACKET_LIMIT}
use Rattle.gdb_packets.proofs.Cuts.{cut_hash-whole}

-- ---- a packet that was read

-- a packet of the payload stands at the front
abbrev pub Stands : List ℕ → List ℕ → List ℕ → Type 0
Stands payload rest bytes = (one : List ℕ) × IsPacket payload one × (bytes ≡ one ++ rest)

chosen : (b : Bool) (x : Bool) → cond b x false ≡ true → (b ≡ true) × (x ≡ true)
chosen true x e = (refl, e)
chosen false x e = absurd cc

or_damaged-packet : (read : Option (List ℕ)) (payload : List ℕ) → or_damaged read ≡ Packet payload → read ≡ Some payload
or_damaged-packet None payload e = absurd cc
or_damaged-packet (Some p) payload e = cc

checked-packet : (body : List ℕ) (high low : ℕ) (payload : List ℕ) → checked body high low ≡ Packet payload → (says body high low ≡ true) × (payload_of body ≡ Some payload)
checked-packet body high low payload e =
    elim (cases_Bool (says body high low)) [
      | inl said ↦ (said, or_damaged-packet (payload_of body) payload (rw said at e))
      | inr other ↦ let wrong : Damaged ≡ Packet payload = rw other at e in absurd cc
    ]

packet_behind-stands : (body behind payload rest : List ℕ) → length body ≤ PACKET_LIMIT → packet_behind body behind ≡ Some (Packet payload, rest) → Stands payload rest (36 ∷ (body ++ 35 ∷ behind))
unfolding pairs
packet_behind-stands body [] payload rest short e = absurd cc
packet_behind-stands body (high ∷ []) payload rest short e = absurd cc
packet_behind-stands body (high ∷ low ∷ behind) payload rest short e =
    let parts = some_pair_parts (checked body high low) (Packet payload) behind rest e in
    let good = checked-packet body high low payload parts.0 in
    let digits = chosen (eqb high (character (checksum body / 16))) (eqb low (character (checksum body % 16))) good.0 in
    let high-is = eqb-true high (character (checksum body / 16)) digits.0 in
    let low-is = eqb-true low (character (checksum body % 16)) digits.1 in (
      packet body,
      record { body = body; whole = refl; stands = good.1; short = short },
      rw (parts.1, high-is, low-is) (ap (λ (t : List ℕ). 36 ∷ t) (sym (append_assoc body (35 ∷ pairs (checksum body ∷ [])) rest))),
    )

behind_dollar-stands : (bytes payload rest : List ℕ) (cut : Option (List ℕ × List ℕ)) → cut_hash bytes ≡ cut → behind_dollar bytes cut ≡ Some (Packet payload, rest) → Stands payload rest (36 ∷ bytes)
behind_dollar-stands bytes payload rest None is e =
    elim (cases_Bool (ltb PACKET_LIMIT (length bytes))) [
      | inl long ↦ let wrong = some_pair_parts Damaged (Packet payload) bytes rest (rw long at e) in let apart = wrong.0 in absurd cc
      | inr other ↦ let wrong : ◌≡◌ {A = Option (Item × List ℕ)} None (Some (Packet payload, rest)) = rw other at e in absurd cc
    ]
behind_dollar-stands bytes payload rest (Some cut) is e =
    elim (cases_Bool (ltb PACKET_LIMIT (length cut.0))) [
      | inl long ↦ let wrong = some_pair_parts Damaged (Packet payload) bytes rest (rw long at e) in let apart = wrong.0 in absurd cc
      | inr short ↦
          let whole = cut_hash-whole bytes cut is in
          rw whole (packet_behind-stands cut.0 cut.1 payload rest (ltb-false PACKET_LIMIT (length cut.0) short) (rw short at e))
    ]

sign-no_packet : (b : ℕ) (payload : List ℕ) → sign b ≡ Packet payload → ⊥
sign-no_packet b payload e =
    elim (cases_Bool (eqb b 43)) [
      | inl is ↦ let wrong = rw is at e in absurd cc
      | inr a ↦ elim (cases_Bool (eqb b 45)) [
        | inl is ↦ let wrong = rw (a, is) at e in absurd cc
        | inr c ↦ elim (cases_Bool (eqb b 3)) [
          | inl is ↦ let wrong = rw (a, c, is) at e in absurd cc
          | inr d ↦ let wrong = rw (a, c, d) at e in absurd cc
        ]
      ]
    ]

pub item_at-stands : (payload rest bytes : List ℕ) → item_at bytes ≡ Some (Packet payload, rest) → Stands payload rest bytes
unfolding item_at packet_at
item_at-stands payload rest [] e = absurd cc
item_at-stands payload rest (b ∷ bytes) e =
    elim (cases_Bool (eqb b 36)) [
      | inl dollar ↦
          let b-is = eqb-true b 36 dollar in
          rw b-is (behind_dollar-stands bytes payload rest (cut_hash bytes) refl (rw dollar at e))
      | inr other ↦
          let found : Some (sign b, bytes) ≡ Some (Packet payload, rest) = rw other at e in
          absurd (sign-no_packet b payload (some_pair_parts (sign b) (Packet payload) bytes rest found).0)
    ]

-- ---- a packet that is there

-- what a body stands for goes on behind its first byte
goes_on : (escape : Bool) (b : ℕ) (so_far body payload : List ℕ)
    → cond escape (payload_on false (so_far ++ turned b ∷ []) body) (cond (eqb b 125) (payload_on true so_far body) (payload_on false (so_far ++ b ∷ []) body)) ≡ Some payload
    → (escaping : Bool) × (sofar : List ℕ) × (payload_on escaping sofar body ≡ Some payload)
goes_on true b so_far body payload e = (false, so_far ++ turned b ∷ [], e)
goes_on false b so_far body payload e =
    elim (cases_Bool (eqb b 125)) [
      | inl is ↦ (true, so_far, rw is at e)
      | inr other ↦ (false, so_far ++ b ∷ [], rw other at e)
    ]

cut_hash-body : (escape : Bool) (so_far body payload tail : List ℕ) → payload_on escape so_far body ≡ Some payload → cut_hash (body ++ 35 ∷ tail) ≡ Some (body, tail)
unfolding payload_on cut_hash
cut_hash-body escape so_far [] payload tail e = refl
cut_hash-body escape so_far (b ∷ body) payload tail e =
    let first = refuse_some (eqb b 35) _ payload e in
    let second = refuse_some (eqb b 36) _ payload first.1 in
    let next = goes_on escape b so_far body payload second.1 in
    rw (first.0, cut_hash-body next.0 next.1 body payload tail next.2) refl

same_says : (body : List ℕ) → says body (character (checksum body / 16)) (character (checksum body % 16)) ≡ true
same_says body =
    let high = eq-eqb (character (checksum body / 16)) (character (checksum body / 16)) refl in
    let low = eq-eqb (character (checksum body % 16)) (character (checksum body % 16)) refl in
    rw (high, low) refl

pub item_at-packet : (payload one rest : List ℕ) → IsPacket payload one → item_at (one ++ rest) ≡ Some (Packet payload, rest)
unfolding item_at packet_at pairs
item_at-packet payload one rest is =
    let body = is.body in
    let digits = pairs (checksum body ∷ []) in
    let whole : one ++ rest ≡ 36 ∷ (body ++ 35 ∷ (digits ++ rest)) = rw is.whole (ap (λ (t : List ℕ). 36 ∷ t) (append_assoc body (35 ∷ digits) rest)) in
    let cut = cut_hash-body false [] body payload (digits ++ rest) is.stands in
    let short = le-ltb PACKET_LIMIT (length body) is.short in
    rw whole (rw (cut, short, same_says body, is.stands) refl)

-- ---- a packet that was written

unmarked : (b : ℕ) → is_special b ≡ false → (eqb b 35 ≡ false) × (eqb b 36 ≡ false) × (eqb b 125 ≡ false)
unmarked b e =
    elim (cases_Bool (eqb b 35)) [
      | inl is ↦ let wrong : true ≡ false = rw is at e in absurd cc
      | inr a ↦ elim (cases_Bool (eqb b 36)) [
        | inl is ↦ let wrong : true ≡ false = rw (a, is) at e in absurd cc
        | inr c ↦ elim (cases_Bool (eqb b 42)) [
          | inl is ↦ let wrong : true ≡ false = rw (a, c, is) at e in absurd cc
          | inr d ↦ (a, c, rw (a, c, d) at e)
        ]
      ]
    ]

-- the byte behind } is no mark of its own, and turned again it is what it was
record Turns (b : ℕ) : Type 0 where
  hash : eqb (turned b) 35 ≡ false
  dollar : eqb (turned b) 36 ≡ false
  back : turned (turned b) ≡ b

turns_35 : Turns 35
turns_35 = record { hash = refl; dollar = refl; back = refl }

turns_36 : Turns 36
turns_36 = record { hash = refl; dollar = refl; back = refl }

turns_42 : Turns 42
turns_42 = record { hash = refl; dollar = refl; back = refl }

turns_125 : Turns 125
turns_125 = record { hash = refl; dollar = refl; back = refl }

marked : (b : ℕ) → is_special b ≡ true → Turns b
marked b e =
    elim (cases_Bool (eqb b 35)) [
      | inl is ↦ rw (eqb-true b 35 is) turns_35
      | inr a ↦ elim (cases_Bool (eqb b 36)) [
        | inl is ↦ rw (eqb-true b 36 is) turns_36
        | inr c ↦ elim (cases_Bool (eqb b 42)) [
          | inl is ↦ rw (eqb-true b 42 is) turns_42
          | inr d ↦ let last : eqb b 125 ≡ true = rw (a, c, d) at e in rw (eqb-true b 125 last) turns_125
        ]
      ]
    ]

payload_on-escaped : (so_far payload : List ℕ) → payload_on false so_far (escaped payload) ≡ Some (so_far ++ payload)
unfolding payload_on escaped
payload_on-escaped so_far [] = ap Some (sym (append-nil so_far))
payload_on-escaped so_far (b ∷ payload) =
    let next = payload_on-escaped (so_far ++ b ∷ []) payload ∙ ap Some (append_assoc so_far (b ∷ []) payload) in
    elim (cases_Bool (is_special b)) [
      | inl mark ↦ let t = marked b mark in rw (mark, t.hash, t.dollar, t.back) next
      | inr other ↦ let u = unmarked b other in rw (other, u.0, u.1, u.2) next
    ]

pub framed-packet : (payload : List ℕ) → length (escaped payload) ≤ PACKET_LIMIT → IsPacket payload (framed payload)
framed-packet payload short = record { body = escaped payload; whole = refl; stands = payload_on-escaped [] payload; short = short }
