-- The turns of a session.
use Rattle.std.proofs.Common.{◌≡◌, ℕ, zero, suc, ◌+◌, ◌<◌, ◌≤◌, Bool, true, false, eqb, ltb, inl, inr, ◌⊎◌, List, [], ◌∷◌, ◌++◌, length, take, Option, Some, None, refl, sym, ap, subst, ◌∙◌, append_assoc, length-append, length-take, arith}
use Rattle.std.proofs.lemmas.Bool.{cases_Bool}
use Rattle.std.proofs.lemmas.List.{append-nil}
use Rattle.std.proofs.lemmas.Option.{some_pair_parts}
use Rattle.std.specs.Prelude.{nat_eq, if◌then◌else◌}
use Rattle.std.specs.String.{string_len}
use Rattle.evm_streams.specs.declared.source.Reading.{Reading}
use Rattle.evm_streams.specs.declared.sink.Writing.{Writing}
use Rattle.gdb_packets.proofs.Cuts.{cut_hash-whole}
use Rattle.gdb_packets.proofs.Pieces.{item_at-more}
use Rattle.gdb_packets.specs.Items.{Item, Damaged, checked, cut_hash, packet_behind, behind_dollar, packet_at, sign, item_at}
use Rattle.gdb_packets.specs.declared.item.TheConstants.{PACKET_LIMIT}
use Rattle.gdb_answers.specs.Turns.{Standing, ItemsIn, Answers, Serves, none, more, pause, is_asked, Rests, Hears, TakesTurns, starts, answers, reads}
use Rattle.gdb_answers.specs.declared.serving.Ended as ended
use Rattle.gdb_answers.specs.declared.serving.Ended.TheVariants.{Left, Saves, Boots}
use Rattle.gdb_answers.specs.declared.session.Booting.TheVariants.{Asked}
use Rattle.gdb_answers.specs.declared.session.GdbSession.{GdbSession}

-- ---- an item stands at the front of the bytes

-- what is behind a part of some bytes
pub record IsBehind (rest bytes : List ℕ) : Type 0 where
  pub front : List ℕ
  pub whole : bytes ≡ front ++ rest

behind_more : (b : ℕ) (rest bytes : List ℕ) → IsBehind rest bytes → IsBehind rest (b ∷ bytes)
behind_more b rest bytes h = record { front = b ∷ h.front; whole = ap (λ (t : List ℕ). b ∷ t) h.whole }

behind_body : (item : Item) (rest body behind bytes : List ℕ) → bytes ≡ body ++ 35 ∷ behind → packet_behind body behind ≡ Some (item, rest) → IsBehind rest bytes
behind_body item rest body [] bytes e is = absurd cc
behind_body item rest body (high ∷ []) bytes e is = absurd cc
behind_body item rest body (high ∷ low ∷ behind) bytes e is =
    let same = some_pair_parts (checked body high low) item behind rest is in record {
      front = body ++ 35 ∷ high ∷ low ∷ [];
      whole = e ∙ ap (λ (t : List ℕ). body ++ 35 ∷ high ∷ low ∷ t) same.1 ∙ sym (append_assoc body (35 ∷ high ∷ low ∷ []) rest);
    }

behind_all : (item : Item) (rest bytes : List ℕ) → ◌≡◌ {A = Option (Item × List ℕ)} (Some (Damaged, bytes)) (Some (item, rest)) → IsBehind rest bytes
behind_all item rest bytes e = record { front = []; whole = (some_pair_parts Damaged item bytes rest e).1 }

behind_packet : (item : Item) (rest bytes : List ℕ) (cut : Option (List ℕ × List ℕ)) → cut_hash bytes ≡ cut → behind_dollar bytes cut ≡ Some (item, rest) → IsBehind rest bytes
behind_packet item rest bytes None is e =
    elim (cases_Bool (ltb PACKET_LIMIT (length bytes))) [
      | inl long ↦ behind_all item rest bytes (rw long at e)
      | inr other ↦ let wrong : ◌≡◌ {A = Option (Item × List ℕ)} None (Some (item, rest)) = rw other at e in absurd cc
    ]
behind_packet item rest bytes (Some cut) is e =
    elim (cases_Bool (ltb PACKET_LIMIT (length cut.0))) [
      | inl long ↦ behind_all item rest bytes (rw long at e)
      | inr short ↦ behind_body item rest cut.0 cut.1 bytes (cut_hash-whole bytes cut is) (rw short at e)
    ]

pub record IsCut (rest bytes : List ℕ) : Type 0 where
  pub first : ℕ
  pub others : List ℕ
  pub whole : bytes ≡ first ∷ others
  pub behind : IsBehind rest others

pub item_cut : (item : Item) (rest bytes : List ℕ) → item_at bytes ≡ Some (item, rest) → IsCut rest bytes
unfolding item_at packet_at
item_cut item rest [] e = absurd cc
item_cut item rest (b ∷ bytes) e =
    elim (cases_Bool (eqb b 36)) [
      | inl dollar ↦ record { first = b; others = bytes; whole = refl; behind = behind_packet item rest bytes (cut_hash bytes) refl (rw dollar at e) }
      | inr other ↦ record {
        first = b;
        others = bytes;
        whole = refl;
        behind = record { front = []; whole = (some_pair_parts (sign b) item bytes rest (rw other at e)).1 };
      }
    ]

cut_behind : (rest bytes : List ℕ) → IsCut rest bytes → IsBehind rest bytes
cut_behind rest bytes h = subst (IsBehind rest) (sym h.whole) (behind_more h.first rest h.others h.behind)

-- fewer bytes are left
pub item_shorter : (item : Item) (rest bytes : List ℕ) → item_at bytes ≡ Some (item, rest) → length rest < length bytes
item_shorter item rest bytes e =
    let h = item_cut item rest bytes e in
    omega (arith, ap length h.whole, ap length h.behind.whole, length-append h.behind.front rest)

-- ---- items one behind the other

behind_behind : (a b c : List ℕ) → IsBehind b a → IsBehind c b → IsBehind c a
behind_behind a b c h k = record { front = h.front ++ k.front; whole = h.whole ∙ ap (λ (t : List ℕ). h.front ++ t) k.whole ∙ sym (append_assoc h.front k.front c) }

pub items_behind : (bytes : List ℕ) (items : List Item) (rest : List ℕ) → ItemsIn bytes items rest → IsBehind rest bytes
items_behind bytes [] rest h = record { front = []; whole = h }
items_behind bytes (item ∷ items) rest h = behind_behind bytes h.0 rest (cut_behind h.0 bytes (item_cut item h.0 bytes h.1)) (items_behind h.0 items rest h.2)

items_join : (a : List ℕ) (items : List Item) (b : List ℕ) (others : List Item) (c : List ℕ) → ItemsIn a items b → ItemsIn b others c → ItemsIn a (items ++ others) c
items_join a [] b others c h k = subst (λ (t : List ℕ). ItemsIn t others c) (sym h) k
items_join a (item ∷ items) b others c h k = (h.0, h.1, items_join h.0 items b others c h.2 k)

items_longer : (bytes : List ℕ) (items : List Item) (rest later : List ℕ) → ItemsIn bytes items rest → ItemsIn (bytes ++ later) items (rest ++ later)
items_longer bytes [] rest later h = ap (λ (t : List ℕ). t ++ later) h
items_longer bytes (item ∷ items) rest later h = (h.0 ++ later, item_at-more item h.0 bytes later h.1, items_longer h.0 items rest later h.2)

module _ {W : Type 0} (takes : W → Writing → List ℕ → W → Type 0) where
  pub serves_in : (s : Standing W) (items : List Item) (t : Standing W) → Serves takes s items t → ItemsIn s.heard items t.heard
  serves_in s items t none = refl
  serves_in s items t (more {t = before} {items = earlier} {item} served answer) =
      items_join s.heard earlier before.heard (item ∷ []) t.heard (serves_in s earlier before served) (t.heard, answer.next, refl)

-- ---- a session that goes on

asked_pauses : (s : GdbSession) (bare : Bool) → nat_eq (string_len s.save) 0 ≡ bare → s.over ≡ false → s.booting ≡ Asked → pause s ≡ None → ⊥
asked_pauses s true is stays asked e = let wrong : ◌≡◌ {A = Option ended.Ended} (Some Boots) None = rw (stays, is, asked) at e in absurd cc
asked_pauses s false is stays asked e = let wrong : ◌≡◌ {A = Option ended.Ended} (Some Saves) None = rw (stays, is) at e in absurd cc

pub rests_goes_on : {W : Type 0} (at end : Standing W) → Rests at end → pause end.session ≡ None → (item_at at.heard ≡ None) × (end ≡ at)
rests_goes_on {W} at end (inl (inl over, same)) e =
    let wrong : pause at.session ≡ None = subst (λ (s : Standing W). pause s.session ≡ None) same e in
    let left : ◌≡◌ {A = Option ended.Ended} (Some Left) None = rw over at wrong in absurd cc
rests_goes_on {W} at end (inl (inr whole, same)) e = (whole, same)
rests_goes_on {W} at end (inr waits) e =
    let same = ap (λ (s : Standing W). s.session) waits.becomes in
    absurd (asked_pauses end.session (nat_eq (string_len end.session.save) 0) refl (ap (λ (s : GdbSession). s.over) same ∙ waits.stays) (ap (λ (s : GdbSession). s.booting) same) e)

-- what a session has done so far, in so many parts that it read
pub record Gone {R W : Type 0} (gives : R → Reading → List ℕ → R → Type 0) (takes : W → Writing → List ℕ → W → Type 0) (parts : ℕ) (source : R) (start : Standing W) (before : R) (at : Standing W) : Type 0 where
  pub items : List Item
  pub read : List ℕ
  pub goes : TakesTurns gives takes source start items read before at
  pub sent : ItemsIn (start.heard ++ read) items at.heard
  pub many : parts ≤ length read

module _ {R W : Type 0} (gives : R → Reading → List ℕ → R → Type 0) (takes : W → Writing → List ℕ → W → Type 0) where
  pub gone_nowhere : (r : R) (s : Standing W) → Gone gives takes 0 r s r s
  gone_nowhere r s = record { items = []; read = []; goes = starts; sent = append-nil s.heard; many = omega arith }

  -- items are answered
  pub gone_answers : (k : ℕ) (r : R) (s : Standing W) (q : R) (t u : Standing W) (others : List Item) → Gone gives takes k r s q t → Serves takes t others u → Gone gives takes k r s q u
  gone_answers k r s q t u others h served = record {
    items = h.items ++ others;
    read = h.read;
    goes = answers h.goes served;
    sent = items_join (s.heard ++ h.read) h.items t.heard others u.heard h.sent (serves_in takes t others u served);
    many = h.many;
  }

  -- bytes are read
  pub gone_reads : (k : ℕ) (r : R) (s : Standing W) (q : R) (t : Standing W) (p : R) (u : Standing W) (bytes : List ℕ) → Gone gives takes k r s q t → Hears gives bytes q t p u → Gone gives takes (k + 1) r s p u
  gone_reads k r s q t p u bytes h hears =
      let longer = items_longer (s.heard ++ h.read) h.items t.heard bytes h.sent in
      let behind : u.heard ≡ t.heard ++ bytes = ap (λ (x : Standing W). x.heard) hears.behind in
      let P : List ℕ → Type 0 = λ z. ItemsIn (s.heard ++ (h.read ++ bytes)) h.items z in
      let Q : List ℕ → Type 0 = λ z. ItemsIn z h.items (t.heard ++ bytes) in
      let some : 0 < length bytes = rw hears.gave (simp length-take (omega (arith, hears.some, hears.call.room))) in record {
        items = h.items;
        read = h.read ++ bytes;
        goes = reads h.goes hears;
        sent = subst P (sym behind) (subst Q (append_assoc s.heard h.read bytes) longer);
        many = omega (arith, h.many, some, length-append h.read bytes);
      }
