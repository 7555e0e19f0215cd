-- Where the first # is.
use Rattle.std.proofs.Common.{◌≡◌, ℕ, zero, suc, ◌+◌, ◌<◌, ◌≤◌, inl, inr, eqb, List, [], ◌∷◌, ◌++◌, length, get_or, take, drop, Option, Some, None, refl, sym, ap, ◌∙◌, arith, add-one, ◌-◌, length-drop}
use Rattle.std.proofs.lemmas.Bool.{ne_eqb, eq-eqb, eqb-true, cases_Bool}
use Rattle.std.proofs.lemmas.List.{take_all}
use Rattle.memchr.specs.Find.{Nowhere, Passes, is_byte}
use Rattle.gdb_packets.specs.Items.{with_front, cut_hash}

-- no byte of these is a #
abbrev pub NoHash : List ℕ → ℕ → Type 0
NoHash bytes i = (k : ℕ) → k < i → get_or bytes k 0 ≡ 35 → ⊥

-- what the search says of them
pub no_hash-found : (bytes : List ℕ) (i : ℕ) → Nowhere (Passes (is_byte 35) bytes) 0 i → NoHash bytes i
no_hash-found bytes i nowhere k below is = nowhere k (omega arith) below (eq-eqb (get_or bytes k 0) 35 is)

no_hash-tail : (b : ℕ) (bytes : List ℕ) (i : ℕ) → NoHash (b ∷ bytes) (suc i) → NoHash bytes i
no_hash-tail b bytes i h k lt e = h (suc k) (omega arith) e

cut_hash-at : (bytes : List ℕ) (i : ℕ) → i < length bytes → get_or bytes i 0 ≡ 35 → NoHash bytes i → cut_hash bytes ≡ Some (take i bytes, drop (suc i) bytes)
unfolding cut_hash
cut_hash-at [] i lt e before = absurd (omega arith)
cut_hash-at (b ∷ bytes) zero lt e before = rw e refl
cut_hash-at (b ∷ bytes) (suc i) lt e before =
    let differs : (b ≡ 35 → ⊥) = before 0 (omega arith) in
    let below : i < length bytes = omega arith in
    rw (ne_eqb b 35 differs, cut_hash-at bytes i below e (no_hash-tail b bytes i before)) refl

pub cut_hash-none : (bytes : List ℕ) → NoHash bytes (length bytes) → cut_hash bytes ≡ None
unfolding cut_hash
cut_hash-none [] before = refl
cut_hash-none (b ∷ bytes) before =
    let differs : (b ≡ 35 → ⊥) = before 0 (omega arith) in
    rw (ne_eqb b 35 differs, cut_hash-none bytes (no_hash-tail b bytes (length bytes) before)) refl

pub cut_hash-cut : (bytes : List ℕ) (n : ℕ) → n < length bytes → get_or bytes n 0 ≡ 35 → NoHash bytes n → cut_hash bytes ≡ Some (take n bytes, take (length bytes - (n + 1)) (drop (n + 1) bytes))
cut_hash-cut bytes n lt e before =
    let all : take (length bytes - (n + 1)) (drop (n + 1) bytes) ≡ drop (suc n) bytes = rw add-one (take_all (length bytes - suc n) (drop (suc n) bytes) (omega (arith, length-drop (suc n) bytes))) in
    rw all (cut_hash-at bytes n lt e before)

-- ---- what a cut says

front_some : (b : ℕ) (r : Option (List ℕ × List ℕ)) (cut : List ℕ × List ℕ) → with_front b r ≡ Some cut → (d : List ℕ × List ℕ) × (r ≡ Some d) × (cut.0 ≡ b ∷ d.0) × (cut.1 ≡ d.1)
front_some b None cut e = absurd cc
front_some b (Some d) cut e = (d, refl, cc, cc)

front_none : (b : ℕ) (r : Option (List ℕ × List ℕ)) → with_front b r ≡ None → r ≡ None
front_none b None e = refl
front_none b (Some d) e = absurd cc

pub cut_hash-whole : (bytes : List ℕ) (cut : List ℕ × List ℕ) → cut_hash bytes ≡ Some cut → bytes ≡ cut.0 ++ 35 ∷ cut.1
unfolding cut_hash
cut_hash-whole [] cut e = absurd cc
cut_hash-whole (b ∷ bytes) cut e =
    elim (cases_Bool (eqb b 35)) [
      | inl hash ↦
          let found : Some ([], bytes) ≡ Some cut = rw hash at e in
          let b-is = eqb-true b 35 hash in
          let front : cut.0 ≡ [] = cc in
          let behind : cut.1 ≡ bytes = cc in
          rw (front, behind, b-is) refl
      | inr other ↦
          let parts = front_some b (cut_hash bytes) cut (rw other at e) in
          let d = parts.0 in
          ap (λ (t : List ℕ). b ∷ t) (cut_hash-whole bytes d parts.1)
          ∙ sym (ap (λ (t : List ℕ). t ++ 35 ∷ d.1) parts.2) ∙ sym (ap (λ (t : List ℕ). cut.0 ++ 35 ∷ t) parts.3)
    ]

pub cut_hash-more : (bytes more : List ℕ) (cut : List ℕ × List ℕ) → cut_hash bytes ≡ Some cut → cut_hash (bytes ++ more) ≡ Some (cut.0, cut.1 ++ more)
unfolding cut_hash
cut_hash-more [] more cut e = absurd cc
cut_hash-more (b ∷ bytes) more cut e =
    elim (cases_Bool (eqb b 35)) [
      | inl hash ↦
          let found : Some ([], bytes) ≡ Some cut = rw hash at e in
          let front : cut.0 ≡ [] = cc in
          let behind : cut.1 ≡ bytes = cc in
          rw (hash, front, behind) refl
      | inr other ↦
          let parts = front_some b (cut_hash bytes) cut (rw other at e) in
          let d = parts.0 in
          rw (other, cut_hash-more bytes more d parts.1)
          (sym (ap (λ (t : List ℕ). Some (t, d.1 ++ more)) parts.2) ∙ sym (ap (λ (t : List ℕ). Some (cut.0, t ++ more)) parts.3))
    ]

-- a cut that more bytes made is behind those that had none
pub cut_hash-later : (bytes more : List ℕ) (cut : List ℕ × List ℕ) → cut_hash bytes ≡ None → cut_hash (bytes ++ more) ≡ Some cut → length bytes ≤ length cut.0
unfolding cut_hash
cut_hash-later [] more cut none e = omega arith
cut_hash-later (b ∷ bytes) more cut none e =
    elim (cases_Bool (eqb b 35)) [
      | inl hash ↦ let wrong : ◌≡◌ {A = Option (List ℕ × List ℕ)} (Some ([], bytes)) None = rw hash at none in absurd cc
      | inr other ↦
          let before = front_none b (cut_hash bytes) (rw other at none) in
          let parts = front_some b (cut_hash (bytes ++ more)) cut (rw other at e) in
          let later = cut_hash-later bytes more parts.0 before parts.1 in
          omega (arith, later, ap length parts.2)
    ]
