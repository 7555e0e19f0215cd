-- Bodies and checksums, a byte at a time.
use Rattle.std.proofs.Common.{◌≡◌, ℕ, ◌+◌, ◌%◌, inl, inr, ◌<◌, List, [], ◌∷◌, ◌++◌, length, get_or, take, refl, sym, ap, ◌∙◌, append_assoc, arith}
use Rattle.std.proofs.Math.Nat.{add-mod-mod, mod-add-mod}
use Rattle.std.proofs.lemmas.List.{append-nil, take_more}
use Rattle.std.proofs.lemmas.Bool.{cases_Bool}
use Rattle.std.proofs.lemmas.List.Sums.{fold-append}
use Rattle.std.specs.List.{sum, fold}
use Rattle.gdb_packets.specs.Framing.{is_special, escaped, checksum}

escaped-append : (xs ys : List ℕ) → escaped (xs ++ ys) ≡ escaped xs ++ escaped ys
unfolding escaped
escaped-append [] ys = refl
escaped-append (x ∷ xs) ys =
    elim (cases_Bool (is_special x)) [
      | inl mark ↦ rw (mark, escaped-append xs ys) refl
      | inr other ↦ rw (other, escaped-append xs ys) refl
    ]

sum-from : (a : ℕ) (xs : List ℕ) → fold ◌+◌ a xs ≡ a + sum xs
sum-from a [] = omega arith
sum-from a (x ∷ xs) = omega (arith, sum-from (a + x) xs, sum-from (0 + x) xs)

sum-append : (xs ys : List ℕ) → sum (xs ++ ys) ≡ sum xs + sum ys
sum-append xs ys = fold-append ◌+◌ 0 xs ys ∙ sum-from (sum xs) ys

checksum-append : (xs ys : List ℕ) → checksum (xs ++ ys) ≡ (checksum xs + checksum ys) % 256
checksum-append xs ys =
    ap (λ (n : ℕ). n % 256) (sum-append xs ys) ∙ sym (mod-add-mod (sum xs) 256 (checksum ys) ∙ add-mod-mod (sum xs) (sum ys) 256)

pub escaped_none : (old : List ℕ) → old ≡ old ++ escaped []
unfolding escaped
escaped_none old = sym (append-nil old)

pub escaped_more : (old payload : List ℕ) (i : ℕ) → i < length payload → (old ++ escaped (take i payload)) ++ escaped (get_or payload i 0 ∷ []) ≡ old ++ escaped (take (i + 1) payload)
escaped_more old payload i lt =
    append_assoc old (escaped (take i payload)) (escaped (get_or payload i 0 ∷ []))
    ∙ ap (λ (text : List ℕ). old ++ text) (sym (escaped-append (take i payload) (get_or payload i 0 ∷ [])) ∙ ap escaped (sym (take_more payload i 0 lt)))

pub escaped_sum_more : (payload : List ℕ) (i : ℕ) → i < length payload → (checksum (escaped (take i payload)) + checksum (escaped (get_or payload i 0 ∷ []))) % 256 ≡ checksum (escaped (take (i + 1) payload))
escaped_sum_more payload i lt =
    sym (checksum-append (escaped (take i payload)) (escaped (get_or payload i 0 ∷ [])))
    ∙ ap checksum (sym (escaped-append (take i payload) (get_or payload i 0 ∷ [])) ∙ ap escaped (sym (take_more payload i 0 lt)))

one : (n x : ℕ) → n + sum (x ∷ []) ≡ n + x
one n x = omega arith

pub sum_more : (bytes : List ℕ) (i : ℕ) → i < length bytes → (checksum (take i bytes) + get_or bytes i 0) % 256 ≡ checksum (take (i + 1) bytes)
sum_more bytes i lt =
    mod-add-mod (sum (take i bytes)) 256 (get_or bytes i 0) ∙ ap (λ (n : ℕ). n % 256) (sym (sum-append (take i bytes) (get_or bytes i 0 ∷ []) ∙ one (sum (take i bytes)) (get_or bytes i 0))) ∙ ap checksum (sym (take_more bytes i 0 lt))
