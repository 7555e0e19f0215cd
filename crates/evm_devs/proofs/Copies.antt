-- Devices that have the words of others, one after the other.
use Rattle.std.proofs.Common.{◌≡◌, ℕ, ◌+◌, ◌<◌, ◌≤◌, List, [], ◌∷◌, length, map, Option, Some, None, inl, inr, refl, sym, ap, ◌∙◌, arith}
use Rattle.std.specs.Prelude.{slice_get, slice_set, option_map}
use Rattle.std.proofs.lemmas.Bool.{cases_lt}
use Rattle.std.proofs.lemmas.List.{length-map}
use Rattle.std.proofs.lemmas.Option.{slice_get-map, slice_get_past}
use Rattle.evm_dev.specs.Attached.{Attached}
use Rattle.evm_dev.specs.declared.kind.Kind.{Kind}
use Rattle.evm_model.proofs.Lists.{same_elements, slice_get-set_other, slice_get-set_same, slice_set-same}
use Rattle.evm_devs.specs.Bus.{kinds_of}
use Rattle.evm_devs.proofs.Bus.{map-slice_set, same-device, seen-at}

abbrev pub seen_as : {D : Type 0} → (D → Kind) → (D → List ℕ) → D → Attached
seen_as kind_of words_of device = record { kind = kind_of device; words = words_of device }

-- the devices below i are the others, and each has its kind
pub record AreCopied {D : Type 0} (kind_of : D → Kind) (words_of : D → List ℕ) (i : ℕ) (devices others : List D) : Type 0 where
  pub kinds : map kind_of devices ≡ map kind_of others
  pub seen : (k : ℕ) → k < i → slice_get (map (seen_as kind_of words_of) devices) k ≡ slice_get (map (seen_as kind_of words_of) others) k

pub kinds-seen : {D : Type 0} (kind_of : D → Kind) (words_of : D → List ℕ) (xs : List D) → kinds_of (map (seen_as kind_of words_of) xs) ≡ map kind_of xs
kinds-seen kind_of words_of [] = refl
kinds-seen kind_of words_of (x ∷ xs) = ap (λ (ks : List Kind). kind_of x ∷ ks) (kinds-seen kind_of words_of xs)

pub same_count : {D B : Type 0} (f : D → B) (xs ys : List D) → map f xs ≡ map f ys → length xs ≡ length ys
same_count f xs ys same = sym (length-map xs f) ∙ ap length same ∙ length-map ys f

kind-at : {D : Type 0} (kind_of : D → Kind) (xs : List D) (i : ℕ) (x : D) → slice_get xs i ≡ Some x → slice_get (map kind_of xs) i ≡ Some (kind_of x)
kind-at kind_of xs i x e = slice_get-map kind_of xs i ∙ ap (λ (o : Option _). option_map kind_of o) e

-- two at one place are of one kind
pub same_kind : {D : Type 0} (kind_of : D → Kind) (xs ys : List D) (i : ℕ) (x y : D) → map kind_of xs ≡ map kind_of ys → slice_get xs i ≡ Some x → slice_get ys i ≡ Some y → kind_of x ≡ kind_of y
same_kind kind_of xs ys i x y kinds here there =
    let e : Some (kind_of x) ≡ Some (kind_of y) =
    sym (kind-at kind_of xs i x here) ∙ ap (λ (ks : List Kind). slice_get ks i) kinds ∙ kind-at kind_of ys i y there in
    cc

-- one more
pub copied : {D : Type 0} (kind_of : D → Kind) (words_of : D → List ℕ) (i : ℕ) (xs ys : List D) (x new y : D) → slice_get xs i ≡ Some x → slice_get ys i ≡ Some y
    → kind_of new ≡ kind_of x → words_of new ≡ words_of y → AreCopied kind_of words_of i xs ys → AreCopied kind_of words_of (i + 1) (slice_set xs i new) ys
copied kind_of words_of i xs ys x new y here there kind words was = record {
  kinds =
      let same : slice_set (map kind_of xs) i (kind_of new) ≡ map kind_of xs =
      slice_set-same (map kind_of xs) i (kind_of new) (kind-at kind_of xs i x here ∙ ap Some (sym kind)) in
      map-slice_set kind_of xs i new ∙ same ∙ was.kinds;
  seen = λ k below.
      elim (cases_lt k i) [
        | inl before ↦
            let other : k ≡ i → ⊥ = λ same. omega (arith, same, before) in
            ap (λ (ds : List Attached). slice_get ds k) (map-slice_set (seen_as kind_of words_of) xs i new)
            ∙ slice_get-set_other (map (seen_as kind_of words_of) xs) i k (seen_as kind_of words_of new) other ∙ was.seen k before
        | inr after ↦
            let last : k ≡ i = omega arith in
            let at : slice_get (map (seen_as kind_of words_of) xs) i ≡ Some (seen_as kind_of words_of x) = seen-at (seen_as kind_of words_of) xs i x here in
            let is : seen_as kind_of words_of new ≡ seen_as kind_of words_of y =
            same-device (seen_as kind_of words_of new) (seen_as kind_of words_of y) (kind ∙ same_kind kind_of xs ys i x y was.kinds here there) words in
            rw last (
            ap (λ (ds : List Attached). slice_get ds i) (map-slice_set (seen_as kind_of words_of) xs i new)
            ∙ slice_get-set_same (map (seen_as kind_of words_of) xs) i (seen_as kind_of words_of x) (seen_as kind_of words_of new) at
            ∙ ap Some is ∙ sym (seen-at (seen_as kind_of words_of) ys i y there))
      ];
}

-- all
pub all_copied : {D : Type 0} (kind_of : D → Kind) (words_of : D → List ℕ) (i : ℕ) (xs ys : List D) → length ys ≤ i → AreCopied kind_of words_of i xs ys
    → map (seen_as kind_of words_of) xs ≡ map (seen_as kind_of words_of) ys
all_copied kind_of words_of i xs ys past was =
    let count : length xs ≡ length ys = same_count kind_of xs ys was.kinds in
    same_elements (map (seen_as kind_of words_of) xs) (map (seen_as kind_of words_of) ys) (λ k.
    elim (cases_lt k i) [
      | inl before ↦ was.seen k before
      | inr after ↦
          slice_get_past (map (seen_as kind_of words_of) xs) k (omega (arith, length-map xs (seen_as kind_of words_of), count))
          ∙ sym (slice_get_past (map (seen_as kind_of words_of) ys) k (omega (arith, length-map ys (seen_as kind_of words_of))))
    ])

-- the devices below i are of the kinds of the others
abbrev pub HaveKinds : {D : Type 0} → (D → Kind) → ℕ → List D → List D → Type 0
HaveKinds kind_of i devices others = (k : ℕ) → k < i → slice_get (map kind_of devices) k ≡ slice_get (map kind_of others) k

-- one more
pub one_more_kind : {D : Type 0} (kind_of : D → Kind) (i : ℕ) (xs ys : List D) (x y : D) → slice_get xs i ≡ Some x → slice_get ys i ≡ Some y → kind_of x ≡ kind_of y
    → HaveKinds kind_of i xs ys → HaveKinds kind_of (i + 1) xs ys
one_more_kind kind_of i xs ys x y here there same was k below =
    elim (cases_lt k i) [
      | inl before ↦ was k before
      | inr after ↦
          let last : k ≡ i = omega arith in
          rw last (kind-at kind_of xs i x here ∙ ap Some same ∙ sym (kind-at kind_of ys i y there))
    ]

-- all
pub all_kinds : {D : Type 0} (kind_of : D → Kind) (i : ℕ) (xs ys : List D) → length xs ≤ i → length xs ≡ length ys → HaveKinds kind_of i xs ys → map kind_of xs ≡ map kind_of ys
all_kinds kind_of i xs ys past count was =
    same_elements (map kind_of xs) (map kind_of ys) (λ k.
    elim (cases_lt k i) [
      | inl before ↦ was k before
      | inr after ↦
          slice_get_past (map kind_of xs) k (omega (arith, length-map xs kind_of))
          ∙ sym (slice_get_past (map kind_of ys) k (omega (arith, length-map ys kind_of, count)))
    ])
