-- A text that grows by what each element of a list is written as.
use Rattle.std.proofs.Common.{◌≡◌, ℕ, ◌+◌, ◌<◌, List, [], ◌∷◌, ◌++◌, length, take, get_or, flat_map, refl, sym, ap, ◌∙◌, append_assoc, add-one, arith}
use Rattle.std.proofs.Math.Seq.{take-suc}
use Rattle.std.proofs.lemmas.List.{append-nil}

pub flat-append : {X Y : Type 0} (f : X → List Y) (a b : List X) → flat_map f (a ++ b) ≡ flat_map f a ++ flat_map f b
flat-append f [] b = refl
flat-append f (x ∷ a) b = ap (λ t. f x ++ t) (flat-append f a b) ∙ sym (append_assoc (f x) (flat_map f a) (flat_map f b))

-- one element more
pub flat-more : {X Y : Type 0} (f : X → List Y) (xs : List X) (i : ℕ) (x : X) (old mid new : List Y) → i < length xs → x ≡ get_or xs i x → mid ≡ old ++ flat_map f (take i xs) → new ≡ mid ++ f x
    → new ≡ old ++ flat_map f (take (i + 1) xs)
flat-more f xs i x old mid new below at e g =
    let t : take (i + 1) xs ≡ take i xs ++ (x ∷ []) = rw add-one (take-suc xs i x below ∙ ap (λ b. take i xs ++ (b ∷ [])) (sym at)) in
    let text : flat_map f (take (i + 1) xs) ≡ flat_map f (take i xs) ++ f x = ap (flat_map f) t ∙ flat-append f (take i xs) (x ∷ []) ∙ ap (λ l. flat_map f (take i xs) ++ l) (append-nil (f x)) in
    g ∙ ap (λ l. l ++ f x) e ∙ append_assoc old (flat_map f (take i xs)) (f x) ∙ ap (λ l. old ++ l) (sym text)
