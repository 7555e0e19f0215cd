-- Escaped text, and drafts that grow.
use Rattle.std.proofs.Common.{◌≡◌, ℕ, ◌+◌, ◌<◌, List, [], ◌∷◌, ◌++◌, length, take, get_or, refl, sym, ap, ◌∙◌, append_assoc, add-one, arith}
use Rattle.std.proofs.Math.Seq.{take-suc}
use Rattle.std.proofs.lemmas.List.{append-nil}
use Rattle.text_markup.specs.Xml.{escaped_text, escaped_byte}

pub escaped-none : escaped_text [] ≡ []
unfolding escaped_text
escaped-none = refl

pub escaped-append : (a b : List ℕ) → escaped_text (a ++ b) ≡ escaped_text a ++ escaped_text b
unfolding escaped_text
escaped-append [] b = refl
escaped-append (x ∷ a) b = ap (λ t. escaped_byte x ++ t) (escaped-append a b) ∙ sym (append_assoc (escaped_byte x) (escaped_text a) (escaped_text b))

pub escaped-one : (byte : ℕ) → escaped_text (byte ∷ []) ≡ escaped_byte byte
unfolding escaped_text
escaped-one byte = append-nil (escaped_byte byte)

pub ruleset escapes = (escaped-none, escaped-append, escaped-one, append_assoc, append-nil)

-- one byte more
pub escaped-more : (xs : List ℕ) (i : ℕ) (old mid new : List ℕ) → i < length xs → mid ≡ old ++ escaped_text (take i xs) → new ≡ mid ++ escaped_byte (get_or xs i 0) → new ≡ old ++ escaped_text (take (i + 1) xs)
escaped-more xs i old mid new below e g =
    let b : ℕ = get_or xs i 0 in
    let t : take (i + 1) xs ≡ take i xs ++ (b ∷ []) = rw add-one (take-suc xs i 0 below) in
    let text : escaped_text (take (i + 1) xs) ≡ escaped_text (take i xs) ++ escaped_byte b = ap escaped_text t ∙ escaped-append (take i xs) (b ∷ []) ∙ ap (λ l. escaped_text (take i xs) ++ l) (escaped-one b) in
    g ∙ ap (λ l. l ++ escaped_byte b) e ∙ append_assoc old (escaped_text (take i xs)) (escaped_byte b) ∙ ap (λ l. old ++ l) (sym text)
