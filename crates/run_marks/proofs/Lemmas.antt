-- Lists made number by number, and what is appended piece by piece.
use Rattle.std.proofs.Common.{◌≡◌, ℕ, ◌+◌, List, [], ◌++◌, refl, ap, sym, ◌∙◌, add-one, append_assoc}
use Rattle.std.proofs.lemmas.List.{append-nil}
use Rattle.std.specs.Prelude.{OnOk, Result, Ok, Err}
use Rattle.run_marks.specs.Lists.{below}

pub below-none : {X : Type 0} → (f : ℕ → List X) → below f 0 ≡ []
unfolding below
below-none f = refl

pub below-more : {X : Type 0} → (f : ℕ → List X) → (n : ℕ) → below f (n + 1) ≡ below f n ++ f n
unfolding below
below-more f n = rw add-one refl

pub ruleset numbered = (below-none, below-more, append_assoc, append-nil)

-- two pieces one behind the other
pub chained : {X A E : Type 0} → (r : Result A E) (old mid new x y z : List X) → OnOk r (new ≡ mid ++ y) → mid ≡ old ++ x → x ++ y ≡ z → OnOk r (new ≡ old ++ z)
chained (Ok a) old mid new x y z e f g = e ∙ ap (λ l. l ++ y) f ∙ append_assoc old x y ∙ ap (λ l. old ++ l) g
chained (Err e) old mid new x y z h f g = tt

-- one piece more
pub stepped : {X : Type 0} → (f : ℕ → List X) (n : ℕ) (old mid new x : List X) → mid ≡ old ++ below f n → new ≡ mid ++ x → x ≡ f n → new ≡ old ++ below f (n + 1)
stepped f n old mid new x e g h =
    g ∙ ap (λ l. l ++ x) e ∙ append_assoc old (below f n) x ∙ ap (λ l. old ++ (below f n ++ l)) h ∙ ap (λ l. old ++ l) (sym (below-more f n))

-- what follows from what holds where there is no error
pub then : {A E : Type 0} (P Q : Type 0) (r : Result A E) → (P → Q) → OnOk r P → OnOk r Q
then P Q (Ok a) f p = f p
then P Q (Err e) f p = p
