-- Words at the front.
use Rattle.std.proofs.Common.{◌≡◌, ℕ, Bool, true, false, cond, eqb, ◌+◌, Bor, List, [], ◌∷◌, ◌++◌, length, take, drop, Option, Some, None, refl, ◌∙◌, ◌&&◌}
use Rattle.std.specs.Prelude.{MatchOption}
use Rattle.std.specs.Cmp.Lexicographic.{pointwise}
use Rattle.std.proofs.lemmas.Bool.{eqb-true, eq-eqb}
use Rattle.evm_text.specs.Reading.{ReadsAs, after_word}
use Rattle.evm_text.proofs.Options.{guard_some}

guarded : (b whole : Bool) (x y : Option (List ℕ)) → x ≡ cond whole y None → cond b x None ≡ cond (b && whole) y None
guarded true whole x y e = e
guarded false whole x y e = refl

-- the same by a test of the whole word
pub after_word-pointwise : (word bytes : List ℕ) → after_word word bytes ≡ cond (pointwise eqb (take (length word) bytes) word) (Some (drop (length word) bytes)) None
unfolding after_word
after_word-pointwise [] bytes = refl
after_word-pointwise (c ∷ word) [] = refl
after_word-pointwise (c ∷ word) (b ∷ bytes) = guarded (eqb b c) (pointwise eqb (take (length word) bytes) word) (after_word word bytes) (Some (drop (length word) bytes)) (after_word-pointwise word bytes)

pub after_word-tested : (r : Option (Bor (List ℕ))) (word bytes : List ℕ)
    → MatchOption r (pointwise eqb (take (length word) bytes) word ≡ false) (λ x. (pointwise eqb (take (length word) bytes) word ≡ true) × (x.now ≡ drop (length word) bytes) × (length x.now + length word ≡ length bytes))
    → ReadsAs (λ (x : Bor (List ℕ)). x.now) r (after_word word bytes)
after_word-tested (Some x) word bytes h = after_word-pointwise word bytes ∙ rw (h.0, h.1) refl
after_word-tested None word bytes h = after_word-pointwise word bytes ∙ rw h refl

pub after_word-takes : (word rest bytes : List ℕ) → after_word word bytes ≡ Some rest → bytes ≡ word ++ rest
unfolding after_word
after_word-takes [] rest bytes read = cc
after_word-takes (c ∷ word) rest [] read = absurd cc
after_word-takes (c ∷ word) rest (b ∷ bytes) read =
    let g = guard_some (eqb b c) (after_word word bytes) rest read in
    let first = eqb-true b c g.0 in
    let behind = after_word-takes word rest bytes g.1 in
    rw (first, behind) refl

pub after_word-again : (word rest : List ℕ) → after_word word (word ++ rest) ≡ Some rest
unfolding after_word
after_word-again [] rest = refl
after_word-again (c ∷ word) rest = let same = eq-eqb c c refl in rw same (after_word-again word rest)
