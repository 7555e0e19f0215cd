-- The word at the front of a text begins as the text does, where that begins with a digit.
use Rattle.std.proofs.Common.{◌≡◌, ◌∙◌, ◌≤◌, ◌+◌, ℕ, suc, Bool, true, false, cond, not, ◌||◌, nat_lt, List, [], ◌∷◌, length, take, Some, None, ap, sym, refl, arith}
use Rattle.std.specs.Option.{unwrap_or}
use Rattle.std.specs.List.{position_or_len}
use Rattle.std.proofs.lemmas.Bool.{ltb-false}
use Rattle.std.proofs.lemmas.List.Sums.{prefix_len-le-length}
use Rattle.evm_asm_lexer.specs.Text.{is_digit, is_name_start, is_word_byte, place_by, first_word, starts_with}

picked : (n m : ℕ) → n ≤ m → (t : Bool) → nat_lt n m ≡ t → unwrap_or (cond t (Some n) None) m ≡ n
picked n m h true e = refl
picked n m h false e = omega (arith, ltb-false n m e)

place-is : (p : ℕ → Bool) (xs : List ℕ) → place_by p xs ≡ position_or_len p xs
place-is p xs = picked (position_or_len p xs) (length xs) (prefix_len-le-length (λ x. not (p x)) xs) _ refl

word-place : (b : ℕ) (bs : List ℕ) (t : Bool) → is_word_byte b ≡ t
    → place_by (λ x. not (is_word_byte x)) (b ∷ bs) ≡ cond t (suc (place_by (λ x. not (is_word_byte x)) bs)) 0
word-place b bs true e =
    let one : 1 + position_or_len (λ x. not (is_word_byte x)) bs ≡ suc (position_or_len (λ x. not (is_word_byte x)) bs) = omega arith in
    place-is (λ x. not (is_word_byte x)) (b ∷ bs) ∙ ap (λ t. cond (not (not t)) (1 + position_or_len (λ x. not (is_word_byte x)) bs) 0) e ∙ one
    ∙ ap (λ n. suc n) (sym (place-is (λ x. not (is_word_byte x)) bs))
word-place b bs false e =
    place-is (λ x. not (is_word_byte x)) (b ∷ bs) ∙ ap (λ t. cond (not (not t)) (1 + position_or_len (λ x. not (is_word_byte x)) bs) 0) e

second : (a b : Bool) → (a || b) ≡ false → b ≡ false
second true b h = cc
second false b h = h

pub digit_first : (text : List ℕ) → starts_with is_digit (first_word text) ≡ starts_with is_digit text
unfolding first_word
digit_first [] = refl
digit_first (b ∷ bs) = by (is_word_byte b) refl
  where
    by : (t : Bool) → is_word_byte b ≡ t → starts_with is_digit (first_word (b ∷ bs)) ≡ is_digit b
    by true e = ap (λ n. starts_with is_digit (take n (b ∷ bs))) (word-place b bs true e)
    by false e = ap (λ n. starts_with is_digit (take n (b ∷ bs))) (word-place b bs false e) ∙ sym (second (is_name_start b) (is_digit b) e)
