-- Numerals as the recursion makes them.
use Rattle.std.proofs.Common.{◌≡◌, ℕ, zero, suc, ◌+◌, ◌-◌, ◌*◌, ◌^◌, ◌/◌, ◌%◌, ◌<◌, ◌≤◌, List, [], ◌∷◌, ◌++◌, length, take, get_or, refl, sym, ap, ◌∙◌, append_assoc, arith}
use Rattle.std.proofs.Math.Nat.{pow-suc, pow-zero}
use Rattle.std.proofs.lemmas.List.{append-nil, take_more}
use Rattle.std.proofs.lemmas.Bool.{lt-ltb, le-ltb}
use Rattle.evm_text.specs.Written.{character, numeral, pairs}

pub numeral_one : (base divisions n : ℕ) → n < base → numeral base divisions n ≡ character n ∷ []
unfolding numeral
numeral_one base zero n small = refl
numeral_one base (suc divisions) n small = let e = lt-ltb n base small in rw e refl

pub some_division : (base divisions n : ℕ) → n < base ^ (divisions + 1) → base ≤ n → 0 < divisions
some_division base zero n below large =
    let one : base ^ (0 + 1) ≡ base ^ 0 * base = pow-suc base 0 in
    let none = rw (pow-zero base) at one in
    absurd (omega (arith, none))
some_division base (suc divisions) n below large = omega arith

numeral_more : (base divisions n : ℕ) → 0 < divisions → base ≤ n → numeral base divisions n ≡ numeral base (divisions - 1) (n / base) ++ character (n % base) ∷ []
unfolding numeral
numeral_more base zero n some large = absurd (omega arith)
numeral_more base (suc divisions) n some large =
    let e = le-ltb n base large in
    let less : suc divisions - 1 ≡ divisions = omega arith in
    rw (e, less) refl

-- one character behind what stands already
pub numeral_then : (old : List ℕ) (base divisions n : ℕ) → 0 < divisions → base ≤ n → (old ++ numeral base (divisions - 1) (n / base)) ++ character (n % base) ∷ [] ≡ old ++ numeral base divisions n
numeral_then old base divisions n some large =
    append_assoc old (numeral base (divisions - 1) (n / base)) (character (n % base) ∷ []) ∙ ap (λ (text : List ℕ). old ++ text) (sym (numeral_more base divisions n some large))

pairs-append : (xs ys : List ℕ) → pairs (xs ++ ys) ≡ pairs xs ++ pairs ys
unfolding pairs
pairs-append [] ys = refl
pairs-append (x ∷ xs) ys = ap (λ (text : List ℕ). character (x / 16) ∷ character (x % 16) ∷ text) (pairs-append xs ys)

pub pairs_start : (old : List ℕ) → old ≡ old ++ pairs []
unfolding pairs
pairs_start old = sym (append-nil old)

pub pairs_more : (old bytes : List ℕ) (i : ℕ) → i < length bytes
    → old ++ pairs (take i bytes) ++ character (get_or bytes i 0 / 16) ∷ [] ++ character (get_or bytes i 0 % 16) ∷ [] ≡ old ++ pairs (take (i + 1) bytes)
unfolding pairs
pairs_more old bytes i lt =
    let more = pairs-append (take i bytes) (get_or bytes i 0 ∷ []) in
    rw (take_more bytes i 0 lt, more) (simp append_assoc)

pub length_pairs : (bytes : List ℕ) → length (pairs bytes) ≡ 2 * length bytes
unfolding pairs
length_pairs [] = refl
length_pairs (byte ∷ bytes) = omega (arith, length_pairs bytes)
