-- A text's first line ends at its first newline.
use Rattle.std.proofs.Common.{◌≡◌, ℕ, zero, suc, ◌+◌, ◌<◌, List, [], ◌∷◌, length, get_or, take, drop, refl, arith, add-one, ◌-◌, length-drop}
use Rattle.std.proofs.lemmas.Bool.{ne_eqb, eq-eqb}
use Rattle.std.proofs.lemmas.List.{take_all}
use Rattle.memchr.specs.Find.{Nowhere, Passes, is_byte}
use Rattle.evm_text.specs.Lines.{Ended, Open, text_of, text_lines, CutsLine}

-- no byte of these is a newline
abbrev pub NoNewline : List ℕ → ℕ → Type 0
NoNewline bytes i = (k : ℕ) → k < i → get_or bytes k 0 ≡ 10 → ⊥

-- what the search says of them
pub no_newline-found : (bytes : List ℕ) (i : ℕ) → Nowhere (Passes (is_byte 10) bytes) 0 i → NoNewline bytes i
no_newline-found bytes i nowhere k below is = nowhere k (omega arith) below (eq-eqb (get_or bytes k 0) 10 is)

no_newline-tail : (b : ℕ) (bytes : List ℕ) (i : ℕ) → NoNewline (b ∷ bytes) (suc i) → NoNewline bytes i
no_newline-tail b bytes i h k lt e = h (suc k) (omega arith) e

text_of-at : (bytes : List ℕ) (i : ℕ) → i < length bytes → get_or bytes i 0 ≡ 10 → NoNewline bytes i → text_of bytes ≡ Ended (take i bytes) (text_of (drop (suc i) bytes))
unfolding text_of
text_of-at [] i lt e before = absurd (omega arith)
text_of-at (b ∷ bytes) zero lt e before = rw e refl
text_of-at (b ∷ bytes) (suc i) lt e before =
    let differs : (b ≡ 10 → ⊥) = before 0 (omega arith) in
    let below : i < length bytes = omega arith in
    rw (ne_eqb b 10 differs, text_of-at bytes i below e (no_newline-tail b bytes i before)) refl

-- a text with no newline is one line, which none ends
pub text_of-none : (bytes : List ℕ) → NoNewline bytes (length bytes) → text_of bytes ≡ Open bytes
unfolding text_of
text_of-none [] before = refl
text_of-none (b ∷ bytes) before =
    let differs : (b ≡ 10 → ⊥) = before 0 (omega arith) in
    rw (ne_eqb b 10 differs, text_of-none bytes (no_newline-tail b bytes (length bytes) before)) refl

-- a text with a newline has a line before it, and the text behind it
pub text_of-cut : (bytes : List ℕ) (n : ℕ) → n < length bytes → get_or bytes n 0 ≡ 10 → NoNewline bytes n → text_of bytes ≡ Ended (take n bytes) (text_of (take (length bytes - (n + 1)) (drop (n + 1) bytes)))
text_of-cut bytes n lt e before =
    let all : take (length bytes - (n + 1)) (drop (n + 1) bytes) ≡ drop (suc n) bytes = rw add-one (take_all (length bytes - suc n) (drop (suc n) bytes) (omega (arith, length-drop (suc n) bytes))) in
    rw all (text_of-at bytes n lt e before)

-- ---- a first line, ended or not

pub CutsLine-ended : (bytes line rest : List ℕ) → text_of bytes ≡ Ended line (text_of rest) → length rest < length bytes → CutsLine bytes line rest
unfolding text_lines
CutsLine-ended bytes line rest e shorter = record { lines = rw e refl; shorter = shorter }

pub CutsLine-open : (bytes rest : List ℕ) → (bytes ≡ [] → ⊥) → text_of bytes ≡ Open bytes → length rest ≡ 0 → CutsLine bytes bytes rest
unfolding text_lines
CutsLine-open [] rest some e none = absurd (some refl)
CutsLine-open (b ∷ bytes) [] some e none = let nothing : text_of [] ≡ Open [] = unfold text_of in refl in record { lines = rw (e, nothing) refl; shorter = omega arith }
CutsLine-open (b ∷ bytes) (c ∷ rest) some e none = absurd (omega (arith, none))
