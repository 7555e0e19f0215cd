-- The laws of reading and writing.
use Rattle.std.proofs.Common.{ℕ, zero, suc, ◌/◌, ◌%◌, ◌^◌, ◌<◌, [], ◌∷◌, refl, ap, ◌∙◌, arith, ◌≤◌, replicate, sym, append_assoc, add-one, inl, inr, ◌≡◌, List, ◌++◌}
use Rattle.std.proofs.lemmas.List.{length-append, replicate_more}
use Rattle.std.proofs.Math.Nat.{pow-suc}
use Rattle.std.proofs.lemmas.Nat.{div_below}
use Rattle.std.proofs.lemmas.Bool.{cases_lt, le-ltb}
use Rattle.evm_text.specs.Written.{numeral, hexadecimal_padded, character}
use Rattle.evm_text.specs.Reading.{number_at, pairs_at, after_word}
use Rattle.evm_text.specs.Laws.{ReadsDecimals, ReadsHexadecimals, ReadsPairs, ReadsWords, PadsToCount, DividesDecimals, DividesHexadecimals, PadsWithZeros}
use Rattle.evm_text.proofs.Numerals.{IsBase, Fits, Fits_from_power, numeral-divides}
use Rattle.evm_text.proofs.Numbers.{number_at-takes, number_at-again}
use Rattle.evm_text.proofs.Steps.{numeral_one}
use Rattle.evm_text.proofs.Pairs.{pairs_at-takes, pairs_at-again}
use Rattle.evm_text.proofs.Words.{after_word-takes, after_word-again}

ten : IsBase 10
ten = record { low = omega arith; high = omega arith }

sixteen : IsBase 16
sixteen = record { low = omega arith; high = omega arith }

decimal_fits : (n : ℕ) → n < 2 ^ 64 → Fits 10 19 n
decimal_fits n below = Fits_from_power 10 19 n (omega arith) (omega arith)

hexadecimal_fits : (n : ℕ) → n < 2 ^ 64 → Fits 16 15 n
hexadecimal_fits n below = Fits_from_power 16 15 n (omega arith) (omega arith)

pub reads_decimals : ReadsDecimals
reads_decimals n rest bytes = (
  λ read. let t = number_at-takes 10 19 n bytes rest ten decimal_fits read in (record { whole = t.whole; apart = t.ends }, t.below),
  λ s. ap (number_at 10) s.0.whole ∙ number_at-again 10 19 n rest ten (decimal_fits n s.1) s.1 s.0.apart,
)

pub reads_hexadecimals : ReadsHexadecimals
reads_hexadecimals n rest bytes = (
  λ read. let t = number_at-takes 16 15 n bytes rest sixteen hexadecimal_fits read in (record { whole = t.whole; apart = t.ends }, t.below),
  λ s. ap (number_at 16) s.0.whole ∙ number_at-again 16 15 n rest sixteen (hexadecimal_fits n s.1) s.1 s.0.apart,
)

pub reads_pairs : ReadsPairs
reads_pairs block rest bytes = (pairs_at-takes block rest bytes, λ s. ap pairs_at s.0.whole ∙ pairs_at-again block rest s.1 s.0.apart)

pub reads_words : ReadsWords
reads_words word rest bytes = (after_word-takes word rest bytes, λ e. ap (after_word word) e ∙ after_word-again word rest)

pub pads_to_count : PadsToCount
unfolding hexadecimal_padded
pads_to_count zero n = refl
pads_to_count (suc count) n = omega (arith, length-append (hexadecimal_padded count (n / 16)) (character (n % 16) ∷ []), pads_to_count count (n / 16))

pub divides_decimals : DividesDecimals
divides_decimals n below = numeral-divides 10 18 n (decimal_fits n below)

pub divides_hexadecimals : DividesHexadecimals
divides_hexadecimals n below = numeral-divides 16 14 n (hexadecimal_fits n below)

-- ---- zeros in front

padded_step : (count n : ℕ) → hexadecimal_padded (suc count) n ≡ hexadecimal_padded count (n / 16) ++ character (n % 16) ∷ []
unfolding hexadecimal_padded
padded_step count n = refl

padded_zeros : (count : ℕ) → hexadecimal_padded count 0 ≡ replicate count 48
unfolding hexadecimal_padded
padded_zeros zero = refl
padded_zeros (suc count) = ap (λ (text : List ℕ). text ++ 48 ∷ []) (padded_zeros count) ∙ replicate_more count 48 ∙ ap (λ (k : ℕ). replicate k 48) (add-one count)

padded_digit : (count divisions n : ℕ) → n < 16 → hexadecimal_padded (suc count) n ≡ replicate count 48 ++ numeral 16 divisions n
padded_digit count divisions n small =
    let one = numeral_one 16 divisions n small in
    let none : n / 16 ≡ 0 = omega arith in
    let same : n % 16 ≡ n = omega arith in
    let zeros = padded_zeros count in
    padded_step count n ∙ rw (none, same, zeros, one) refl

numeral_step : (divisions n : ℕ) → 16 ≤ n → numeral 16 (suc divisions) n ≡ numeral 16 divisions (n / 16) ++ character (n % 16) ∷ []
unfolding numeral
numeral_step divisions n large = let e = le-ltb n 16 large in rw e refl

padded_numeral : (count divisions n : ℕ) → n < 16 ^ suc count → Fits 16 divisions n → (zeros : ℕ) × (hexadecimal_padded (suc count) n ≡ replicate zeros 48 ++ numeral 16 divisions n)
padded_numeral zero divisions n below fits = (0, padded_digit 0 divisions n below)
padded_numeral (suc count) zero n below fits = (suc count, padded_digit (suc count) 0 n fits)
padded_numeral (suc count) (suc divisions) n below fits =
    elim (cases_lt n 16) [
      | inl small ↦ (suc count, padded_digit (suc count) (suc divisions) n small)
      | inr large ↦
          let front = padded_numeral count divisions (n / 16) (div_below n 16 (16 ^ suc count) (omega arith) (omega (arith, pow-suc 16 (suc count)))) fits in (
            front.0,
            padded_step (suc count) n ∙ ap (λ (text : List ℕ). text ++ character (n % 16) ∷ []) front.1
                ∙ append_assoc (replicate front.0 48) (numeral 16 divisions (n / 16)) (character (n % 16) ∷ [])
                ∙ ap (λ (text : List ℕ). replicate front.0 48 ++ text) (sym (numeral_step divisions n large)),
          )
    ]

pub pads_with_zeros : PadsWithZeros
pads_with_zeros zero n some below small = absurd (omega arith)
pads_with_zeros (suc count) n some below small = padded_numeral count 15 n below (hexadecimal_fits n small)
