-- Numbers as they stand in rows.
use Rattle.std.proofs.Common.{◌≡◌, ◌∙◌, ℕ, ◌/◌, ◌%◌, ◌^◌, ◌<◌, ◌≤◌, List, [], ◌∷◌, ◌++◌, Ok, Err, length, refl, ap, append_assoc, arith}
use Rattle.std.proofs.lemmas.Bool.{le-ltb}
use Rattle.std.proofs.lemmas.List.{length-append}
use Rattle.std.specs.Prelude.{Result, String}
use Rattle.std.specs.declared.alloc.Global.{Global}
use Rattle.evm_text.proofs.Appending.{appends_front, appends_more}
use Rattle.evm_text.proofs.Numerals.{Fits_from_power, numeral-divides}
use Rattle.evm_text.proofs.Steps.{numeral_one}
use Rattle.evm_text.specs.Appending.{Appends}
use Rattle.evm_text.specs.Written.{character, decimal}

-- from ten on a number is what a tenth of it is, and one digit more
pub decimal_more : (n : ℕ) → n < 2 ^ 64 → 10 ≤ n → decimal n ≡ decimal (n / 10) ++ character (n % 10) ∷ []
decimal_more n fits large =
    let e = le-ltb n 10 large in
    numeral-divides 10 18 n (Fits_from_power 10 19 n (omega arith) (omega (arith, fits))) ∙ rw e refl

-- a number of two digits
pub two_digits : (n : ℕ) → n < 2 ^ 64 → 10 ≤ n → n < 100 → decimal n ≡ character (n / 10) ∷ character (n % 10) ∷ []
two_digits n fits large small = decimal_more n fits large ∙ ap (λ front. front ++ character (n % 10) ∷ []) (numeral_one 10 19 (n / 10) (omega (arith, small)))

-- from a hundred on a number is what a hundredth of it is, and two digits more
pub two_more : (n : ℕ) → n < 2 ^ 64 → 100 ≤ n → decimal n ≡ decimal (n / 100) ++ character (n % 100 / 10) ∷ character (n % 100 % 10) ∷ []
two_more n fits large =
    let front = decimal_more (n / 10) (omega (arith, fits)) (omega (arith, large)) in
    let less : n / 10 / 10 ≡ n / 100 = omega arith in
    let tens : n / 10 % 10 ≡ n % 100 / 10 = omega arith in
    let ones : n % 10 ≡ n % 100 % 10 = omega arith in
    decimal_more n fits (omega (arith, large)) ∙ ap (λ text. text ++ character (n % 10) ∷ []) front
    ∙ append_assoc (decimal (n / 10 / 10)) (character (n / 10 % 10) ∷ []) (character (n % 10) ∷ []) ∙ rw (less, tens, ones) refl

-- two texts, of which the second may be refused
pub longer : (first second whole : List ℕ) (old mid new : String Global) (result : Result (Unit {0}) ℕ) → Appends first old mid (Ok tt) → Appends second mid new result → whole ≡ first ++ second → Appends whole old new result
longer first second whole old mid new (Ok done) a b all = appends_more first second whole old mid new a b all
longer first second whole old mid new (Err asked) a b all =
    let size = ap length all ∙ length-append first second in appends_front first second whole old mid new asked a b (omega (arith, size))

-- .. and of which the first is
pub shorter : (first second whole : List ℕ) (old mid : String Global) (asked : ℕ) → Appends first old mid (Err asked) → whole ≡ first ++ second → Appends whole old mid (Err asked)
shorter first second whole old mid asked a all =
    let size = ap length all ∙ length-append first second in
    record { ok = tt; len = tt; full = omega (arith, a.full, size); refused = omega (arith, a.refused, size); capacity = a.capacity }
