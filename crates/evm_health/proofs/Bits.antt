-- Whether a bit is on, by the word of that bit alone.
use Rattle.std.proofs.Common.{◌≡◌, ℕ, zero, suc, ◌*◌, ◌^◌, ◌<◌, arith}
use Rattle.std.specs.Prelude.{◌==◌, bit_and}
use Rattle.std.specs.Int.{bit_at}
use Rattle.std.proofs.lemmas.Bool.Decides.{nat_tests}
use Rattle.std.proofs.lemmas.Nat.Bits.{and_pow, bit_at-lt}
use Rattle.std.proofs.lemmas.Nat.{pow_pos}

bit-word : (b p : ℕ) → b < 2 → 0 < p → (b * p == p) ≡ (b == 1)
bit-word zero p small positive = grind (arith, nat_tests)
bit-word (suc b) p small positive = let none : b ≡ 0 = omega (arith, small) in rw none (grind (arith, nat_tests))

pub is_on : (n k : ℕ) → (bit_and n (2 ^ k) == 2 ^ k) ≡ (bit_at n k == 1)
is_on n k = rw (and_pow n k) (bit-word (bit_at n k) (2 ^ k) (bit_at-lt n k) (pow_pos k))

-- the two bits of a mode
pub is_woss : (n : ℕ) → (bit_and n 1 == 1) ≡ (bit_at n 0 == 1)
is_woss n = is_on n 0

pub is_woli : (n : ℕ) → (bit_and n 2 == 2) ≡ (bit_at n 1 == 1)
is_woli n = is_on n 1

pub ruleset bits = (is_woss, is_woli)
