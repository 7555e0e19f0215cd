-- What it says that one task doesn't go before another.
use Rattle.std.proofs.Common.{◌≡◌, ℕ, ◌<◌, ◌≤◌, Bool, true, false, refl, arith}
use Rattle.std.specs.Prelude.{nat_lt, if◌then◌else◌}
use Rattle.std.proofs.lemmas.Bool.Decides.{nat_tests}

-- of two tasks' ranks and stamps, where the one does not go before the other
pub leads : (r s r' s' : ℕ) → (if nat_lt r' r then true else (if nat_lt r r' then false else nat_lt s s')) ≡ false → (r ≤ r') × (r ≡ r' → s' ≤ s)
leads r s r' s' h = by (nat_lt r' r) (nat_lt r r') (nat_lt s s') refl refl refl h
  where
    by : (a b c : Bool) → nat_lt r' r ≡ a → nat_lt r r' ≡ b → nat_lt s s' ≡ c → (if a then true else (if b then false else c)) ≡ false → (r ≤ r') × (r ≡ r' → s' ≤ s)
    by true b c e f g h = cc
    by false true c e f g h = let less : r < r' = grind (arith, nat_tests) in (omega arith, λ same. omega arith)
    by false false true e f g h = cc
    by false false false e f g h = let most : r ≤ r' = grind (arith, nat_tests) in let late : s' ≤ s = grind (arith, nat_tests) in (most, λ same. late)
