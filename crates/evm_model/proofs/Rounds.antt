-- The rounds reach ranks at which another changes nothing, and these are the only such ranks.
use Rattle.std.proofs.Common.{◌≡◌, ℕ, zero, suc, ◌+◌, ◌<◌, ◌≤◌, Option, Some, sym, ◌∙◌, arith}
use Rattle.evm_model.specs.Boosts.{rank_after, IsSettledRank, HasHeight}
use Rattle.evm_model.proofs.Greatest.{greatest-first, greatest-booster, greatest-same, greatest-none}

-- ---- a rank never falls below a task's own
pub rank_after-own : (boosts : ℕ → Option ℕ) (own : ℕ → ℕ) (count rounds t : ℕ) → own t ≤ rank_after boosts own count rounds t
unfolding rank_after
rank_after-own boosts own count zero t = omega arith
rank_after-own boosts own count (suc r) t = greatest-first boosts (rank_after boosts own count r) t (own t) count

-- ---- the fixpoint
-- a task of this height has its rank after as many rounds as are left to the limit
pub rank_after-stays : (boosts : ℕ → Option ℕ) (own : ℕ → ℕ) (count limit r t : ℕ) (h : HasHeight boosts limit) → limit ≤ r + h.height t → rank_after boosts own count (suc r) t ≡ rank_after boosts own count r t
unfolding rank_after
rank_after-stays boosts own count limit zero t h enough =
    greatest-none boosts own t (own t) count (λ u e. let fall = h.falls u t e in let low = h.low u in omega arith)
rank_after-stays boosts own count limit (suc r) t h enough =
    greatest-same boosts (rank_after boosts own count (suc r)) (rank_after boosts own count r) t (own t) count
    (λ u less e. let fall = h.falls u t e in rank_after-stays boosts own count limit r u h (omega arith))

-- so after as many rounds as the limit another changes nothing
pub rounds_settle : (boosts : ℕ → Option ℕ) (own : ℕ → ℕ) (count limit : ℕ) → HasHeight boosts limit → IsSettledRank boosts own count (rank_after boosts own count limit)
unfolding rank_after
rounds_settle boosts own count limit h t less = sym (rank_after-stays boosts own count limit limit t h (omega arith))

-- ---- it is the only one
-- ranks at which a round changes nothing are those of the rounds, from a task's height on
settled-is : (boosts : ℕ → Option ℕ) (own : ℕ → ℕ) (count limit : ℕ) (rank : ℕ → ℕ) (h : HasHeight boosts limit) → IsSettledRank boosts own count rank
    → (r t : ℕ) → t < count → limit < r + h.height t → rank t ≡ rank_after boosts own count r t
unfolding rank_after
settled-is boosts own count limit rank h s zero t less enough = let low = h.low t in absurd (omega arith)
settled-is boosts own count limit rank h s (suc r) t less enough =
    s t less
    ∙ greatest-same boosts rank (rank_after boosts own count r) t (own t) count
    (λ u below e. let fall = h.falls u t e in settled-is boosts own count limit rank h s r u below (omega arith))

pub settled_is_one : (boosts : ℕ → Option ℕ) (own : ℕ → ℕ) (count limit : ℕ) (rank : ℕ → ℕ) (h : HasHeight boosts limit) → IsSettledRank boosts own count rank → (t : ℕ) → t < count → rank t ≡ rank_after boosts own count limit t
settled_is_one boosts own count limit rank h s t less =
    settled-is boosts own count limit rank h s (suc limit) t less (omega arith)
    ∙ rank_after-stays boosts own count limit limit t h (omega arith)

-- an owner's rank is at least that of each task that it keeps waiting
pub rounds_boost : (boosts : ℕ → Option ℕ) (own : ℕ → ℕ) (count limit u t : ℕ) → HasHeight boosts limit → u < count → t < count → boosts u ≡ Some t
    → rank_after boosts own count limit u ≤ rank_after boosts own count limit t
rounds_boost boosts own count limit u t h below less e =
    rw (rounds_settle boosts own count limit h t less) (greatest-booster boosts (rank_after boosts own count limit) t (own t) count u below e)
