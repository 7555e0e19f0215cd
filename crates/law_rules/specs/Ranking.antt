-- Laws: ranks by boosts settle, and chains of waiting end, where some height falls along each link.
use Rattle.std.specs.Prelude.{◌≡◌, ◌≢◌, ℕ, suc, ◌<◌, ◌≤◌, Option, Some}
use Rattle.evm_model.specs.Boosts.{rank_after, IsSettledRank, walk, EndsWithin, HasHeight}

-- as many rounds as there are heights end in ranks that another round leaves
abbrev pub RoundsSettle : Type 0
RoundsSettle = (boosts : ℕ → Option ℕ) (own : ℕ → ℕ) (count limit : ℕ) → HasHeight boosts limit → IsSettledRank boosts own count (rank_after boosts own count limit)

-- and no others are left so
abbrev pub SettledIsOne : Type 0
SettledIsOne = (boosts : ℕ → Option ℕ) (own : ℕ → ℕ) (count limit : ℕ) (rank : ℕ → ℕ) → HasHeight boosts limit → IsSettledRank boosts own count rank → (t : ℕ) → t < count → rank t ≡ rank_after boosts own count limit t

-- a task ranks no lower than each that boosts it
abbrev pub RoundsBoost : Type 0
RoundsBoost = (boosts : ℕ → Option ℕ) (own : ℕ → ℕ) (count limit u t : ℕ) → HasHeight boosts limit → u < count → t < count → boosts u ≡ Some t
    → rank_after boosts own count limit u ≤ rank_after boosts own count limit t

-- nor lower than its own rank
abbrev pub RoundsKeepOwn : Type 0
RoundsKeepOwn = (boosts : ℕ → Option ℕ) (own : ℕ → ℕ) (count rounds t : ℕ) → own t ≤ rank_after boosts own count rounds t

-- no walk has more links than there are heights, and none returns to its start
abbrev pub WalksEnd : Type 0
WalksEnd = (boosts : ℕ → Option ℕ) (limit : ℕ) → HasHeight boosts limit → EndsWithin boosts (suc limit)

abbrev pub WalksNeverReturn : Type 0
WalksNeverReturn = (boosts : ℕ → Option ℕ) (limit links t : ℕ) → HasHeight boosts limit → walk boosts (suc links) t ≢ Some t
