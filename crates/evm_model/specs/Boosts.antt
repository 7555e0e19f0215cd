-- Ranks by boosts: who boosts whom, each task's own rank, and how many tasks there are.
use Rattle.std.specs.Prelude.{◌≡◌, ℕ, zero, suc, ◌+◌, ◌<◌, ◌≤◌, Option, Some, None, Bool, true, false, ◌==◌, nat_le, if◌then◌else◌}

-- the greater of two
abbrev pub greater : ℕ → ℕ → ℕ
greater a b = if nat_le a b then b else a

abbrev pub is_number : Option ℕ → ℕ → Bool
is_number None t = false
is_number (Some u) t = u == t

-- the greatest of a first number and the ranks of those below a count that boost t
unfoldable pub greatest : (ℕ → Option ℕ) → (ℕ → ℕ) → ℕ → ℕ → ℕ → ℕ
greatest boosts rank t first zero = first
greatest boosts rank t first (suc u) =
    let so_far = greatest boosts rank t first u in if is_number (boosts u) t then greater so_far (rank u) else so_far

-- the ranks after n rounds: the first are their own, and in each round a task takes up those of its boosters
unfoldable pub rank_after : (ℕ → Option ℕ) → (ℕ → ℕ) → ℕ → ℕ → ℕ → ℕ
rank_after boosts own count zero t = own t
rank_after boosts own count (suc rounds) t = greatest boosts (rank_after boosts own count rounds) t (own t) count

-- ranks at which another round changes nothing
abbrev pub IsSettledRank : (ℕ → Option ℕ) → (ℕ → ℕ) → ℕ → (ℕ → ℕ) → Type 0
IsSettledRank boosts own count rank = (t : ℕ) → t < count → rank t ≡ greatest boosts rank t (own t) count

-- where a walk of n links leads
abbrev pub walk_on : (ℕ → Option ℕ) → Option ℕ → Option ℕ
walk_on boosts None = None
walk_on boosts (Some t) = boosts t

unfoldable pub walk : (ℕ → Option ℕ) → ℕ → ℕ → Option ℕ
walk boosts zero t = Some t
walk boosts (suc links) t = walk_on boosts (walk boosts links t)

-- no walk has n links: so none returns to its start
abbrev pub EndsWithin : (ℕ → Option ℕ) → ℕ → Type 0
EndsWithin boosts links = (t : ℕ) → walk boosts links t ≡ None

-- a height, at most a limit, that falls along each link
pub record HasHeight (boosts : ℕ → Option ℕ) (limit : ℕ) : Type 0 where
  pub height : ℕ → ℕ
  pub low : (t : ℕ) → height t ≤ limit
  pub falls : (u t : ℕ) → boosts u ≡ Some t → height t < height u

-- whether t is met on the way from a task, within n links
unfoldable pub reaches : (ℕ → Option ℕ) → ℕ → ℕ → Option ℕ → Bool
reaches boosts t links None = false
reaches boosts t zero (Some u) = u == t
reaches boosts t (suc links) (Some u) = if u == t then true else reaches boosts t links (boosts u)

-- task t boosts u too, where it boosted none
abbrev pub with_link : (ℕ → Option ℕ) → ℕ → ℕ → ℕ → Option ℕ
with_link boosts t u x = if x == t then Some u else boosts x

-- some number that falls along each link
pub record Falls (boosts : ℕ → Option ℕ) : Type 0 where
  pub height : ℕ → ℕ
  pub falls : (u t : ℕ) → boosts u ≡ Some t → height t < height u

-- how many below a count are lower than this
unfoldable pub lower_than : (ℕ → ℕ) → ℕ → ℕ → ℕ
lower_than height level zero = 0
lower_than height level (suc v) = let so_far = lower_than height level v in if nat_le level (height v) then so_far else so_far + 1
