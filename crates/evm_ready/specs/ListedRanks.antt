-- A list of ranks, by the numbers of the tasks. Of two tasks the one that goes first.
use Rattle.std.specs.Prelude.{ℕ, List, Option, Some, None, Bool, true, false, nat_lt, if◌then◌else◌, slice_get}

abbrev pub rank_or_0 : Option ℕ → ℕ
rank_or_0 None = 0
rank_or_0 (Some rank) = rank

-- the rank of task t in the list
abbrev pub listed_rank : List ℕ → ℕ → ℕ
listed_rank ranks t = rank_or_0 (slice_get ranks t)

-- a task of the first rank and stamp goes before one of the others
abbrev pub is_before : ℕ → ℕ → ℕ → ℕ → Bool
is_before rank stamp other_rank other_stamp =
    if nat_lt other_rank rank then true else (if nat_lt rank other_rank then false else nat_lt stamp other_stamp)
