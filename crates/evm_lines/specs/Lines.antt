-- A set of interrupt lines is the list of their numbers, in rising order.
use Rattle.std.specs.Prelude.{◌≡◌, ℕ, ◌^◌, Bool, true, false, ◌||◌, ◌&&◌, not, nat_eq, List, [], ◌∷◌, filter, sum_by, Option, Some, None}
use Rattle.std.specs.List.{range_with_len}
use Rattle.std.specs.Int.{bit_at}
use Rattle.evm_lines.specs.declared.TheConstants.{LINES}

-- the numbers of all lines, rising
unfoldable pub all_lines : List ℕ
all_lines = range_with_len 0 LINES

-- whether a line is in a set
abbrev pub has_line : List ℕ → ℕ → Bool
has_line [] line = false
has_line (first ∷ rest) line = nat_eq first line || has_line rest line

-- whether a set has no line
abbrev pub has_none : List ℕ → Bool
has_none [] = true
has_none (first ∷ rest) = false

-- the least line of a set
abbrev pub least_line : List ℕ → Option ℕ
least_line [] = None
least_line (first ∷ rest) = Some first

-- the lines that are in the set or are this one
unfoldable pub with_line : List ℕ → ℕ → List ℕ
with_line set line = filter (λ l. has_line set l || nat_eq l line) all_lines

-- the lines that are in the set and aren't this one
unfoldable pub without_line : List ℕ → ℕ → List ℕ
without_line set line = filter (λ l. has_line set l && not (nat_eq l line)) all_lines

-- the number in which bit l is one exactly for the lines l of the set
unfoldable pub word_of : List ℕ → ℕ
word_of set = sum_by (λ l. 2 ^ l) set

-- the lines whose bit is one
unfoldable pub lines_of : ℕ → List ℕ
lines_of word = filter (λ l. nat_eq (bit_at word l) 1) all_lines

-- a list that is a set of lines: its members are all the lines among them, in rising order
pub record IsLineSet (set : List ℕ) : Type 0 where
  pub members : set ≡ filter (has_line set) all_lines
