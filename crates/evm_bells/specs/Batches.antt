-- Lines that were rung or taken, and how often.
use Rattle.std.specs.Prelude.{◌≡◌, ℕ, ◌+◌, ◌%◌, ◌^◌, ◌<◌, List, [], ◌∷◌, ◌==◌, if◌then◌else◌, slice_index, slice_index_or}
use Rattle.std.specs.Int.{bit_at}
use Rattle.evm_lines.specs.declared.TheConstants.{LINES}
use Rattle.evm_bells.specs.declared.counts.TheConstants.{PROCESSOR_LIMIT}

-- a processor, and a word with the bits of the lines that were rung or taken there in one step
abbrev pub Batch : Type 0
Batch = ℕ × ℕ

-- how often line l of processor c is among them
abbrev pub count : List Batch → ℕ → ℕ → ℕ
count [] c l = 0
count (b ∷ batches) c l = (if b.0 == c then bit_at b.1 l else 0) + count batches c l

-- the counter of line l of processor c, in a row for each processor
abbrev pub counter : List (List ℕ) → ℕ → ℕ → ℕ
counter rows c l = slice_index (slice_index_or rows c []) l

-- these counters have counted these batches, modulo 2 ^ 64
abbrev pub HaveCounted : List (List ℕ) → List Batch → Type 0
HaveCounted rows batches = (c l : ℕ) → c < PROCESSOR_LIMIT → l < LINES → counter rows c l ≡ count batches c l % 2 ^ 64
