-- The rule of the bells: what holds between any two atomic steps.
use Rattle.std.specs.Prelude.{◌≡◌, ℕ, ◌+◌, ◌^◌, ◌/◌, ◌-◌, ◌<◌, ◌≤◌, List, [], ◌∷◌, ◌++◌, ◌==◌, if◌then◌else◌, length, slice_index, bit_and}
use Rattle.std.specs.Int.{bit_at}
use Rattle.atomic_table.specs.Table.{Step, Me}
use Rattle.evm_lines.specs.declared.TheConstants.{LINES}
use Rattle.evm_bells.specs.declared.bells.TheConstants.{RINGER_WEIGHT}
use Rattle.evm_bells.specs.declared.counts.TheConstants.{PROCESSOR_LIMIT}
use Rattle.evm_bells.specs.declared.rule.SeatView.{SeatView}
use Rattle.evm_bells.specs.Batches.{Batch, count}

-- what a seat of this weight knows that has rung these fresh, has rung these that stood already, and has taken these
abbrev pub view_of : ℕ → List Batch → List Batch → List Batch → SeatView
view_of weight fresh stood taken = record { weight = weight; fresh = fresh; stood = stood; taken = taken }

-- f of each view, added up
abbrev pub total : (SeatView → ℕ) → List SeatView → ℕ
total f [] = 0
total f (v ∷ views) = f v + total f views

-- a view of no weight has rung and taken nothing
abbrev pub WeighsNothing : SeatView → Type 0
WeighsNothing v = v.weight ≡ 0 → (v.fresh ≡ []) × (v.stood ≡ []) × (v.taken ≡ [])

abbrev pub WeighNothing : List SeatView → Type 0
WeighNothing [] = Unit {0}
WeighNothing (v ∷ views) = WeighsNothing v × WeighNothing views

-- the weight of all seats: the first ringer's, and 1 for the taker of each processor
abbrev pub whole_weight : ℕ → ℕ
whole_weight cpus = RINGER_WEIGHT + cpus

-- each line of each processor was rung fresh as often as it was taken, and once more if it stands in its word;
-- one that a ring found standing was rung fresh before
pub record AreAccounted (cpus : ℕ) (words : List ℕ) (views : List SeatView) : Type 0 where
  pub sized : length words ≡ cpus
  pub narrow : (c : ℕ) → slice_index words c < 2 ^ LINES
  pub weighs : total (λ v. v.weight) views ≡ whole_weight cpus
  pub balance : (c l : ℕ) → total (λ v. count v.fresh c l) views ≡ total (λ v. count v.taken c l) views + bit_at (slice_index words c) l
  pub heard : (c l : ℕ) → 0 < total (λ v. count v.stood c l) views → 0 < total (λ v. count v.fresh c l) views
  pub idle : WeighNothing views

-- the first seat has all the weight
abbrev pub first_view : ℕ → SeatView
first_view cpus = view_of (whole_weight cpus) [] [] []

-- ---- what a step tells its seat

-- a ring of the line of this bit, where the word was n: fresh if the bit was off, else the line stood
abbrev pub rung : ℕ → ℕ → ℕ → SeatView → SeatView
rung c bit n v =
    if bit_and n bit == 0 then view_of v.weight (v.fresh ++ (c, bit) ∷ []) v.stood v.taken else view_of v.weight v.fresh (v.stood ++ (c, bit) ∷ []) v.taken

abbrev pub Rings : Step (Unit {0}) → Me (Unit {0}) SeatView → ℕ → Me (Unit {0}) SeatView → Type 0
Rings s v n w = w ≡ (rung s.word s.first n v.0, v.1)

-- a take of a word that was n
abbrev pub took : ℕ → ℕ → SeatView → SeatView
took c n v = view_of v.weight v.fresh v.stood (v.taken ++ (c, n) ∷ [])

abbrev pub Takes : Step (Unit {0}) → Me (Unit {0}) SeatView → ℕ → Me (Unit {0}) SeatView → Type 0
Takes s v n w = (w ≡ (took s.word n v.0, v.1)) × (n < 2 ^ LINES)

-- no seat weighs more than all of them
abbrev pub Weighs : Step (Unit {0}) → Me (Unit {0}) SeatView → ℕ → Me (Unit {0}) SeatView → Type 0
Weighs s v n w = (w ≡ v) × (v.0.weight ≤ whole_weight PROCESSOR_LIMIT)

-- ---- how seats are split and joined

-- half of the weight is given away, rounded down
abbrev pub half_kept : SeatView → SeatView
half_kept v = view_of (v.weight - v.weight / 2) v.fresh v.stood v.taken

abbrev pub half_given : SeatView → SeatView
half_given v = view_of (v.weight / 2) [] [] []

-- the weight of a taker is given away
abbrev pub one_kept : SeatView → SeatView
one_kept v = view_of (v.weight - 1) v.fresh v.stood v.taken

abbrev pub one_given : SeatView → SeatView
one_given v = view_of 1 [] [] []

-- one seat has the sums, with what the other has taken first, and the other has nothing
abbrev pub joined : SeatView → SeatView → SeatView
joined v w = view_of (v.weight + w.weight) (v.fresh ++ w.fresh) (v.stood ++ w.stood) (w.taken ++ v.taken)

abbrev pub spent : SeatView
spent = view_of 0 [] [] []
