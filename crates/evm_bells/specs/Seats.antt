-- What contracts see of the bells and of their seats.
use Rattle.std.specs.Prelude.{◌≡◌, ℕ, ◌+◌, ◌<◌, ◌≤◌, List, [], ◌∷◌, ◌++◌, slice_index}
use Rattle.std.specs.Int.{bit_at}
use Rattle.atomic_table.specs.Seated.{TableId}
use Rattle.atomic_table.specs.Table.{Me}
use Rattle.evm_bells.specs.declared.counts.TheConstants.{PROCESSOR_LIMIT}
use Rattle.evm_bells.specs.declared.rule.SeatView.{SeatView}
use Rattle.evm_bells.specs.Batches.{Batch, count, HaveCounted}
use Rattle.evm_bells.specs.Rule.{whole_weight}

-- how many processors there are, and which bells these are
pub record BellsValue : Type 0 where
  pub cpus : ℕ
  pub id : TableId

-- its bells, its weight, what it has rung fresh, and what stood already when it was rung
pub record RingerValue : Type 0 where
  pub bells : TableId
  pub weight : ℕ
  pub fresh : List Batch
  pub stood : List Batch

-- its bells, and what it has taken
pub record TakerValue : Type 0 where
  pub bells : TableId
  pub taken : List Batch

-- a ringer of these bells and this weight that has rung nothing
abbrev pub IsNewRinger : TableId → ℕ → RingerValue → Type 0
IsNewRinger bells weight r = (r.bells ≡ bells) × (r.weight ≡ weight) × (r.fresh ≡ []) × (r.stood ≡ [])

-- a taker of these bells that has taken nothing
abbrev pub IsNewTaker : TableId → TakerValue → Type 0
IsNewTaker bells t = (t.bells ≡ bells) × (t.taken ≡ [])

-- what all of them have taken
abbrev pub taken_by : List TakerValue → List Batch
taken_by [] = []
taken_by (t ∷ takers) = t.taken ++ taken_by takers

-- each line that was rung fresh was taken or is left
abbrev pub AddsUp : List Batch → List Batch → List ℕ → Type 0
AddsUp fresh taken left = (c l : ℕ) → count fresh c l ≡ count taken c l + bit_at (slice_index left c) l

-- each line that a ring found standing was taken or is left
abbrev pub AreAnswered : List Batch → List Batch → List ℕ → Type 0
AreAnswered stood taken left = (c l : ℕ) → 0 < count stood c l → 0 < count taken c l + bit_at (slice_index left c) l

-- ---- invariants

-- a table of a word for each processor
pub record AreBells (cpus key : ℕ) (id : TableId) : Type 0 where
  pub keyed : key ≡ cpus
  pub worded : id.words ≡ cpus
  pub slotless : id.slots ≡ 0
  pub any : 0 < cpus
  pub limit : cpus ≤ PROCESSOR_LIMIT

-- a ringer has taken nothing, and its counters have counted what it has rung
pub record IsRinger (me : Me (Unit {0}) SeatView) (weight : ℕ) (rows : List (List ℕ)) : Type 0 where
  pub weighs : me.0.weight ≡ weight
  pub untaken : me.0.taken ≡ []
  pub empty : me.1 ≡ []
  pub counted : HaveCounted rows me.0.fresh
  pub any : 0 < weight
  pub limit : weight ≤ whole_weight PROCESSOR_LIMIT

-- a taker has rung nothing, and its counters have counted what it has taken
pub record IsTaker (me : Me (Unit {0}) SeatView) (rows : List (List ℕ)) : Type 0 where
  pub weighs : me.0.weight ≡ 1
  pub unrung : (me.0.fresh ≡ []) × (me.0.stood ≡ [])
  pub empty : me.1 ≡ []
  pub counted : HaveCounted rows me.0.taken
