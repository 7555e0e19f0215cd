-- Where nothing was counted since the start, the count of each processor is 0.
use Rattle.std.specs.Prelude.{◌≡◌, ℕ, Bool, false, List, slice_get}
use Rattle.evm_model.specs.Watch.{or_zero}

abbrev pub AreAtRest : Bool → List ℕ → Type 0
AreAtRest counted ticks = counted ≡ false → (c : ℕ) → or_zero (slice_get ticks c) ≡ 0
