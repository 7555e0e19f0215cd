-- Counts that are all 0 stay so: at the start, and where one is put back to 0.
use Rattle.std.proofs.Common.{◌≡◌, ℕ, zero, suc, List, Bool, false, Option, Some, None, refl, inl, inr}
use Rattle.std.proofs.lemmas.Bool.{cases_eq}
use Rattle.std.specs.Prelude.{replicate, slice_get, option_map}
use Rattle.evm_model.proofs.Lists.{change-here, change-elsewhere}
use Rattle.evm_model.specs.Lists.{change}
use Rattle.evm_model.specs.Watch.{or_zero}
use Rattle.evm_tick.specs.Counted.{AreAtRest}

zeros : (n c : ℕ) → or_zero (slice_get (replicate n 0) c) ≡ 0
zeros zero c = refl
zeros (suc n) zero = refl
zeros (suc n) (suc c) = zeros n c

zeroed : (o : Option ℕ) → or_zero (option_map (λ _. 0) o) ≡ 0
zeroed None = refl
zeroed (Some n) = refl

pub rests-new : (n : ℕ) → AreAtRest false (replicate n 0)
rests-new n none c = zeros n c

pub rests-still : (counted : Bool) (ticks : List ℕ) (c : ℕ) → AreAtRest counted ticks → AreAtRest counted (change (λ n. 0) ticks c)
rests-still counted ticks c h none d = elim (cases_eq d c) [
  | inl same ↦ rw (same, change-here (λ n. 0) ticks c) (zeroed (slice_get ticks c))
  | inr other ↦ rw (change-elsewhere (λ n. 0) ticks c d other) (h none d)
]

pub ruleset rested = (rests-new, rests-still)
