-- Whether an object is there, by its number; and one signal.
use Rattle.std.proofs.Common.{◌≡◌, ℕ, zero, suc, ◌<◌, ◌≤◌, List, [], ◌∷◌, true, false, length, refl, arith}
use Rattle.std.specs.Prelude.{is_none, slice_get}
use Rattle.evm_model.proofs.Lists.{slice_get-within}
use Rattle.evm_model.specs.Events.{signal_first, signal_rounds}
use Rattle.evm_model.specs.State.{Parts}

pub object-there : (xs : List ℕ) (n : ℕ) → n < length xs → is_none (slice_get xs n) ≡ false
object-there xs n h = let x = slice_get-within xs n h in rw x.1 refl

pub object-absent : (xs : List ℕ) (n : ℕ) → length xs ≤ n → is_none (slice_get xs n) ≡ true
object-absent [] n h = refl
object-absent (x ∷ xs) zero h = absurd (omega arith)
object-absent (x ∷ xs) (suc n) h = object-absent xs n (omega (arith, h))

-- one signal is the first
pub signal-once : (e : ℕ) (k : Parts) → signal_rounds e 1 k ≡ signal_first e k
unfolding signal_rounds
signal-once e k = refl

pub ruleset objects = (object-there, object-absent)
