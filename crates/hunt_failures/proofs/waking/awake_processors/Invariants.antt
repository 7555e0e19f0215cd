use Rattle.std.proofs.Common.{◌≡◌, ℕ, ◌<◌, ◌≤◌, Some}
use Rattle.std.specs.Prelude.{slice_get}
use Rattle.arrayvec.specs.ArrayVec.{array_vec_len}
use Rattle.hunt_failures.specs.Awake.{IsAwake}
use Rattle.hunt_failures.proofs.waking.awake_processors.Given as goal

abbrev pub invariant-cpus : goal.invariant-cpus
invariant-cpus l = (array_vec_len l.awake ≤ l.c) × ((d : ℕ) → d < l.c → IsAwake d l.machine → (i : ℕ) × (slice_get l.awake.items i ≡ Some d))
