use Rattle.std.proofs.Common.{◌≡◌, ℕ, ◌<◌, Some}
use Rattle.std.specs.Prelude.{slice_get}
use Rattle.hunt_search.proofs.walking.is_among.Given as goal

abbrev pub invariant-cpus : goal.invariant-cpus
invariant-cpus l = (i : ℕ) → i < l.c-index → slice_get l.cpus i ≡ Some l.cpu → ⊥
