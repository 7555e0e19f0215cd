use Rattle.std.proofs.Common.{◌≡◌, ℕ, ◌<◌, Some, true}
use Rattle.std.specs.Prelude.{slice_get}
use Rattle.hunt_failures.specs.Eves.{listed_owner}
use Rattle.hunt_failures.specs.Failures.{is_left}
use Rattle.hunt_failures.proofs.leaving.abandoned.Given as goal

-- none of the mutexes so far was left
abbrev pub invariant-mutexes : goal.invariant-mutexes
invariant-mutexes l = (k t : ℕ) → k < l.m → listed_owner (slice_get l.owners k) ≡ Some t → is_left t k l.machine ≡ true → ⊥
