use Rattle.std.proofs.Common.{◌≡◌, ℕ, ◌<◌, length, Some}
use Rattle.std.specs.Prelude.{slice_get}
use Rattle.hunt_failures.specs.Failures.{live_owner}
use Rattle.hunt_failures.proofs.leaving.owners_of.Given as goal

-- the mutexes so far have their owners
abbrev pub invariant-mutexes : goal.invariant-mutexes
invariant-mutexes l = record { count : length l.owners.items ≡ l.m; owners : (k : ℕ) → k < l.m → slice_get l.owners.items k ≡ Some (live_owner k l.machine) }
