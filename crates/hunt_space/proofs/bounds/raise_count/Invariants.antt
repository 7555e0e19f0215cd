use Rattle.std.proofs.Common.{◌≡◌, ◌≤◌}
use Rattle.evm_core.specs.evm_history.Runs.{runs}
use Rattle.hunt_space.proofs.Raising.{first_raise}
use Rattle.hunt_space.proofs.bounds.raise_count.Given as goal

abbrev pub invariant-lines : goal.invariant-lines
invariant-lines l = (l.count ≡ first_raise (runs l.machine.journal) l.i) × (l.count ≤ l.i)
