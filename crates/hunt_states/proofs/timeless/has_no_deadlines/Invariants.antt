use Rattle.std.proofs.Common.{◌≡◌, ◌<◌, ℕ}
use Rattle.evm_model.specs.Deadlines.{deadline}
use Rattle.hunt_states.proofs.timeless.has_no_deadlines.Given as goal

abbrev pub invariant-tasks : goal.invariant-tasks
invariant-tasks g l = (j : ℕ) → j < l.t → deadline l.machine.board.parts.tasks j ≡ 0
