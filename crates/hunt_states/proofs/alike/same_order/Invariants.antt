use Rattle.std.proofs.Common.{◌≡◌, ◌<◌, ℕ, length}
use Rattle.std.specs.Prelude.{nat_lt}
use Rattle.evm_model.specs.Ranks.{stamp}
use Rattle.hunt_states.proofs.alike.same_order.Given as goal

abbrev pub invariant-tasks : goal.invariant-tasks
invariant-tasks g l =
    (v u : ℕ) → v < l.t → u < length l.a.board.parts.tasks → nat_lt (stamp l.a.board.parts.tasks v) (stamp l.a.board.parts.tasks u) ≡ nat_lt (stamp l.b.board.parts.tasks v) (stamp l.b.board.parts.tasks u)
