use Rattle.std.proofs.Common.{◌≡◌, ◌<◌, ℕ}
use Rattle.std.specs.Prelude.{nat_lt}
use Rattle.evm_model.specs.Ranks.{stamp}
use Rattle.hunt_states.proofs.alike.same_order_of.Given as goal

abbrev pub invariant-tasks : goal.invariant-tasks
invariant-tasks g l =
    (v : ℕ) → v < l.u → nat_lt (stamp l.a.board.parts.tasks l.t) (stamp l.a.board.parts.tasks v) ≡ nat_lt (stamp l.b.board.parts.tasks l.t) (stamp l.b.board.parts.tasks v)
