use Rattle.std.proofs.Common.{◌≡◌, false}
use Rattle.hunt_search.proofs.Branching.{IsWalkedBy}
use Rattle.evm_model.specs.Replay.{IsReplayOf}
use Rattle.evm_model.specs.State.{State}
use Rattle.hunt_schedules.specs.Beginning.{Begins}
use Rattle.hunt_schedules.specs.Branches.{KeepsBranches}
use Rattle.hunt_schedules.specs.Walks.{IsReached}
use Rattle.hunt_search.proofs.going.go_on.Given as goal

abbrev pub invariant-steps : goal.invariant-steps
invariant-steps l =
    KeepsBranches l.initial.queue.branches.items l.queue.branches.items
    × (l.queue.cut ≡ false → l.initial.queue.cut ≡ false)
    × ((first : State) → IsReplayOf first l.initial.machine → IsReplayOf first l.machine)
    × ((first : State) → Begins l.trial.target.image.now l.trial.target.boot.now first → IsReached first l.trial.branch.now l.steps l.machine)
    × (l.queue.cut ≡ false → (first : State) → Begins l.trial.target.image.now l.trial.target.boot.now first → IsWalkedBy l.trial.target.wanted.now first l.trial.switches l.queue.branches.items l.trial.walked.now l.trial.branch.now l.steps l.machine)
