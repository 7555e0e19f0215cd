use Rattle.std.proofs.Common.{◌≡◌, ℕ, ◌<◌, false}
use Rattle.hunt_schedules.specs.Branches.{HasBranch, KeepsBranches, forked}
use Rattle.hunt_schedules.specs.declared.branch.Choice.TheVariants as choices
use Rattle.hunt_schedules.proofs.queue.Queue.fork_raises.Given as goal

abbrev pub invariant-cpus : goal.invariant-cpus
invariant-cpus l =
    KeepsBranches l.initial.self.branches.items l.self.branches.items
    × (l.self.cut ≡ false → l.initial.self.cut ≡ false)
    × (l.self.cut ≡ false → (d : ℕ) → d < l.cpu → HasBranch l.self.branches.items (forked l.branch l.steps (choices.Raise d l.line)))
