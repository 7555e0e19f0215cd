use Rattle.std.proofs.Common.{◌≡◌, ◌≢◌, ℕ, ◌<◌, false, Some}
use Rattle.std.specs.Prelude.{slice_get}
use Rattle.hunt_schedules.specs.Branches.{HasBranch, KeepsBranches, forked}
use Rattle.hunt_schedules.specs.declared.branch.Choice.TheVariants as choices
use Rattle.hunt_schedules.proofs.queue.Queue.fork_steps.Given as goal

abbrev pub invariant-awake : goal.invariant-awake
invariant-awake l =
    KeepsBranches l.initial.self.branches.items l.self.branches.items
    × (l.self.cut ≡ false → l.initial.self.cut ≡ false)
    × (l.self.cut ≡ false → (i d : ℕ) → i < l.cpu-index → slice_get l.awake i ≡ Some d → d ≢ l.branch.cpu → HasBranch l.self.branches.items (forked l.branch l.steps (choices.Step d)))
