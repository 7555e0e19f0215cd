use Rattle.std.proofs.Common.{◌≡◌, ◌≢◌, ℕ, ◌<◌, false, Some}
use Rattle.std.specs.Prelude.{slice_get}
use Rattle.hunt_schedules.specs.declared.branch.Choice.TheVariants as choices
use Rattle.hunt_space.specs.Exploring.{HasFork}
use Rattle.hunt_space.specs.Space.{KeepsPaths}
use Rattle.hunt_space.proofs.frontier.Frontier.fork_steps.Given as goal

abbrev pub invariant-awake : goal.invariant-awake
invariant-awake l =
    KeepsPaths l.initial.self.paths.items l.self.paths.items
    × (l.self.cut ≡ false → l.initial.self.cut ≡ false)
    × (l.self.cut ≡ false → (i d : ℕ) → i < l.cpu-index → slice_get l.awake i ≡ Some d → d ≢ l.from.path.now.cpu → HasFork l.self.paths.items l.from.path.now l.from.steps (choices.Step d))
