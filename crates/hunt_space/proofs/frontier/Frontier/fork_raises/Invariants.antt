use Rattle.std.proofs.Common.{◌≡◌, ℕ, ◌<◌, false}
use Rattle.hunt_schedules.specs.declared.branch.Choice.TheVariants as choices
use Rattle.hunt_space.specs.Exploring.{HasFork}
use Rattle.hunt_space.specs.Space.{KeepsPaths}
use Rattle.hunt_space.proofs.frontier.Frontier.fork_raises.Given as goal

abbrev pub invariant-cpus : goal.invariant-cpus
invariant-cpus l =
    KeepsPaths l.initial.self.paths.items l.self.paths.items
    × (l.self.cut ≡ false → l.initial.self.cut ≡ false)
    × (l.self.cut ≡ false → (d : ℕ) → d < l.cpu → HasFork l.self.paths.items l.from.path.now l.from.steps (choices.Raise d l.line))
