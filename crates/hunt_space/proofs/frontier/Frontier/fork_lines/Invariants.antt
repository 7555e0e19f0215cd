use Rattle.std.proofs.Common.{◌≡◌, ◌⊎◌, ℕ, ◌<◌, true, false, length}
use Rattle.evm_lines.specs.Lines.{has_line}
use Rattle.hunt_schedules.specs.declared.branch.Choice.TheVariants as choices
use Rattle.hunt_space.specs.Exploring.{HasFork}
use Rattle.hunt_space.specs.Space.{KeepsPaths}
use Rattle.hunt_space.proofs.frontier.Frontier.fork_lines.Given as goal

abbrev pub invariant-lines : goal.invariant-lines
invariant-lines l =
    KeepsPaths l.initial.self.paths.items l.self.paths.items
    × (l.self.cut ≡ false → l.initial.self.cut ≡ false)
    × (l.self.cut ≡ false → (line : ℕ) → has_line l.fn.lines line ≡ true
    → (has_line l.left line ≡ true) ⊎ ((d : ℕ) → d < l.cpus → HasFork l.self.paths.items l.from.path.now l.from.steps (choices.Raise d line)))

abbrev pub decreases-lines : goal.decreases-lines
decreases-lines l = length l.left
