use Rattle.std.proofs.Common.{◌≡◌, ◌⊎◌, ℕ, ◌<◌, true, false, length}
use Rattle.evm_lines.specs.Lines.{has_line}
use Rattle.hunt_schedules.specs.Branches.{HasBranch, KeepsBranches, forked}
use Rattle.hunt_schedules.specs.declared.branch.Choice.TheVariants as choices
use Rattle.hunt_schedules.proofs.queue.Queue.fork_lines.Given as goal

abbrev pub invariant-lines : goal.invariant-lines
invariant-lines l =
    KeepsBranches l.initial.self.branches.items l.self.branches.items
    × (l.self.cut ≡ false → l.initial.self.cut ≡ false)
    × (l.self.cut ≡ false → (line : ℕ) → has_line l.fn.lines line ≡ true
    → (has_line l.left line ≡ true) ⊎ ((d : ℕ) → d < l.cpus → HasBranch l.self.branches.items (forked l.branch l.steps (choices.Raise d line))))

abbrev pub decreases-lines : goal.decreases-lines
decreases-lines l = length l.left
