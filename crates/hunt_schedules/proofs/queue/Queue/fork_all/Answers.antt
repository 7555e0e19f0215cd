use Rattle.std.proofs.Common.{◌≡◌, ℕ}
use Rattle.hunt_schedules.specs.declared.branch.Choice.TheVariants.{Step, Tick, Raise}
use Rattle.hunt_schedules.specs.Branches.{HasSwitches, HasBranch, KeepsBranches, forked}
use Rattle.hunt_schedules.specs.declared.branch.Branch.{Branch}
use Rattle.std.proofs.Common.{List, ◌<◌, ◌≢◌, Some, true}
use Rattle.std.specs.Prelude.{slice_get}
use Rattle.evm_lines.specs.Lines.{has_line}
use Rattle.hunt_schedules.proofs.Searching.{has-still}
use Rattle.hunt_schedules.proofs.queue.Queue.fork_all.Goals as goal

joined : (after-steps after-tick branches : List Branch) (branch : Branch) (steps : ℕ) (awake : List ℕ) (cpus : ℕ) (lines : List ℕ)
    → ((i d : ℕ) → slice_get awake i ≡ Some d → d ≢ branch.cpu → HasBranch after-steps (forked branch steps (Step d))) → KeepsBranches after-steps after-tick
    → HasBranch after-tick (forked branch steps Tick) → KeepsBranches after-tick branches
    → ((d line : ℕ) → d < cpus → has_line lines line ≡ true → HasBranch branches (forked branch steps (Raise d line)))
    → HasSwitches branches branch steps awake cpus lines
joined after-steps after-tick branches branch steps awake cpus lines others keeps ticks keeps' raises (Step d) is =
    has-still after-tick branches (forked branch steps (Step d)) keeps' (has-still after-steps after-tick (forked branch steps (Step d)) keeps (others is.1 d is.2 is.0))
joined after-steps after-tick branches branch steps awake cpus lines others keeps ticks keeps' raises Tick is = has-still after-tick branches (forked branch steps Tick) keeps' ticks
joined after-steps after-tick branches branch steps awake cpus lines others keeps ticks keeps' raises (Raise d line) is = raises d line is.0 is.1

pub returns-in-Ok-fork_lines-clause-has : goal.returns-in-Ok-fork_lines-clause-has
returns-in-Ok-fork_lines-clause-has c none =
    let none' = c.fork_lines.ensures.cut none in
    joined c.fork_steps.new.self.branches.items c.fork.new.self.branches.items c.fork_lines.new.self.branches.items c.args.branch.now c.args.steps c.args.ways.now.awake.now c.args.ways.now.cpus c.args.ways.now.lines
    (c.in-Ok.ensures.has (c.fork.ensures.cut none')) c.fork.ensures.keeps (c.in-Ok-fork.ensures.pushes none') c.fork_lines.ensures.keeps (c.in-Ok-fork_lines.ensures.has none)
