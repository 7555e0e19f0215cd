use Rattle.std.proofs.Common.{◌≡◌, ℕ, List, Bool, ◌<◌, ◌≢◌, Some, true}
use Rattle.std.specs.Prelude.{slice_get}
use Rattle.evm_lines.specs.Lines.{has_line}
use Rattle.hunt_schedules.specs.declared.branch.Choice.TheVariants.{Step, Tick, Raise}
use Rattle.hunt_space.specs.Exploring.{HasFork, HasForks}
use Rattle.hunt_space.specs.Space.{KeepsPaths}
use Rattle.hunt_space.specs.declared.path.Path.{Path}
use Rattle.hunt_space.proofs.Progress.{fork-still}
use Rattle.hunt_space.proofs.frontier.Frontier.fork_all.Goals as goal

joined : (after-steps after-tick paths : List Path) (path : Path) (steps : ℕ) (awake : List ℕ) (cpus : ℕ) (lines : List ℕ) (tick : Bool)
    → ((i d : ℕ) → slice_get awake i ≡ Some d → d ≢ path.cpu → HasFork after-steps path steps (Step d)) → KeepsPaths after-steps after-tick
    → (tick ≡ true → HasFork after-tick path steps Tick) → KeepsPaths after-tick paths
    → ((d line : ℕ) → d < cpus → has_line lines line ≡ true → HasFork paths path steps (Raise d line))
    → HasForks paths path steps awake cpus lines tick
joined after-steps after-tick paths path steps awake cpus lines tick others keeps ticks keeps' raises (Step d) is =
    fork-still after-tick paths path steps (Step d) keeps' (fork-still after-steps after-tick path steps (Step d) keeps (others is.1 d is.2 is.0))
joined after-steps after-tick paths path steps awake cpus lines tick others keeps ticks keeps' raises Tick is = fork-still after-tick paths path steps Tick keeps' (ticks is)
joined after-steps after-tick paths path steps awake cpus lines tick others keeps ticks keeps' raises (Raise d line) is = raises d line is.0 is.1

pub returns-in-Ok-fork_lines-clause-has : goal.returns-in-Ok-fork_lines-clause-has
returns-in-Ok-fork_lines-clause-has c none =
    let none' = c.fork_lines.ensures.cut none in
    joined c.fork_steps.new.self.paths.items c.fork_tick.new.self.paths.items c.fork_lines.new.self.paths.items c.args.from.now.path.now c.args.from.now.steps c.args.choices.now.awake.now c.args.choices.now.cpus c.args.choices.now.lines c.args.choices.now.tick
    (c.in-Ok.ensures.has (c.fork_tick.ensures.cut none')) c.fork_tick.ensures.keeps (c.in-Ok-fork_tick.ensures.has none') c.fork_lines.ensures.keeps (c.in-Ok-fork_lines.ensures.has none)
