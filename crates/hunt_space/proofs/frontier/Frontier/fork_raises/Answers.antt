use Rattle.std.proofs.Common.{ℕ, below_more}
use Rattle.hunt_schedules.specs.declared.branch.Choice.TheVariants as choices
use Rattle.hunt_space.specs.Exploring.{HasFork}
use Rattle.hunt_space.proofs.Progress.{fork-still}
use Rattle.hunt_space.proofs.frontier.Frontier.fork_raises.Goals as goal

pub cpus-preserved : goal.cpus-preserved
cpus-preserved c =
    let all = c.cpus.invariant in
    let P : ℕ → Type 0 = λ d. HasFork c.fork.new.self.paths.items c.args.from.now.path.now c.args.from.now.steps (choices.Raise d c.args.line) in (
      (λ j path h. c.fork.ensures.keeps j path (all.0 j path h)),
      (λ none. all.1 (c.fork.ensures.cut none)),
      (λ none d less. below_more P c.cpus.cpu (λ e h. fork-still _ _ c.args.from.now.path.now _ _ c.fork.ensures.keeps (all.2 (c.fork.ensures.cut none) e h)) (c.in-Ok.ensures.forks none) d less),
    )
