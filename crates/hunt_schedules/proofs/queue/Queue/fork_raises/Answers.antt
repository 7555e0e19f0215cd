use Rattle.std.proofs.Common.{ℕ, below_more}
use Rattle.hunt_schedules.specs.Branches.{HasBranch, forked}
use Rattle.hunt_schedules.specs.declared.branch.Choice.TheVariants as choices
use Rattle.hunt_schedules.proofs.Searching.{has-still}
use Rattle.hunt_schedules.proofs.queue.Queue.fork_raises.Goals as goal

pub cpus-preserved : goal.cpus-preserved
cpus-preserved c =
    let all = c.cpus.invariant in
    let P : ℕ → Type 0 = λ d. HasBranch c.fork.new.self.branches.items (forked c.args.branch.now c.args.steps (choices.Raise d c.args.line)) in (
      (λ j branch h. c.fork.ensures.keeps j branch (all.0 j branch h)),
      (λ none. all.1 (c.fork.ensures.cut none)),
      (λ none d less. below_more P c.cpus.cpu (λ e h. has-still _ _ _ c.fork.ensures.keeps (all.2 (c.fork.ensures.cut none) e h)) (c.in-Ok.ensures.pushes none) d less),
    )
