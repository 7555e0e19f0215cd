use Rattle.hunt_failures.specs.Failures.{FailsAsWanted}
use Rattle.hunt_schedules.proofs.Walking.{passed-none, passed-step}
use Rattle.hunt_search.proofs.walking.take_steps.Goals as goal

pub steps-init : goal.steps-init
steps-init c = (passed-none (FailsAsWanted c.args.wanted.now) c.args.machine.now, (λ first h. h))

pub steps-preserved : goal.steps-preserved
steps-preserved c = (
  passed-step (FailsAsWanted c.args.wanted.now) c.steps._i c.args.cpu c.args.machine.now c.steps.machine c.attempt.new.machine c.steps.invariant.0 c.in-None.ensures.passes,
  (λ first h. c.attempt.ensures.replays first (c.steps.invariant.1 first h)),
)
