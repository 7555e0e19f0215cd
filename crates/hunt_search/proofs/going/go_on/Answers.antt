use Rattle.std.proofs.Common.{length}
use Rattle.hunt_search.proofs.Branching.{steps-to, walks, walks-out}
use Rattle.hunt_failures.specs.Failures.{FailsAsWanted}
use Rattle.hunt_schedules.specs.Making.{MayMake}
use Rattle.hunt_schedules.proofs.Going.{walked-into}
use Rattle.hunt_search.proofs.going.go_on.Goals as goal

pub steps-preserved : goal.steps-preserved
steps-preserved c =
    let all = c.steps.invariant in
    let moved = rw c.in-Ok-None.field-0-is at c.in-Ok-None.ensures.steps in (
      (λ j branch h. c.go_on_once.ensures.keeps j branch (all.0 j branch h)),
      (λ none. all.1 (c.go_on_once.ensures.cut none)),
      (λ first h. c.go_on_once.ensures.replays first (all.2 first h)),
      (λ first begins. steps-to c.args.trial.now.target.wanted.now first c.steps.machine c.go_on_once.new.machine c.args.trial.now.branch.now c.steps.steps moved (all.3 first begins)),
      (λ none first begins. walks c.args.trial.now.target.wanted.now first c.args.trial.now.switches c.steps.queue.branches.items c.go_on_once.new.queue.branches.items c.args.trial.now.walked.now c.args.trial.now.branch.now c.steps.steps c.steps.machine c.go_on_once.new.machine
          (all.0 (length c.args.trial.now.walked.now) c.args.trial.now.branch.now c.requires.there) c.go_on_once.ensures.keeps (c.in-Ok-None.ensures.forks none) moved (all.4 (c.go_on_once.ensures.cut none) first begins)),
    )

pub returns-in-Ok-true-clause-walks : goal.returns-in-Ok-true-clause-walks
returns-in-Ok-true-clause-walks c alive none first begins =
    let all = c.steps.invariant in
    walked-into (MayMake c.args.trial.now.target.wanted.now.lines) (FailsAsWanted c.args.trial.now.target.wanted.now) first c.args.trial.now.switches c.steps.queue.branches.items c.args.trial.now.walked.now c.args.trial.now.branch.now c.steps.steps c.args.machine.now c.steps.machine
    (all.0 (length c.args.trial.now.walked.now) c.args.trial.now.branch.now c.requires.there) (c.in-Ok-true.ensures c.in-Ok-true.field-0-test first begins) (c.requires.begins first begins) (all.4 none first begins)

pub returns-in-Ok-Some-clause-walks : goal.returns-in-Ok-Some-clause-walks
returns-in-Ok-Some-clause-walks c alive none first begins =
    let all = c.steps.invariant in
    let ended = rw c.in-Ok-Some.field-0-is at c.in-Ok-Some.ensures.steps in
    walks-out c.args.trial.now.target.wanted.now first c.args.trial.now.switches c.steps.queue.branches.items c.go_on_once.new.queue.branches.items c.args.trial.now.walked.now c.args.trial.now.branch.now c.steps.steps c.args.machine.now c.steps.machine c.go_on_once.new.machine c.in-Ok-Some.outcome
    (all.0 (length c.args.trial.now.walked.now) c.args.trial.now.branch.now c.requires.there) c.go_on_once.ensures.keeps (c.in-Ok-Some.ensures.forks none) ended alive (c.requires.begins first begins) (all.4 (c.go_on_once.ensures.cut none) first begins)
