use Rattle.hunt_failures.proofs.Failing.{left-abandoned, left-answered, left-demoted, left-woken}
use Rattle.hunt_failures.proofs.eve.left.Goals as goal

pub returns-in-Some : goal.returns-in-Some
returns-in-Some c before event answer step eve =
    left-abandoned c.args.wanted.now before c.args.machine.now event answer c.in-Some.failure step (c.in-Some.ensures before c.args.wanted.now event eve)

pub returns-in-Some-demoted_task : goal.returns-in-Some-demoted_task
returns-in-Some-demoted_task c before event answer step eve =
    left-demoted c.args.wanted.now before c.args.machine.now event answer c.in-Some-demoted_task.failure (c.in-Some-demoted_task.ensures before c.args.wanted.now event eve)

pub returns-in-Some-woken_task : goal.returns-in-Some-woken_task
returns-in-Some-woken_task c before event answer step eve =
    left-woken c.args.wanted.now before c.args.machine.now event answer c.in-Some-woken_task.failure step (c.in-Some-woken_task.ensures before c.args.wanted.now event eve)

pub returns : goal.returns
returns c before event answer step eve =
    left-answered c.args.wanted.now before c.args.machine.now event answer c.answered_task.result step
    (c.in-None.ensures before c.args.wanted.now event eve) (c.in-None-demoted_task.ensures before c.args.wanted.now event eve) (c.in-None-woken_task.ensures before c.args.wanted.now event eve)
    (c.answered_task.ensures before event eve)
