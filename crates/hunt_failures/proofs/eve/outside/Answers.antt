use Rattle.hunt_failures.proofs.Failing.{seen-as, seen-outside}
use Rattle.hunt_failures.specs.declared.failure.Failure.TheVariants as failures
use Rattle.hunt_failures.proofs.eve.outside.Goals as goal

pub returns-in-Some : goal.returns-in-Some
returns-in-Some c before event answer is eve =
    let seen = c.in-Some.ensures before eve.notices in
    seen-as c.args.wanted.now before c.args.machine.now event answer c.in-Some.failure (failures.Notice seen.0 seen.1) seen.2 seen.3

pub returns : goal.returns
returns c before event answer is eve =
    seen-outside c.args.wanted.now before c.args.machine.now event answer c.deadlocked.result is (c.in-None.ensures before eve.notices) c.deadlocked.ensures
