use Rattle.std.proofs.Common.{◌≡◌, ap, true}
use Rattle.std.specs.Prelude.{is_some}
use Rattle.hunt_failures.specs.Failures.{step_of}
use Rattle.hunt_failures.proofs.Failing.{seen-as, seen-step}
use Rattle.hunt_failures.specs.declared.failure.Failure.TheVariants as failures
use Rattle.hunt_failures.proofs.eve.shown.Goals as goal

pub returns-in-Some-notice_left : goal.returns-in-Some-notice_left
returns-in-Some-notice_left c before event is eve =
    let seen = c.in-Some-notice_left.ensures before eve.notices in
    seen-as c.args.wanted.now before c.args.machine.now event c.args.answer c.in-Some-notice_left.failure (failures.Notice seen.0 seen.1) seen.2 seen.3

pub returns : goal.returns
returns c before event is eve =
    let step : is_some (step_of event) ≡ true = ap is_some is in
    seen-step c.args.wanted.now c.args.c before c.args.machine.now event c.args.answer c.left.result is
    (c.in-None.ensures before event eve) (c.in-None-notice_left.ensures before eve.notices) (c.in-None-stepped.ensures before event is) (c.left.ensures before event c.args.answer step eve)
