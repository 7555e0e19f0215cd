use Rattle.std.proofs.Common.{Option, subst}
use Rattle.hunt_failures.specs.Eves.{IsCallNoted}
use Rattle.hunt_failures.specs.declared.calls.Caller.{Caller}
use Rattle.hunt_failures.proofs.Failing.{answered-task, none-answered, none-late}
use Rattle.hunt_failures.proofs.eve.answered_task.Goals as goal

pub returns-then-not-wanted : goal.returns-then-not-wanted
returns-then-not-wanted c before event eve = none-late c.args.wanted.now before c.args.machine.now event c.if-not-wanted.true

pub returns-in-None : goal.returns-in-None
returns-in-None c before event eve =
    none-answered c.args.wanted.now before c.args.machine.now event (subst (λ (o : Option Caller). IsCallNoted o c.args.wanted.now event before) c.in-None.is eve.call)

pub returns-in-Some : goal.returns-in-Some
returns-in-Some c before event eve =
    let known = subst (λ (o : Option Caller). IsCallNoted o c.args.wanted.now event before) c.in-Some.is eve.call in
    answered-task c.in-Some.caller c.args.wanted.now before c.args.machine.now event c.answered_late.result known.0 known.1 known.2 c.answered_late.ensures
