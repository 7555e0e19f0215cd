use Rattle.std.proofs.Common.{ℕ, Option, subst}
use Rattle.hunt_failures.specs.Eves.{IsStayNoted}
use Rattle.hunt_failures.proofs.Failing.{demoted-task, none-demoted}
use Rattle.hunt_failures.proofs.eve.demoted_task.Goals as goal

pub returns-in-None : goal.returns-in-None
returns-in-None c before wanted event eve =
    none-demoted wanted before c.args.machine.now event (subst (λ (o : Option ℕ). IsStayNoted o wanted event before) c.in-None.is eve.staying)

pub returns-in-Some : goal.returns-in-Some
returns-in-Some c before wanted event eve =
    let known = subst (λ (o : Option ℕ). IsStayNoted o wanted event before) c.in-Some.is eve.staying in
    demoted-task c.in-Some.t wanted before c.args.machine.now event c.demoted.result known.0 known.1 c.demoted.ensures
