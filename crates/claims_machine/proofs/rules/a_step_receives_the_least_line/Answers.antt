use Rattle.claims_machine.proofs.Reached.{good}
use Rattle.claims_machine.proofs.rules.a_step_receives_the_least_line.Goals as goal

pub returns : goal.returns
returns g boot s new c l pipe reached e there =
    let first = g.steps_receive_least.ensures s new c l pipe (good g.rules_hold.ensures.booted g.rules_hold.ensures.loaded boot s reached) e there in (first.there, first.least)
