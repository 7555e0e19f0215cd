use Rattle.std.proofs.Common.{refl, arith}
use Rattle.law_runs.specs.Balance.{Balance}
use Rattle.claims_machine.proofs.Reached.{ran}
use Rattle.claims_machine.proofs.no_interrupt_lost.what_is_received_comes_to_a_stage.Goals as goal

pub returns-clause-timer : goal.returns-clause-timer
returns-clause-timer c boot s p pipe n r here there =
    let routes = ((ran Balance boot s r (c.balance_holds.ensures.booted r.devices boot) (λ byte entry. c.balance_holds.ensures.loaded r.devices byte entry boot)).each p 0 pipe n here there).routes in
    (routes.oob_lines (omega arith), routes.timer refl)

pub returns-clause-timer_fresh : goal.returns-clause-timer_fresh
returns-clause-timer_fresh c s events p pipe n idle here there =
    let routes = ((c.balance_holds.ensures.fresh s (record { journal = idle.journal; pipes = idle.pipes }) events).each p 0 pipe n here there).routes in
    (routes.oob_lines (omega arith), routes.timer refl)

pub returns-clause-request : goal.returns-clause-request
returns-clause-request c boot s p pipe n r here there =
    let routes = ((ran Balance boot s r (c.balance_holds.ensures.booted r.devices boot) (λ byte entry. c.balance_holds.ensures.loaded r.devices byte entry boot)).each p 1 pipe n here there).routes in
    (routes.oob_lines (omega arith), routes.request refl)

pub returns-clause-request_fresh : goal.returns-clause-request_fresh
returns-clause-request_fresh c s events p pipe n idle here there =
    let routes = ((c.balance_holds.ensures.fresh s (record { journal = idle.journal; pipes = idle.pipes }) events).each p 1 pipe n here there).routes in
    (routes.oob_lines (omega arith), routes.request refl)

pub returns-clause-others : goal.returns-clause-others
returns-clause-others c boot s p l pipe n r most here there =
    let routes = ((ran Balance boot s r (c.balance_holds.ensures.booted r.devices boot) (λ byte entry. c.balance_holds.ensures.loaded r.devices byte entry boot)).each p l pipe n here there).routes in
    routes.others most

pub returns-clause-others_fresh : goal.returns-clause-others_fresh
returns-clause-others_fresh c s events p l pipe n most idle here there =
    let routes = ((c.balance_holds.ensures.fresh s (record { journal = idle.journal; pipes = idle.pipes }) events).each p l pipe n here there).routes in
    routes.others most
