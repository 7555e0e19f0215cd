use Rattle.std.specs.Prelude.{None}
use Rattle.evm_model.specs.Good.{IsPipe}
use Rattle.evm_model.specs.declared.stage.Stage.TheVariants.{InBand}
use Rattle.claims_machine.proofs.Reached.{good}
use Rattle.claims_machine.proofs.order.lines_are_played_in_rising_order.Goals as goal

pub returns-clause-rise : goal.returns-clause-rise
returns-clause-rise g boot s c pipe reached there =
    let is : IsPipe pipe = (good g.rules_hold.ensures.booted g.rules_hold.ensures.loaded boot s reached).good.pipes c pipe there in
    let now = (g.goes_in_order.ensures.rise InBand 0 pipe is).0 in (now.wire, now.oob, now.in_band)

pub returns-clause-received : goal.returns-clause-received
returns-clause-received g boot s stage c l pipe reached there =
    let is : IsPipe pipe = (good g.rules_hold.ensures.booted g.rules_hold.ensures.loaded boot s reached).good.pipes c pipe there in
    let after = (g.goes_in_order.ensures.rise stage l pipe is).1 in (after.oob, after.in_band)

pub returns-clause-oob : goal.returns-clause-oob
returns-clause-oob g was c k pipe there = (g.goes_in_order.ensures.plays was c k pipe there).oob

pub returns-clause-in_band : goal.returns-clause-in_band
returns-clause-in_band g c k pipe there = (g.goes_in_order.ensures.plays None c k pipe there).in_band
