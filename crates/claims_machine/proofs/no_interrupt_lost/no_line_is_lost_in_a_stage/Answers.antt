use Rattle.law_runs.specs.Balance.{Balance}
use Rattle.claims_machine.proofs.Reached.{ran}
use Rattle.claims_machine.proofs.no_interrupt_lost.no_line_is_lost_in_a_stage.Goals as goal

pub returns-clause-out_of_band : goal.returns-clause-out_of_band
returns-clause-out_of_band c boot s p l pipe n r here there =
    ((ran Balance boot s r (c.balance_holds.ensures.booted r.devices boot) (λ byte entry. c.balance_holds.ensures.loaded r.devices byte entry boot)).each p l pipe n here there).oob

pub returns-clause-out_of_band_fresh : goal.returns-clause-out_of_band_fresh
returns-clause-out_of_band_fresh c s events p l pipe n idle here there =
    ((c.balance_holds.ensures.fresh s (record { journal = idle.journal; pipes = idle.pipes }) events).each p l pipe n here there).oob

pub returns-clause-in_band : goal.returns-clause-in_band
returns-clause-in_band c boot s p l pipe n r here there =
    ((ran Balance boot s r (c.balance_holds.ensures.booted r.devices boot) (λ byte entry. c.balance_holds.ensures.loaded r.devices byte entry boot)).each p l pipe n here there).in_band

pub returns-clause-in_band_fresh : goal.returns-clause-in_band_fresh
returns-clause-in_band_fresh c s events p l pipe n idle here there =
    ((c.balance_holds.ensures.fresh s (record { journal = idle.journal; pipes = idle.pipes }) events).each p l pipe n here there).in_band
