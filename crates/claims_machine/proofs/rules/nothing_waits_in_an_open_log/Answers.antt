use Rattle.claims_machine.proofs.Settled.{settled}
use Rattle.claims_machine.proofs.rules.nothing_waits_in_an_open_log.Goals as goal

pub returns-clause-oob : goal.returns-clause-oob
returns-clause-oob g boot s c pipe p reached e f u = (settled g.rules_hold.ensures.booted g.rules_hold.ensures.loaded boot s c pipe p reached e f).oob_played u

pub returns-clause-in_band : goal.returns-clause-in_band
returns-clause-in_band g boot s c pipe p reached e f u m = (settled g.rules_hold.ensures.booted g.rules_hold.ensures.loaded boot s c pipe p reached e f).in_band_played u m
