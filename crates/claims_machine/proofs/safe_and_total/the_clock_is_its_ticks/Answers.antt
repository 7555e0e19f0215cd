use Rattle.std.proofs.Common.{arith}
use Rattle.law_runs.specs.Fit.{CountsFit}
use Rattle.claims_machine.proofs.Reached.{ran}
use Rattle.claims_machine.proofs.safe_and_total.the_clock_is_its_ticks.Goals as goal

pub returns-clause-ran : goal.returns-clause-ran
returns-clause-ran c boot s fits r = (ran CountsFit boot s r (c.counts_fit.ensures.booted r.devices boot fits r.few) (λ byte entry. c.counts_fit.ensures.loaded r.devices byte entry boot fits r.few)).ticks

pub returns-clause-fresh : goal.returns-clause-fresh
returns-clause-fresh c boot board events fits pipes ticks few =
    (c.counts_fit.ensures.fresh boot board fits (record { pipes = pipes; ticks = ticks; devices = few }) events).ticks

pub returns-clause-few : goal.returns-clause-few
returns-clause-few c boot s fits r =
    let fit = ran CountsFit boot s r (c.counts_fit.ensures.booted r.devices boot fits r.few) (λ byte entry. c.counts_fit.ensures.loaded r.devices byte entry boot fits r.few) in
    omega (arith, fit.few_ticks, fit.small)
