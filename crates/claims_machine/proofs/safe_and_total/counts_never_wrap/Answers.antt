use Rattle.std.proofs.Common.{ap, arith}
use Rattle.evm_model.specs.declared.boot.Boot.{Boot}
use Rattle.law_runs.specs.Fit.{CountsFit, HoldsFit}
use Rattle.law_rules.proofs.States.{few_events}
use Rattle.law_runs.specs.Kept.{IsAsBooted}
use Rattle.claims_machine.proofs.Reached.{good, ran, small}
use Rattle.claims_machine.proofs.safe_and_total.counts_never_wrap.Goals as goal

pub returns-clause-journal : goal.returns-clause-journal
returns-clause-journal c boot s fits r =
    let kept = ap (λ (b : Boot). b.capacity) (ran (IsAsBooted r.devices boot) boot s r (c.stays_as_booted.ensures.booted r.devices boot) (λ byte entry. c.stays_as_booted.ensures.loaded r.devices byte entry boot)).boot_kept in
    let fit = ran CountsFit boot s r (c.counts_fit.ensures.booted r.devices boot fits r.few) (λ byte entry. c.counts_fit.ensures.loaded r.devices byte entry boot fits r.few) in
    omega (arith, fit.journal, kept)

pub returns-clause-ticks : goal.returns-clause-ticks
returns-clause-ticks c boot s fits r =
    let fit = ran CountsFit boot s r (c.counts_fit.ensures.booted r.devices boot fits r.few) (λ byte entry. c.counts_fit.ensures.loaded r.devices byte entry boot fits r.few) in
    omega (arith, fit.few_ticks, fit.small)

pub returns-clause-counts : goal.returns-clause-counts
returns-clause-counts c boot s fits r p l pipe n here there =
    let fit = ran CountsFit boot s r (c.counts_fit.ensures.booted r.devices boot fits r.few) (λ byte entry. c.counts_fit.ensures.loaded r.devices byte entry boot fits r.few) in
    small _ n fit.small ((fit.counts.each p pipe here).lines l n there)

pub returns-clause-lines : goal.returns-clause-lines
returns-clause-lines c boot s fits r p pipe here =
    (ran CountsFit boot s r (c.counts_fit.ensures.booted r.devices boot fits r.few) (λ byte entry. c.counts_fit.ensures.loaded r.devices byte entry boot fits r.few)).lines p pipe here

pub returns-clause-counts_fresh : goal.returns-clause-counts_fresh
returns-clause-counts_fresh c boot board events fits pipes ticks few p l pipe n here there =
    let fit = c.counts_fit.ensures.fresh boot board fits (record { pipes = pipes; ticks = ticks; devices = few }) events in
    small _ n fit.small ((fit.counts.each p pipe here).lines l n there)

pub returns-clause-holds : goal.returns-clause-holds
returns-clause-holds c boot s fits r m mutex there =
    let fit = ran CountsFit boot s r (c.counts_fit.ensures.booted r.devices boot fits r.few) (λ byte entry. c.counts_fit.ensures.loaded r.devices byte entry boot fits r.few) in
    let held = (ran HoldsFit boot s r (c.counts_fit.ensures.holds r.devices boot r.few) (λ byte entry. c.counts_fit.ensures.holds_loaded r.devices byte entry boot r.few)).count m mutex there in
    omega (arith, held, fit.small)

pub returns-clause-stamps : goal.returns-clause-stamps
returns-clause-stamps c boot s reached =
    let rules = good c.rules_hold.ensures.booted c.rules_hold.ensures.loaded boot s reached in
    omega (arith, rules.stamps, few_events s rules)
