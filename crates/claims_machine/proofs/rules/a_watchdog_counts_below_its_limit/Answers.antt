use Rattle.std.proofs.Common.{◌≡◌, ℕ, ap, sym, ◌∙◌}
use Rattle.evm_model.specs.Good.{GoodState}
use Rattle.evm_model.specs.State.{State}
use Rattle.claims_machine.proofs.Reached.{good}
use Rattle.claims_machine.proofs.rules.a_watchdog_counts_below_its_limit.Goals as goal

-- the parts have the watchdog of the boot
of_boot : (s : State) → GoodState s → s.board.parts.profile.watchdog ≡ s.boot.watchdog
of_boot s rules = ap (λ profile. profile.watchdog) rules.profile

pub returns-clause-off : goal.returns-clause-off
returns-clause-off g boot s c reached off =
    let rules = good g.rules_hold.ensures.booted g.rules_hold.ensures.loaded boot s reached in
    (rules.good.watched c).off (of_boot s rules ∙ off)

pub returns-clause-away : goal.returns-clause-away
returns-clause-away g boot s c reached none =
    let rules = good g.rules_hold.ensures.booted g.rules_hold.ensures.loaded boot s reached in
    (rules.good.watched c).away none

pub returns-clause-below : goal.returns-clause-below
returns-clause-below g boot s c reached on =
    let rules = good g.rules_hold.ensures.booted g.rules_hold.ensures.loaded boot s reached in
    rw (← of_boot s rules) ((rules.good.watched c).below (λ off. on (sym (of_boot s rules) ∙ off)))
