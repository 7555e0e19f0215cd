use Rattle.claims_machine.proofs.Reached.{good}
use Rattle.claims_machine.proofs.objects.each_timer_is_within_its_bound.Goals as goal

pub returns-clause-few : goal.returns-clause-few
returns-clause-few g boot s reached = (good g.rules_hold.ensures.booted g.rules_hold.ensures.loaded boot s reached).timers.few

pub returns-clause-period : goal.returns-clause-period
returns-clause-period g boot s n timer reached there = ((good g.rules_hold.ensures.booted g.rules_hold.ensures.loaded boot s reached).timers.each n timer there).period

pub returns-clause-due : goal.returns-clause-due
returns-clause-due g boot s n timer reached there = ((good g.rules_hold.ensures.booted g.rules_hold.ensures.loaded boot s reached).timers.each n timer there).due

pub returns-clause-on : goal.returns-clause-on
returns-clause-on g boot s n timer reached there on = ((good g.rules_hold.ensures.booted g.rules_hold.ensures.loaded boot s reached).timers.each n timer there).set on

pub returns-clause-off : goal.returns-clause-off
returns-clause-off g boot s n timer reached there off = ((good g.rules_hold.ensures.booted g.rules_hold.ensures.loaded boot s reached).timers.each n timer there).off off
