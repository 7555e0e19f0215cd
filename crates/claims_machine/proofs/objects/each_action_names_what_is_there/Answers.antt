use Rattle.std.proofs.Common.{ap, sym, ◌∙◌}
use Rattle.evm_model.specs.Actions.{action_or_nothing}
use Rattle.claims_machine.proofs.Reached.{good}
use Rattle.claims_machine.proofs.objects.each_action_names_what_is_there.Goals as goal

pub returns-clause-count : goal.returns-clause-count
returns-clause-count g boot s reached = (good g.rules_hold.ensures.booted g.rules_hold.ensures.loaded boot s reached).actions.count

pub returns-clause-fixed : goal.returns-clause-fixed
returns-clause-fixed g boot s l action reached low there = sym (ap action_or_nothing there) ∙ (good g.rules_hold.ensures.booted g.rules_hold.ensures.loaded boot s reached).actions.fixed l low

pub returns-clause-puts : goal.returns-clause-puts
returns-clause-puts g boot s l semaphore reached there = (good g.rules_hold.ensures.booted g.rules_hold.ensures.loaded boot s reached).actions.puts l semaphore (ap action_or_nothing there)

pub returns-clause-posts : goal.returns-clause-posts
returns-clause-posts g boot s l group reached there = (good g.rules_hold.ensures.booted g.rules_hold.ensures.loaded boot s reached).actions.posts l group (ap action_or_nothing there)
