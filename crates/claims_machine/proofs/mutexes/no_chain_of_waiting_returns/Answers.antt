use Rattle.std.proofs.Common.{ap, ◌∙◌}
use Rattle.evm_model.specs.Mutexes.{owner_of, waits_on}
use Rattle.evm_model.specs.declared.limits.TheConstants.{TASK_LIMIT}
use Rattle.claims_machine.proofs.Ranking.{locks, waits}
use Rattle.claims_machine.proofs.Reached.{good}
use Rattle.claims_machine.proofs.mutexes.no_chain_of_waiting_returns.Goals as goal

pub returns-clause-returns : goal.returns-clause-returns
returns-clause-returns g boot s links t reached e =
    g.walks_end.ensures.returns (waits_on s.board.parts.mutexes s.board.parts.tasks) TASK_LIMIT links t (good g.rules_hold.ensures.booted g.rules_hold.ensures.loaded boot s reached).good.locks.chains e

pub returns-clause-ends : goal.returns-clause-ends
returns-clause-ends g boot s t reached =
    g.walks_end.ensures.ends (waits_on s.board.parts.mutexes s.board.parts.tasks) TASK_LIMIT (good g.rules_hold.ensures.booted g.rules_hold.ensures.loaded boot s reached).good.locks.chains t

pub returns-clause-links : goal.returns-clause-links
returns-clause-links g mutexes tasks u t m task mutex e on there its = waits mutexes tasks u m (locks tasks u m task e on) ∙ ap owner_of there ∙ its
