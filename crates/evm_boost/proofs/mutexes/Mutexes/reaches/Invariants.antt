use Rattle.std.proofs.Common.{◌≡◌, ◌-◌, Some}
use Rattle.evm_model.specs.Boosts.{reaches}
use Rattle.evm_model.specs.Mutexes.{waits_on}
use Rattle.evm_model.specs.declared.limits.TheConstants.{TASK_LIMIT}
use Rattle.evm_boost.proofs.mutexes.Mutexes.reaches.Given as goal

-- the rest of the way reaches task t where the whole way does
abbrev pub invariant-loop-link : goal.invariant-loop-link
invariant-loop-link l =
    reaches (waits_on l.self l.tasks) l.t (TASK_LIMIT - l.link) (Some l.at) ≡ reaches (waits_on l.self l.tasks) l.t TASK_LIMIT (Some l.u)
