use Rattle.std.proofs.Common.{◌≡◌}
use Rattle.evm_model.specs.Deadlines.{deadline, is_due}
use Rattle.evm_model.specs.Ranks.{first}
use Rattle.evm_task.proofs.tasks.Tasks.first_due.Given as goal

-- the one that leads is the first of those so far
abbrev pub invariant-loop-t : goal.invariant-loop-t
invariant-loop-t l = l.leading ≡ first (is_due l.c l.now l.self) (λ _. 0) (deadline l.self) l.t
