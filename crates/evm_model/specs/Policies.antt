-- The classes as calls number them, and their priorities.
use Rattle.std.specs.Prelude.{ℕ, Option, Some, None, ◌==◌, nat_lt, if◌then◌else◌}
use Rattle.evm_model.specs.declared.limits.TheConstants.{PRIORITY_LIMIT}
use Rattle.evm_model.specs.declared.task.Class.{Class}
use Rattle.evm_model.specs.declared.task.Class.TheVariants.{Fifo, RoundRobin, Weak}

-- 1 first in first out, 2 round robin, 3 weak
abbrev pub class_of : ℕ → Option Class
class_of n = if n == 1 then Some Fifo else (if n == 2 then Some RoundRobin else (if n == 3 then Some Weak else None))

-- weak tasks may have priority 0
abbrev pub least_priority : Class → ℕ
least_priority Weak = 0
least_priority _ = 1

abbrev pub with_priority : Option Class → ℕ → Option Class
with_priority None priority = None
with_priority (Some class) priority =
    if nat_lt priority (least_priority class) then None else (if nat_lt PRIORITY_LIMIT priority then None else Some class)

-- the class of a number, where it has the priority
abbrev pub policy_of : ℕ → ℕ → Option Class
policy_of number priority = with_priority (class_of number) priority
