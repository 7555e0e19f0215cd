-- A bound of the deadlines of tasks.
use Rattle.std.specs.Prelude.{◌≡◌, ℕ, ◌≤◌, List, Some, ◌==◌, not, nat_lt, ◌&&◌, if◌then◌else◌, slice_get}
use Rattle.evm_model.specs.declared.task.Task.{Task}

-- no task has a deadline before the bound; 0 is none
pub record IsEarly (bound : ℕ) (tasks : List Task) : Type 0 where
  pub each : (t : ℕ) (task : Task) → slice_get tasks t ≡ Some task → (task.deadline ≡ 0 → ⊥) → bound ≤ task.deadline

-- the bound with one deadline more
abbrev pub lowered : ℕ → ℕ → ℕ
lowered bound deadline = if not (deadline == 0) && nat_lt deadline bound then deadline else bound
