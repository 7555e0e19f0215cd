-- A task of the list, changed.
use Rattle.std.proofs.Common.{◌≡◌, ℕ, List, Some, refl}
use Rattle.std.specs.Prelude.{slice_get, slice_set}
use Rattle.evm_model.specs.Lists.{change}
use Rattle.evm_model.specs.declared.task.Task.{Task}

-- a task that is there, changed
pub changed : (f : Task → Task) (tasks now : List Task) (t : ℕ) (old : Task) → slice_get tasks t ≡ Some old → tasks ≡ now → slice_set tasks t (f old) ≡ change f now t
changed f tasks now t old there is = rw (← is, there) refl
