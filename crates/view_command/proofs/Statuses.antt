-- The status of a run that is not shown, which isn't 0.
use Rattle.std.proofs.Common.{◌≡◌, ℕ, Result, Ok, Err}
use Rattle.std.specs.Prelude.{OnErr, OnOk}
use Rattle.view_command.specs.Viewing.{status_of}
use Rattle.view_command.specs.declared.drawing.ViewEnd.{ViewEnd}
use Rattle.view_command.specs.declared.drawing.ViewEnd.TheVariants.{AtFault, NoMemory, WriteFailed}

pub never_zero : (end : ViewEnd) (s : ℕ) → s ≡ status_of end → s ≡ 0 → ⊥
never_zero (AtFault fault) s e z = cc
never_zero NoMemory s e z = cc
never_zero (WriteFailed fault) s e z = cc

-- what holds of a run that was shown, where the status is 0
pub shown : {A E : Type 0} (r : Result A E) (s : ℕ) (P : Type 0) → OnErr r (s ≡ 0 → ⊥) → OnOk r P → s ≡ 0 → P
shown (Ok a) s P bad good e = good
shown (Err x) s P bad good e = absurd (bad e)
