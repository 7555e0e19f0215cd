-- Of several refusals that apply the one of least number is reported.
use Rattle.std.specs.Prelude.{◌≡◌, ◌<◌, Some, None, Bool, true, false}
use Rattle.evm_model.specs.Refusals.{number_of}
use Rattle.evm_model.specs.declared.refusal.Refusal.{Refusal}
use Rattle.evm_model.specs.declared.refusal.Refusal.TheVariants.{Full}
use Rattle.evm_model.specs.Refusals.{applies, is_full, refusal}
use Rattle.evm_model.specs.State.{State}
use Rattle.evm_model.specs.Event.{Event}

-- whether an event is refused for this reason, whatever the others are
abbrev pub is_reason : Event → State → Refusal → Bool
is_reason event s Full = is_full s
is_reason event s reason = applies event s.board reason

-- it is a reason, and none of lesser number is
pub record IsLeastReason (event : Event) (s : State) (reason : Refusal) : Type 0 where
  pub holds : is_reason event s reason ≡ true
  pub least : (other : Refusal) → number_of other < number_of reason → is_reason event s other ≡ false

pub record TellsLeast (event : Event) (s : State) : Type 0 where
  pub told : (reason : Refusal) → refusal event s ≡ Some reason → IsLeastReason event s reason
  pub tells : (reason : Refusal) → IsLeastReason event s reason → refusal event s ≡ Some reason
  -- an event is accepted if and only if there is no reason
  pub accepted : refusal event s ≡ None → (reason : Refusal) → is_reason event s reason ≡ false
  pub accepts : ((reason : Refusal) → is_reason event s reason ≡ false) → refusal event s ≡ None

abbrev pub AlwaysTellsLeast : Type 0
AlwaysTellsLeast = (event : Event) (s : State) → TellsLeast event s
