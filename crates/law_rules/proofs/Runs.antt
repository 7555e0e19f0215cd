-- What each accepted event keeps holds after every list of events.
use Rattle.std.proofs.Common.{◌≡◌, Bool, true, false, List, [], ◌∷◌, Option, Some, None, refl}
use Rattle.std.specs.Prelude.{if◌then◌else◌}
use Rattle.evm_model.specs.declared.refusal.Refusal.{Refusal}
use Rattle.evm_model.specs.declared.refusal.Refusal.TheVariants.{Full}
use Rattle.evm_model.specs.Refusals.{board_refusal, is_full}
use Rattle.evm_model.specs.Replay.{accept, apply, apply_unless, left_by, replay}
use Rattle.evm_model.specs.Rows.{row}
use Rattle.evm_model.specs.State.{State}
use Rattle.evm_model.specs.Event.{Event}

pub record IsKept (P : State → Type 0) : Type 0 where
  pub accepted : (s : State) (event : Event) → is_full s ≡ false → board_refusal event s.board ≡ None → P s → P (accept event (row event s.board) s).0

unless_keeps : (P : State → Type 0) (s : State) (event : Event) (full : Bool) (o : Option Refusal) → is_full s ≡ full → board_refusal event s.board ≡ o
    → IsKept P → P s → P (left_by (apply_unless (if full then Some Full else o) event s) s)
unless_keeps P s event true o f e k h = h
unless_keeps P s event false (Some refusal) f e k h = h
unless_keeps P s event false None f e k h = k.accepted s event f e h

pub apply_keeps : (P : State → Type 0) (s : State) (event : Event) → IsKept P → P s → P (left_by (apply s event) s)
unfolding apply
apply_keeps P s event k h = unless_keeps P s event (is_full s) (board_refusal event s.board) refl refl k h

pub replay_keeps : (P : State → Type 0) (s : State) (events : List Event) → IsKept P → P s → P (replay s events)
unfolding replay
replay_keeps P s [] k h = h
replay_keeps P s (event ∷ events) k h = replay_keeps P (left_by (apply s event) s) events k (apply_keeps P s event k h)
