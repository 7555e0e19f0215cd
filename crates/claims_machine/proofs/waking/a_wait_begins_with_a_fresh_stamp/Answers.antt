use Rattle.std.proofs.Common.{◌≡◌, Bool, true, false, Option, Some, None, refl, ap, ◌∙◌}
use Rattle.std.specs.Prelude.{Ok, slice_get, if◌then◌else◌}
use Rattle.evm_model.specs.Event.{Event}
use Rattle.evm_model.specs.Refusals.{board_refusal, is_full}
use Rattle.evm_model.specs.Replay.{accept, apply, apply_unless}
use Rattle.evm_model.specs.Rows.{row}
use Rattle.evm_model.specs.State.{Board, State}
use Rattle.evm_model.specs.declared.event.Answer.{Answer}
use Rattle.evm_model.specs.declared.event.Event.TheVariants.{Step}
use Rattle.evm_model.specs.declared.refusal.Refusal.{Refusal}
use Rattle.evm_model.specs.declared.refusal.Refusal.TheVariants.{Full}
use Rattle.claims_machine.proofs.Reached.{good}
use Rattle.claims_machine.proofs.Settling.{waits_fresh}
use Rattle.claims_machine.proofs.waking.a_wait_begins_with_a_fresh_stamp.Goals as goal

-- an accepted event is allowed, and does its row
by_refusal : (full : Bool) (o : Option Refusal) (event : Event) (s new : State) (answer : Answer) → apply_unless (if full then Some Full else o) event s ≡ Ok (new, answer) → (o ≡ None) × ((row event s.board).0 ≡ new.board)
by_refusal true o event s new answer e = cc
by_refusal false (Some refusal) event s new answer e = cc
by_refusal false None event s new answer e = let same : accept event (row event s.board) s ≡ (new, answer) = cc in (refl, ap (λ (x : State × Answer). x.0.board) same)

applied : (event : Event) (s new : State) (answer : Answer) → apply s event ≡ Ok (new, answer) → (board_refusal event s.board ≡ None) × ((row event s.board).0 ≡ new.board)
unfolding apply
applied event s new answer e = by_refusal (is_full s) (board_refusal event s.board) event s new answer e

pub returns : goal.returns
unfolding row
returns g boot old new answer c t task after wait reached e there at is was =
    let rules = good g.rules_hold.ensures.booted g.rules_hold.ensures.loaded boot old reached in
    let did = applied (Step c) old new answer e in
    waits_fresh c t old.board rules.good rules.devices.few did.0 task after wait there (ap (λ (b : Board). slice_get b.parts.tasks t) did.1 ∙ at) is was
