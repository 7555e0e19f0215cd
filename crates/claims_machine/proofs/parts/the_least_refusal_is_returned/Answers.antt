use Rattle.std.proofs.Common.{◌≡◌, ◌≢◌, Some, None, Option, true, false, Ok, Err, refl, arith}
use Rattle.std.proofs.lemmas.Bool.Decides.{nat_tests}
use Rattle.evm_model.specs.declared.refusal.Refusal.{Refusal}
use Rattle.evm_model.specs.declared.refusal.Refusal.TheVariants.{Full}
use Rattle.evm_model.specs.Refusals.{applies, is_full, refusal}
use Rattle.evm_model.specs.Replay.{accept, apply, apply_unless}
use Rattle.evm_model.specs.Rows.{row}
use Rattle.evm_model.specs.State.{State}
use Rattle.evm_model.specs.declared.event.Answer.{Answer}
use Rattle.evm_model.specs.Event.{Event}
use Rattle.law_runs.specs.Least.{is_reason}
use Rattle.claims_machine.proofs.parts.the_least_refusal_is_returned.Goals as goal

-- what is no reason does not apply
no_reason : (event : Event) (s : State) (reason : Refusal) → is_reason event s reason ≡ false → applies event s.board reason ≡ false
no_reason event s Full h = refl
no_reason event s _ h = h

reason_applies : (event : Event) (s : State) (reason : Refusal) → reason ≢ Full → is_reason event s reason ≡ true → applies event s.board reason ≡ true
reason_applies event s Full other h = absurd (other refl)
reason_applies event s _ other h = h

applying : (event : Event) (s : State) (reason : Refusal) → applies event s.board reason ≡ true → is_reason event s reason ≡ true
applying event s Full h = cc
applying event s _ h = h

unreasonable : (event : Event) (s : State) (reason : Refusal) → is_full s ≡ false → applies event s.board reason ≡ false → is_reason event s reason ≡ false
unreasonable event s Full room h = room
unreasonable event s _ room h = h

refused : (s : State) (event : Event) (reason : Refusal) → apply s event ≡ Err reason → refusal event s ≡ Some reason
unfolding apply
refused s event reason e = by (refusal event s) refl e
  where
    by : (o : Option Refusal) → refusal event s ≡ o → apply_unless o event s ≡ Err reason → o ≡ Some reason
    by None was h = cc
    by (Some told) was h = let same : told ≡ reason = cc in cc

unrefused : (s : State) (event : Event) (after : State × Answer) → apply s event ≡ Ok after → refusal event s ≡ None
unfolding apply
unrefused s event after e = by (refusal event s) refl e
  where
    by : (o : Option Refusal) → refusal event s ≡ o → apply_unless o event s ≡ Ok after → o ≡ None
    by None was h = refl
    by (Some told) was h = cc

pub returns-clause-full : goal.returns-clause-full
unfolding apply
returns-clause-full c s event none_left = let full : is_full s ≡ true = grind (arith, nat_tests) in rw full refl

pub returns-clause-told : goal.returns-clause-told
returns-clause-told c s event reason e other =
    reason_applies event s reason other ((c.returns_least.ensures event s).told reason (refused s event reason e)).holds

pub returns-clause-least : goal.returns-clause-least
returns-clause-least c s event reason other e low =
    no_reason event s other (((c.returns_least.ensures event s).told reason (refused s event reason e)).least other low)

pub returns-clause-tells : goal.returns-clause-tells
unfolding apply
returns-clause-tells c s event reason room holds least =
    let room_left : is_full s ≡ false = grind (arith, nat_tests) in
    let told : refusal event s ≡ Some reason = (c.returns_least.ensures event s).tells reason (record {
      holds = applying event s reason holds;
      least = λ other low. unreasonable event s other room_left (least other low);
    }) in
    rw told refl

pub returns-clause-accepted : goal.returns-clause-accepted
returns-clause-accepted c s new event answer reason e =
    let none : refusal event s ≡ None = unrefused s event (new, answer) e in
    let told = (c.returns_least.ensures event s).accepted none in
    let room : is_full s ≡ false = told Full in
    (no_reason event s reason (told reason), grind (arith, nat_tests))

pub returns-clause-accepts : goal.returns-clause-accepts
unfolding apply
returns-clause-accepts c s event room none =
    let room_left : is_full s ≡ false = grind (arith, nat_tests) in
    let accepted : refusal event s ≡ None = (c.returns_least.ensures event s).accepts (λ reason. unreasonable event s reason room_left (none reason)) in
    let after = accept event (row event s.board) s in
    (after.0, (after.1, rw accepted refl))
