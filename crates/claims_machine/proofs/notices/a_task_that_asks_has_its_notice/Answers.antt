use Rattle.std.proofs.Common.{◌≡◌, ℕ, ◌+◌, ◌≤◌, Option, Some, None, inl, inr, ap, sym, ◌∙◌, arith}
use Rattle.std.specs.Prelude.{Ok}
use Rattle.evm_model.specs.Event.{Event}
use Rattle.evm_model.specs.Notices.{keep}
use Rattle.evm_model.specs.Ranks.{is_oob_ready}
use Rattle.evm_model.specs.Refusals.{refusal}
use Rattle.evm_model.specs.Replay.{accept, apply, apply_unless}
use Rattle.evm_model.specs.Rows.{row}
use Rattle.evm_model.specs.State.{Board, Notices, State}
use Rattle.evm_model.specs.declared.event.Answer.{Answer}
use Rattle.evm_model.specs.declared.event.Event.TheVariants.{Step}
use Rattle.evm_model.specs.declared.refusal.Refusal.{Refusal}
use Rattle.claims_machine.specs.Noticed.{OneNotice}
use Rattle.claims_machine.proofs.Asking.{asked_gets}
use Rattle.claims_machine.proofs.Reached.{good}
use Rattle.claims_machine.proofs.Whole.{changes_only}
use Rattle.claims_machine.proofs.notices.a_task_that_asks_has_its_notice.Goals as goal

-- an accepted event does its row
by_refusal : (o : Option Refusal) (event : Event) (s new : State) (answer : Answer) → apply_unless o event s ≡ Ok (new, answer) → ((row event s.board).0 ≡ new.board) × ((row event s.board).1 ≡ answer)
by_refusal (Some refusal) event s new answer e = cc
by_refusal None event s new answer e =
    let same : accept event (row event s.board) s ≡ (new, answer) = cc in (ap (λ (x : State × Answer). x.0.board) same, ap (λ (x : State × Answer). x.1) same)

applied : (event : Event) (s new : State) (answer : Answer) → apply s event ≡ Ok (new, answer) → ((row event s.board).0 ≡ new.board) × ((row event s.board).1 ≡ answer)
unfolding apply
applied event s new answer e = by_refusal (refusal event s) event s new answer e

few : (runs : Option ℕ) (c : ℕ) (old new : Board) → OneNotice runs c old.memory old.parts new.parts.notices → new.parts.notices.total ≤ old.parts.notices.total + 1
few runs c old new (inl same) = let total = ap (λ (n : Notices). n.total) same in omega (arith, total)
few runs c old new (inr (inl n)) = omega (arith, n.total)
few runs c old new (inr (inr n)) = omega (arith, n.total)

pub returns : goal.returns
unfolding row keep
returns g boot old new c t bit kind task reached e there is asks why =
    let rules = good g.rules_hold.ensures.booted g.rules_hold.ensures.loaded boot old reached in
    let after = applied (Step c) old new _ e in
    let one = (changes_only c old.board new.board ((g.events_change_only.ensures old new (Step c) _ e).board rules.good rules.devices.few)).notices in
    let gets = asked_gets c t old.board kind bit task after.1 there (ap is_oob_ready is) asks why (rw after.0 (few _ c old.board new.board one)) in
    let notices = ap (λ (b : Board). b.parts.notices) (sym after.0) ∙ gets in
    record { kept = ap (λ (n : Notices). n.kept) notices; total = ap (λ (n : Notices). n.total) notices }
