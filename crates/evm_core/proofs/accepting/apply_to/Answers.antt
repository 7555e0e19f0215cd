use Rattle.std.proofs.Common.{◌≡◌, [], ◌∷◌, false, length, ap, sym, ◌∙◌, arith}
use Rattle.std.proofs.lemmas.Bool.Decides.{nat_tests}
use Rattle.std.proofs.lemmas.List.{length-append}
use Rattle.evm_model.specs.Event.{event_lent}
use Rattle.evm_model.specs.Refusals.{is_full}
use Rattle.evm_model.specs.State.{State}
use Rattle.evm_board.proofs.law_rules.States.{good_accepted}
use Rattle.evm_core.specs.Parts.{state_of}
use Rattle.evm_core.proofs.Journaled.{event_more}
use Rattle.evm_core.proofs.Rules.{room-fits, ticks-fit}
use Rattle.evm_core.proofs.accepting.apply_to.Goals as goal

pub row-answer-requires-clause-clock : goal.row-answer-requires-clause-clock
row-answer-requires-clause-clock g c κs within = ticks-fit _ c.requires.1

pub row-answer-requires-clause-room : goal.row-answer-requires-clause-room
row-answer-requires-clause-room g c κs within = room-fits _ c.requires.1

pub returns-clause-stays : goal.returns-clause-stays
returns-clause-stays g c =
    let s : State = state_of c.args.boot.now c.args.journal.now c.args.board.now in
    let longer = ap length c.push.ensures.events ∙ length-append c.args.journal.now.events (event_lent c.args.event.now ∷ []) in
    let free = sym c.refusal.ensures ∙ c.in_default-refusal.is in
    let open_yet : is_full s ≡ false = grind (arith, nat_tests) in (
      omega (arith, longer, c.push.ensures.room, c.requires.0),
      rw c.push.ensures.events
          (good_accepted s (event_lent c.args.event.now) (c.row-answer.new.self, c.row-answer.result) c.row-answer.ensures open_yet free c.requires.1),
      rw c.push.ensures.events (event_more c.args.journal.now.events (event_lent c.args.event.now) c.args.board.now c.requires.2 c.event_fits.ensures free),
    )
