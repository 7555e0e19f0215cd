use Rattle.std.proofs.Common.{◌≡◌, ◌≤◌, ◌<◌, ◌∙◌, [], ◌∷◌, true, false, ap, length, arith}
use Rattle.std.proofs.lemmas.Bool.Decides.{nat_tests}
use Rattle.std.proofs.lemmas.List.{length-append}
use Rattle.evm_model.specs.Refusals.{is_full}
use Rattle.evm_model.specs.State.{State}
use Rattle.evm_model.specs.declared.event.Event.TheVariants.{Step}
use Rattle.evm_board.proofs.law_rules.States.{good_accepted}
use Rattle.evm_core.specs.Parts.{state_of}
use Rattle.evm_core.proofs.Journaled.{steps_more}
use Rattle.evm_core.proofs.Many.{step-absent, step-accepted, step-answers, step-full, step-is-row}
use Rattle.evm_core.proofs.Rules.{room-fits}
use Rattle.evm_core.proofs.accepting.step_to.Goals as goal

pub step-answer-requires-clause-room : goal.step-answer-requires-clause-room
step-answer-requires-clause-room g c κs within = room-fits _ c.requires.1

pub returns-clause-ok : goal.returns-clause-ok
returns-clause-ok g c =
    let s : State = state_of c.args.boot.now c.args.journal.now c.args.board.now in
    let within : c.args.c < length s.board.parts.processors = grind (arith, nat_tests, c.processor_count.ensures.count) in
    let open_yet : is_full s ≡ false = grind (arith, nat_tests, c.len.ensures.count) in
    rw c.push_steps.ensures.events (step-answers c.args.c s (c.step-answer.new.self, c.step-answer.result) within open_yet c.step-answer.ensures)

pub returns-clause-stays : goal.returns-clause-stays
returns-clause-stays g c =
    let s : State = state_of c.args.boot.now c.args.journal.now c.args.board.now in
    let within : c.args.c < length s.board.parts.processors = grind (arith, nat_tests, c.processor_count.ensures.count) in
    let open_yet : is_full s ≡ false = grind (arith, nat_tests, c.len.ensures.count) in
    let longer = ap length c.push_steps.ensures.events ∙ length-append s.journal (Step c.args.c ∷ []) in (
      omega (arith, longer, c.push_steps.ensures.room, c.requires.0),
      rw c.push_steps.ensures.events
          (good_accepted s (Step c.args.c) (c.step-answer.new.self, c.step-answer.result)
          (step-is-row c.args.c s.board (c.step-answer.new.self, c.step-answer.result) c.step-answer.ensures) open_yet (step-accepted c.args.c s within) c.requires.1),
      rw c.push_steps.ensures.events (steps_more s.journal 1 c.args.c c.requires.2 (omega arith)),
    )

pub returns-then-len-boot-clause-err : goal.returns-then-len-boot-clause-err
returns-then-len-boot-clause-err g c =
    let s : State = state_of c.args.boot.now c.args.journal.now c.args.board.now in
    let full : is_full s ≡ true = grind (arith, nat_tests, c.len.ensures.count) in
    step-full c.args.c s full

pub returns-then-c-processor_count-clause-err : goal.returns-then-c-processor_count-clause-err
returns-then-c-processor_count-clause-err g c =
    let s : State = state_of c.args.boot.now c.args.journal.now c.args.board.now in
    let open_yet : is_full s ≡ false = grind (arith, nat_tests, c.len.ensures.count) in
    let past : length s.board.parts.processors ≤ c.args.c = grind (arith, nat_tests, c.processor_count.ensures.count) in
    step-absent c.args.c s open_yet past
