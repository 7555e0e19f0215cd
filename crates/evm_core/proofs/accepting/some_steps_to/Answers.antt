use Rattle.std.proofs.Common.{◌≡◌, ◌≤◌, ◌+◌, ◌<◌, ◌∙◌, ℕ, true, false, ap, length, arith}
use Rattle.std.proofs.lemmas.Bool.Decides.{nat_tests}
use Rattle.std.proofs.lemmas.List.{length-append, length-replicate}
use Rattle.evm_board.specs.Steps.{after_all_steps}
use Rattle.evm_model.specs.Refusals.{is_full}
use Rattle.evm_model.specs.State.{State}
use Rattle.evm_model.specs.declared.event.Event.TheVariants.{Step}
use Rattle.evm_core.specs.Parts.{state_of}
use Rattle.evm_core.proofs.Journaled.{steps_more}
use Rattle.evm_core.proofs.Many.{steps_made, made-board, steps-full, steps-absent, absent}
use Rattle.evm_core.proofs.Rules.{room-fits}
use Rattle.evm_core.proofs.accepting.some_steps_to.Goals as goal

pub steps-made-requires-clause-room : goal.steps-made-requires-clause-room
steps-made-requires-clause-room g c κs within = room-fits _ c.requires.parts.1

pub returns-clause-stays : goal.returns-clause-stays
returns-clause-stays g c =
    let s : State = state_of c.args.boot.now c.args.journal.now c.args.board.now in
    let n : ℕ = c.steps-made.result.count in
    let within : c.args.c < length s.board.parts.processors = grind (arith, nat_tests) in
    let some : n ≤ c.at_most.result = c.steps-made.ensures.fits in
    let fits : length s.journal + n ≤ s.boot.capacity = grind (arith, c.len.ensures.count, c.at_most.ensures.room) in
    let all = steps_made n c.args.c s c.requires.parts.1 within fits in
    let board : c.steps-made.new.self ≡ after_all_steps n c.args.c s.board = made-board n c.at_most.result c.args.c c.steps-made.result.answer s.board c.steps-made.new.self c.steps-made.ensures in
    let long = ap length c.push_steps.ensures.events ∙ length-append s.journal _ ∙ ap (λ n. length s.journal + n) (length-replicate n (Step c.args.c)) in
    (omega (arith, long, c.push_steps.ensures.room, c.requires.parts.0), rw (c.push_steps.ensures.events, board) all.1, rw c.push_steps.ensures.events (steps_more s.journal n c.args.c c.requires.parts.2 (omega arith)))

pub returns-clause-made : goal.returns-clause-made
returns-clause-made g c =
    let s : State = state_of c.args.boot.now c.args.journal.now c.args.board.now in
    let n : ℕ = c.steps-made.result.count in
    let within : c.args.c < length s.board.parts.processors = grind (arith, nat_tests) in
    let some : n ≤ c.at_most.result = c.steps-made.ensures.fits in
    let fits : length s.journal + n ≤ s.boot.capacity = grind (arith, c.len.ensures.count, c.at_most.ensures.room) in
    let all = steps_made n c.args.c s c.requires.parts.1 within fits in
    let board : c.steps-made.new.self ≡ after_all_steps n c.args.c s.board = made-board n c.at_most.result c.args.c c.steps-made.result.answer s.board c.steps-made.new.self c.steps-made.ensures in
    (c.steps-made.ensures.some, omega (arith, some, c.at_most.ensures.count), rw (c.push_steps.ensures.events, board) all.0)

pub returns-then-room-eq0-clause-made : goal.returns-then-room-eq0-clause-made
returns-then-room-eq0-clause-made g c =
    let s : State = state_of c.args.boot.now c.args.journal.now c.args.board.now in
    let full : is_full s ≡ true = grind (arith, nat_tests, c.len.ensures.count) in
    steps-full c.args.c c.args.most s c.requires.asked full

pub returns-then-c-processor_count-clause-made : goal.returns-then-c-processor_count-clause-made
returns-then-c-processor_count-clause-made g c =
    let s : State = state_of c.args.boot.now c.args.journal.now c.args.board.now in
    let open_yet : is_full s ≡ false = grind (arith, nat_tests, c.len.ensures.count) in
    let past : length s.board.parts.processors ≤ c.args.c = grind (arith, nat_tests, c.processor_count.ensures.count) in
    steps-absent c.args.c c.args.most s c.requires.asked open_yet (absent c.args.c s.board past)
