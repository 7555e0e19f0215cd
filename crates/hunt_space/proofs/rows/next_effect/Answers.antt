use Rattle.std.proofs.Common.{sym, ◌∙◌, ap}
use Rattle.std.specs.Prelude.{option_copied}
use Rattle.evm_isa.specs.Decoded.{decoded}
use Rattle.evm_ram.proofs.Places.{read_at-inside, read_at-outside}
use Rattle.evm_ram.specs.declared.width.Width.TheVariants.{Word}
use Rattle.hunt_space.specs.Effects.{effect_of_inst, effect_of_word}
use Rattle.hunt_states.proofs.Words.{four-bytes}
use Rattle.hunt_space.proofs.rows.next_effect.Goals as goal

pub returns-in_default : goal.returns-in_default
returns-in_default c =
    let hart = c.args.hart.now in
    let outside = sym c.bytes.ensures ∙ ap option_copied c.in_default.is in
    ap (λ word. effect_of_word word hart) (sym (read_at-outside c.args.machine.now.board.memory.ram hart.pc Word outside))

pub word_of-requires : goal.word_of-requires
word_of-requires c = four-bytes c.args.machine.now.board.memory.ram c.in-Some.bytes.now c.args.hart.now.pc (sym c.bytes.ensures ∙ ap option_copied c.in-Some.is)

pub returns : goal.returns
returns c =
    let hart = c.args.hart.now in
    let inside = sym c.bytes.ensures ∙ ap option_copied c.in-Some.is in
    c.effect_of.ensures ∙ ap (λ word. effect_of_inst (decoded word) hart) c.word_of.ensures ∙ ap (λ word. effect_of_word word hart) (sym (read_at-inside c.args.machine.now.board.memory.ram hart.pc Word c.in-Some.bytes.now inside))
