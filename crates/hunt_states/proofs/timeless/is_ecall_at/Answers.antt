use Rattle.std.proofs.Common.{sym, ◌∙◌, ap}
use Rattle.std.specs.Prelude.{option_copied}
use Rattle.evm_isa.specs.Decoded.{decoded}
use Rattle.evm_ram.proofs.Places.{read_at-inside, read_at-outside}
use Rattle.evm_ram.specs.declared.width.Width.TheVariants.{Word}
use Rattle.law_runs.specs.Timeless.{is_ecall_inst, is_ecall_word}
use Rattle.hunt_states.proofs.Words.{four-bytes}
use Rattle.hunt_states.proofs.timeless.is_ecall_at.Goals as goal

pub returns-in_default : goal.returns-in_default
returns-in_default g c =
    let outside = sym c.bytes.ensures ∙ ap option_copied c.in_default.is in
    ap is_ecall_word (sym (read_at-outside c.args.machine.now.board.memory.ram c.args.address Word outside))

pub word_of-requires : goal.word_of-requires
word_of-requires g c =
    four-bytes c.args.machine.now.board.memory.ram c.in-Some.bytes.now c.args.address (sym c.bytes.ensures ∙ ap option_copied c.in-Some.is)

pub returns : goal.returns
returns g c =
    let inside = sym c.bytes.ensures ∙ ap option_copied c.in-Some.is in
    c.is_ecall.ensures ∙ ap (λ word. is_ecall_inst (decoded word)) c.word_of.ensures
    ∙ ap is_ecall_word (sym (read_at-inside c.args.machine.now.board.memory.ram c.args.address Word c.in-Some.bytes.now inside))
