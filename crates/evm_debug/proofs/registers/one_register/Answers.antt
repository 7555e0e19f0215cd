use Rattle.std.proofs.Common.{◌∙◌, refl}
use Rattle.evm_journal.proofs.evm_text.WordDigits.{word_digits}
use Rattle.evm_debug.proofs.RegisterText.{two_figures}
use Rattle.evm_debug.proofs.registers.one_register.Goals as goal

pub returns : goal.returns
returns c =
    let word = c.hexadecimal_word.ensures ∙ word_digits c.args.value in
    let digits = word_digits c.args.value in
    let number = two_figures c.args.r c.requires in
    rw (word, number, digits) refl
