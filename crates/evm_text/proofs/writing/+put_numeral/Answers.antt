use Rattle.evm_text.proofs.Steps.{numeral_then, some_division}
use Rattle.evm_text.proofs.writing.+put_numeral.Goals as goal

pub returns-else-n-base-clause-value : goal.returns-else-n-base-clause-value
returns-else-n-base-clause-value t c =
    let large = c.if-n-base.false in
    let some = some_division c.args.base c.args.divisions c.args.n c.requires.fits large in
    rw (c.push-else-n-base.ensures.bytes, c.character-else-n-base.ensures.ascii, c.put_numeral.ensures.value) (numeral_then c.args.text.now.bytes c.args.base c.args.divisions c.args.n some large)
