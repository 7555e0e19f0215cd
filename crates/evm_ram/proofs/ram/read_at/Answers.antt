use Rattle.std.proofs.Common.{◌∙◌, sym, ap, Some}
use Rattle.evm_ram.proofs.Places.{read_at-outside, read_at-inside}
use Rattle.evm_ram.specs.Ram.{bytes_at}
use Rattle.evm_ram.proofs.ram.read_at.Goals as goal

pub returns-in_err-bytes-clause-value : goal.returns-in_err-bytes-clause-value
returns-in_err-bytes-clause-value c =
    let count = ap (bytes_at c.args.ram.now c.args.address) c.bytes.ensures in
    c.from_residual.ensures ∙ sym (read_at-outside _ _ _ (sym count ∙ sym c.in_err-bytes.ensures.found))

pub returns-clause-value : goal.returns-clause-value
returns-clause-value c =
    let count = ap (bytes_at c.args.ram.now c.args.address) c.bytes.ensures in
    ap Some c.number.ensures.value ∙ sym (read_at-inside _ _ _ _ (sym count ∙ sym c.in_ok-bytes.ensures.found))
