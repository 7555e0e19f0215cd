-- One more operand of a list.
use Rattle.std.proofs.Common.{◌≡◌, ℕ, suc, ◌-◌, ◌<◌, ◌≤◌, ◌+◌, List, ap, arith}
use Rattle.evm_asm_lexer.specs.declared.mnemonic.DataWidth.{DataWidth}
use Rattle.evm_asm_parser.specs.Statements.{StatementReading, with_data, also}
use Rattle.evm_asm_parser.specs.Operands.{Spots, first_operand, other_operands, datum_in}

pub with_data-more : (labels : Spots) (width : DataWidth) (count i : ℕ) (reading : StatementReading) (text : List ℕ) → i < count →
    with_data labels width (count - i) reading text ≡ with_data labels width (count - (i + 1)) (also reading (datum_in labels width (first_operand text))) (other_operands text)
unfolding with_data
with_data-more labels width count i reading text h =
    let e : count - i ≡ suc (count - (i + 1)) = omega arith in
    ap (λ n. with_data labels width n reading text) e

pub with_data-done : (labels : Spots) (width : DataWidth) (count i : ℕ) (reading : StatementReading) (text : List ℕ) → count ≤ i →
    with_data labels width (count - i) reading text ≡ reading
unfolding with_data
with_data-done labels width count i reading text h =
    let e : count - i ≡ 0 = omega arith in
    ap (λ n. with_data labels width n reading text) e
