use Rattle.std.proofs.Common.{◌≡◌, length}
use Rattle.evm_asm_lexer.specs.Text.{with_digits}
use Rattle.evm_asm_lexer.proofs.token.with_digits.Given as goal

abbrev pub invariant-loop-rest : goal.invariant-loop-rest
invariant-loop-rest l = with_digits l.base l.number l.rest ≡ with_digits l.base 0 l.fn.text

abbrev pub decreases-loop-rest : goal.decreases-loop-rest
decreases-loop-rest l = length l.rest
