use Rattle.std.proofs.Common.{◌≡◌, length, false}
use Rattle.evm_asm_lexer.specs.Text.{bad_token}
use Rattle.evm_asm_lexer.proofs.token.bad_token.Given as goal

abbrev pub invariant-loop-rest : goal.invariant-loop-rest
invariant-loop-rest l = bad_token l.inside l.rest ≡ bad_token false l.fn.text

abbrev pub decreases-loop-rest : goal.decreases-loop-rest
decreases-loop-rest l = length l.rest
