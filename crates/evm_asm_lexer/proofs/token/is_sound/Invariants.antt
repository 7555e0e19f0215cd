use Rattle.std.proofs.Common.{◌≡◌, length, false}
use Rattle.evm_asm_lexer.specs.Text.{is_sound}
use Rattle.evm_asm_lexer.proofs.token.is_sound.Given as goal

abbrev pub invariant-loop-rest : goal.invariant-loop-rest
invariant-loop-rest l = is_sound l.inside l.rest ≡ is_sound false l.fn.text

abbrev pub decreases-loop-rest : goal.decreases-loop-rest
decreases-loop-rest l = length l.rest
