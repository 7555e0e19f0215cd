use Rattle.std.proofs.Common.{refl}
use Rattle.evm_isa.specs.Encoded.{encoded, i_bits}
use Rattle.claims_texts.proofs.words.nops_are_addi.Goals as goal

pub returns : goal.returns
unfolding encoded i_bits
returns c = refl
