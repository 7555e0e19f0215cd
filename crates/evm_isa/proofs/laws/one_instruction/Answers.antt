use Rattle.evm_isa.proofs.Trips.{same_instruction}
use Rattle.evm_isa.proofs.laws.one_instruction.Goals as goal

pub returns : goal.returns
returns c = same_instruction
