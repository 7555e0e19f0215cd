use Rattle.evm_isa.proofs.Reading.{decoded_row}
use Rattle.evm_isa.proofs.laws.decoded_by_table.Goals as goal

pub returns : goal.returns
returns c = decoded_row
