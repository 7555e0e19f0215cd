use Rattle.evm_isa.proofs.Trips.{encoded_by}
use Rattle.evm_isa.proofs.laws.encoded_by_table.Goals as goal

pub returns : goal.returns
returns c = encoded_by
