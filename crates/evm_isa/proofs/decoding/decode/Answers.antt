use Rattle.std.proofs.Common.{arith}
use Rattle.evm_isa.proofs.Reading.{decoded_row}
use Rattle.evm_isa.proofs.decoding.decode.Goals as goal

pub returns-clause-table : goal.returns-clause-table
returns-clause-table c = λ i. rw c.switch.ensures (decoded_row c.args.word i (omega arith))
