use Rattle.evm_isa.proofs.Writing.{encoded_row}
use Rattle.evm_isa.proofs.Trips.{decoded_again}
use Rattle.evm_isa.proofs.encoding.encode.Goals as goal

pub returns-clause-table : goal.returns-clause-table
returns-clause-table c = λ w h. rw c.packed.ensures (encoded_row c.args.inst w h)

pub returns-clause-decodes : goal.returns-clause-decodes
returns-clause-decodes c = rw c.packed.ensures (decoded_again c.args.inst)
