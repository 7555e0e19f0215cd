use Rattle.evm_board.proofs.Rooms.{room-fault}
use Rattle.evm_board.proofs.instructions.fault_and_settle.Goals as goal

pub settle_and_nudge-requires-clause-room : goal.settle_and_nudge-requires-clause-room
settle_and_nudge-requires-clause-room c = rw c.fault.ensures (room-fault c.args.c c.args.t c.args.reason c.args.parts.now c.requires.few c.requires.room)
