use Rattle.evm_board.proofs.Rooms.{room-call}
use Rattle.evm_board.proofs.instructions.call_and_settle.Goals as goal

pub settle_and_nudge-requires-clause-room : goal.settle_and_nudge-requires-clause-room
settle_and_nudge-requires-clause-room c = rw c.call.ensures (room-call c.args.c c.args.t c.args.parts.now c.requires.few c.requires.room)
