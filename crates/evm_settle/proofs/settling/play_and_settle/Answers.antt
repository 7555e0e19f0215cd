use Rattle.evm_settle.proofs.Steps.{room-played}
use Rattle.evm_settle.proofs.settling.play_and_settle.Goals as goal

pub settle_played-requires-clause-room : goal.settle_played-requires-clause-room
settle_played-requires-clause-room c = rw c.play_oob_log-chooses.ensures.row (room-played _ _ _ c.requires.room)
