use Rattle.evm_board.proofs.Rooms.{notices-demote}
use Rattle.evm_board.proofs.instructions.fault.Goals as goal

pub notify-requires : goal.notify-requires
notify-requires c = record { room = rw c.demote.ensures.row (notices-demote c.args.c c.args.t _ c.requires.notices) }
