use Rattle.std.proofs.Common.{true, false, subst, sym}
use Rattle.evm_model.specs.Bounds.{STAMPS_PER_EVENT, HasRoom}
use Rattle.evm_model.specs.Good.{Good}
use Rattle.evm_model.specs.State.{Board}
use Rattle.evm_board.proofs.Rooms.{room-bits}
use Rattle.evm_board.proofs.Steps.{good-go}
use Rattle.evm_board.proofs.board.Board.single_step.Goals as goal

pub step-answer-requires-clause-good : goal.step-answer-requires-clause-good
step-answer-requires-clause-good g c κs within =
    rw c.set_bits.ensures (good-go c.args.c c.self.inside.parts (subst (λ (b : Board). Good b.parts) (sym c.self.view_is) c.requires.good))

pub step-answer-requires-clause-room : goal.step-answer-requires-clause-room
step-answer-requires-clause-room g c κs within =
    rw c.set_bits.ensures (room-bits c.args.c false true c.self.inside.parts (subst (λ (b : Board). HasRoom STAMPS_PER_EVENT b.parts) (sym c.self.view_is) c.requires.room))
