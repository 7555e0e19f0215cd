use Rattle.std.proofs.Common.{subst, sym}
use Rattle.evm_model.specs.Bounds.{COUNT_LIMIT, PipeUpTo}
use Rattle.evm_pipe.proofs.pipe.Pipe.leave_wire.Goals as goal

pub receive_in-requires : goal.receive_in-requires
receive_in-requires c = (subst (PipeUpTo COUNT_LIMIT) (sym c.self.view_is) c.requires.room).lines c.args.line
