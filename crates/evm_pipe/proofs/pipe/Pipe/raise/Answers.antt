use Rattle.std.proofs.Common.{subst, sym}
use Rattle.evm_model.specs.Bounds.{COUNT_LIMIT, PipeUpTo}
use Rattle.evm_pipe.proofs.pipe.Pipe.raise.Goals as goal

pub raise_in-requires : goal.raise_in-requires
raise_in-requires c = (subst (PipeUpTo COUNT_LIMIT) (sym c.self.view_is) c.requires.room).lines c.args.line
