use Rattle.std.proofs.Common.{subst, sym}
use Rattle.evm_model.specs.Bounds.{COUNT_LIMIT, PipeUpTo}
use Rattle.evm_pipe.proofs.pipe.Pipe.arrive.Goals as goal

pub arrive_in-requires : goal.arrive_in-requires
arrive_in-requires c = (subst (PipeUpTo COUNT_LIMIT) (sym c.self.view_is) c.requires.room).lines c.args.line

pub arrive_in-requires-in-InBand : goal.arrive_in-requires-in-InBand
arrive_in-requires-in-InBand c = (subst (PipeUpTo COUNT_LIMIT) (sym c.self.view_is) c.requires.room).lines c.args.line
