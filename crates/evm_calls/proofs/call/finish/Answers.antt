use Rattle.evm_calls.proofs.Stamps.{stamps-left}
use Rattle.evm_calls.proofs.call.finish.Goals as goal

pub answer-requires : goal.answer-requires
answer-requires c = record {
  room = stamps-left c.args.call c.args.asked c.args.c c.args.t c.args.parts.now c.perform-outcome.new.parts c.perform-outcome.result c.requires.few c.requires.room c.requires.made c.perform-outcome.ensures;
}
