use Rattle.std.proofs.Common.{arith}
use Rattle.evm_bells.proofs.Counting.{counted_more, counted_nothing}
use Rattle.evm_bells.proofs.counts.LineCounts.add.Goals as goal

pub returns-then-word-ne0 : goal.returns-then-word-ne0
returns-then-word-ne0 c =
    counted_more c.args.self.now.rows c.plus_bits.result c.args.cpu c.args.word (omega arith) c.plus_bits.ensures

pub returns-else-word-ne0 : goal.returns-else-word-ne0
returns-else-word-ne0 c = counted_nothing c.args.self.now.rows c.args.cpu c.args.word c.if-word-ne0.false
