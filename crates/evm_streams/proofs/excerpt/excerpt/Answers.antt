use Rattle.std.proofs.Common.{sym, arith, length-take-le}
use Rattle.evm_streams.proofs.excerpt.excerpt.Goals as goal

pub slice_bounds-result-end : goal.slice_bounds-result-end
slice_bounds-result-end c = sym (length-take-le 60 c.args.word.now (omega (arith, c.if-word-gt-EXCERPT_LIMIT.true)))
