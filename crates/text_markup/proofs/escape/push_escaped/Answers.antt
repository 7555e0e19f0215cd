use Rattle.std.proofs.Common.{arith}
use Rattle.text_markup.proofs.Lemmas.{escaped-more}
use Rattle.text_markup.proofs.escape.push_escaped.Goals as goal

pub loop-byte-preserved : goal.loop-byte-preserved
loop-byte-preserved c =
    escaped-more c.as_bytes-byte-items.result.now c.loop-byte.byte-index _ _ _ (omega arith) c.loop-byte.invariant c.in_ok-push_one.ensures
