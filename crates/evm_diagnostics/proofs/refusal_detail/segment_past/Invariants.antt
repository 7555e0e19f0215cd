use Rattle.std.proofs.Common.{length}
use Rattle.evm_diagnostics.proofs.refusal_detail.segment_past.Given as goal

abbrev pub decreases-segments : goal.decreases-segments
decreases-segments l = length l.rest
