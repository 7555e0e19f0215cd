use Rattle.std.proofs.Common.{◌≡◌, [], length}
use Rattle.evm_text.specs.Reading.{pairs_on}
use Rattle.evm_text.proofs.reading.pairs_on.Given as goal

abbrev pub invariant-loop-rest : goal.invariant-loop-rest
invariant-loop-rest l = pairs_on l.pairs.items l.rest ≡ pairs_on [] l.bytes

abbrev pub decreases-loop-rest : goal.decreases-loop-rest
decreases-loop-rest l = length l.rest
