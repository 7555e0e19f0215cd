use Rattle.std.proofs.Common.{◌≡◌, length}
use Rattle.evm_text.specs.Reading.{number_on}
use Rattle.evm_text.proofs.reading.number_on.Given as goal

abbrev pub invariant-loop-rest : goal.invariant-loop-rest
invariant-loop-rest l = number_on l.base l.number l.rest ≡ number_on l.base l.first l.bytes

abbrev pub decreases-loop-rest : goal.decreases-loop-rest
decreases-loop-rest l = length l.rest
