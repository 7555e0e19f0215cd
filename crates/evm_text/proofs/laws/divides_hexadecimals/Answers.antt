use Rattle.evm_text.proofs.RoundTrips.{divides_hexadecimals}
use Rattle.evm_text.proofs.laws.divides_hexadecimals.Goals as goal

pub returns : goal.returns
returns c = divides_hexadecimals
