use Rattle.evm_text.proofs.RoundTrips.{divides_decimals}
use Rattle.evm_text.proofs.laws.divides_decimals.Goals as goal

pub returns : goal.returns
returns c = divides_decimals
