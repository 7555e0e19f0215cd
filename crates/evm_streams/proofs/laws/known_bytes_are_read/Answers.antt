use Rattle.evm_streams.proofs.KnownBytes.{reads_known}
use Rattle.evm_streams.proofs.laws.known_bytes_are_read.Goals as goal

pub returns : goal.returns
returns g c = reads_known g.R.Read.remaining
