use Rattle.evm_streams.proofs.KnownBytes.{writes_known}
use Rattle.evm_streams.proofs.laws.known_bytes_are_written.Goals as goal

pub returns : goal.returns
returns g c = writes_known g.W.Write.contents
