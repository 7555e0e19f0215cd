use Rattle.evm_streams.specs.Known.{trusted_write}
use Rattle.evm_streams.proofs.adapters.AnySink.write.Goals as goal

pub returns-in-Ok-clause-call : goal.returns-in-Ok-clause-call
returns-in-Ok-clause-call g c = trusted_write _ _ _ _ _ c.in-Ok.ensures.bytes

pub returns-in-Err-clause-call : goal.returns-in-Err-clause-call
returns-in-Err-clause-call g c = trusted_write _ _ _ _ _ c.in-Err.ensures.bytes
