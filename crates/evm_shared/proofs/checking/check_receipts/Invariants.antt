use Rattle.evm_shared.specs.Checks.{PortsHold, lent}
use Rattle.evm_shared.proofs.checking.check_receipts.Given as goal

abbrev pub invariant-loop-port : goal.invariant-loop-port
invariant-loop-port g l = PortsHold l.machine (lent l.ports) l.port
