use Rattle.std.proofs.Common.{subst, sym}
use Rattle.std.proofs.lemmas.List.{length-map}
use Rattle.evm_shared.specs.Checks.{PortsHold, lent}
use Rattle.claims_threads.proofs.Bells.{each_bell}
use Rattle.claims_threads.proofs.rings.checked_receipts_have_each_bell.Goals as goal

pub returns-in-Ok-clause-lines : goal.returns-in-Ok-clause-lines
returns-in-Ok-clause-lines g c on all p l =
    let ports = c.args.ports.now in
    let holds = subst (λ n. PortsHold c.args.machine.now (lent ports) n) (sym (length-map ports (λ q. q.now))) c.in-Ok.ensures in
    each_bell c.args.machine.now (lent ports) holds all p l
