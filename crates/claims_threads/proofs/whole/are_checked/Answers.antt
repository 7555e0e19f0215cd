use Rattle.std.proofs.Common.{length, subst, sym}
use Rattle.std.proofs.lemmas.List.{length-map}
use Rattle.evm_shared.specs.Checks.{PortsHold, lent}
use Rattle.claims_threads.proofs.whole.are_checked.Goals as goal

pub returns-in-Ok : goal.returns-in-Ok
returns-in-Ok g c on =
    let refs = c.in-Some.refs.items in
    let here = subst (λ xs. PortsHold c.args.machine.now (lent xs) (length xs)) c.as_slice.ensures.value c.in-Ok.ensures in
    let counted = subst (λ n. PortsHold c.args.machine.now (lent refs) n) (sym (length-map refs (λ q. q.now))) here in
    subst (λ ports. PortsHold c.args.machine.now ports (length ports)) c.in-Some.ensures counted
