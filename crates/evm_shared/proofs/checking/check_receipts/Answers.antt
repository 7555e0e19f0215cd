use Rattle.std.proofs.Common.{◌<◌, length, refl, subst, sym, take}
use Rattle.std.proofs.lemmas.List.{get_or_read_under, length-map}
use Rattle.std.specs.Prelude.{All}
use Rattle.evm_shared.proofs.Breaks.{rising_ports}
use Rattle.evm_shared.specs.Cursors.{AreRising}
use Rattle.evm_shared.specs.Ports.{PortValue}
use Rattle.evm_shared.specs.Checks.{IsFirstBreak, PortHolds, lent}
use Rattle.evm_shared.proofs.Tested.{lent_read, lent_take, upto_more}
use Rattle.evm_shared.proofs.checking.check_receipts.Goals as goal

pub loop-port-preserved : goal.loop-port-preserved
loop-port-preserved g c =
    let ports = c.args.ports.now in
    let i = c.loop-port.port in
    let p = c.index-ports-port.result in
    let lt : i < length (lent ports) = rw (length-map ports (λ q. q.now)) c.loop-port-test.true in
    upto_more (λ n x. PortHolds c.args.machine.now (take n (lent ports)) x) (lent ports) i p.now lt
    (lent_read ports i p c.loop-port-test.true c.index-ports-port.is)
    (subst (λ others. PortHolds c.args.machine.now others p.now) (lent_take ports i) c.in_default.ensures)
    c.loop-port.invariant

pub returns-in-Some : goal.returns-in-Some
returns-in-Some g c =
    let ports = c.args.ports.now in
    let i = c.loop-port.port in
    let p = c.index-ports-port.result in
    let lt : i < length (lent ports) = rw (length-map ports (λ q. q.now)) c.loop-port-test.true in
    let is = lent_read ports i p c.loop-port-test.true c.index-ports-port.is in
    let here = subst (λ others. IsFirstBreak c.args.machine.now others p.now c.in-Some.index) (lent_take ports i) c.in-Some.ensures in
    (lt, c.loop-port.invariant, λ d. subst (λ x. IsFirstBreak c.args.machine.now (take i (lent ports)) x c.in-Some.index) (get_or_read_under (lent ports) i (length (lent ports)) p.now d is lt refl) here)

pub first_break-requires-after_bounds : goal.first_break-requires-after_bounds
first_break-requires-after_bounds g c κs within =
    let ports = c.args.ports.now in
    let i = c.loop-port.port in
    subst (All (λ (p : PortValue). AreRising p.receipts (length p.receipts))) (sym (lent_take ports i)) (rising_ports c.args.machine.now (lent ports) i c.loop-port.invariant)
