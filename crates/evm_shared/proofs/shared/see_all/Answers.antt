use Rattle.std.proofs.Common.{◌≡◌, length, subst, take, arith}
use Rattle.std.specs.Prelude.{All}
use mathlib.Core.List.{IsPrefix}
use Rattle.evm_shared.proofs.Histories.{prefix_trans}
use Rattle.evm_shared.proofs.Tested.{all_done, all_more}
use Rattle.evm_shared.specs.Ports.{PortValue}
use Rattle.evm_shared.proofs.shared.see_all.Goals as goal

pub loop-port-preserved : goal.loop-port-preserved
loop-port-preserved g c =
    let i = c.loop-port.invariant in
    let P : PortValue → Type 0 = λ p. IsPrefix p.log c.learn.new.self in
    let before : All P (take c.loop-port.port-index c.args.ports.now) = λ k d low. prefix_trans _ c.loop-port.sight c.learn.new.self (i.all k d low) c.learn.ensures.more in
    let here : P c.port-item.result = subst P c.port.view_is c.learn.ensures.log in record {
      more = prefix_trans _ c.loop-port.sight c.learn.new.self i.more c.learn.ensures.more;
      all = all_more P c.args.ports.now c.loop-port.port-index c.port-item.result c.loop-port-test.true c.port-item.is here before;
    }

pub returns-clause-all : goal.returns-clause-all
returns-clause-all g c =
    let end : c.loop-port.port-index ≡ length c.args.ports.now = omega (arith, c.loop-port.auto.port-index-end, c.loop-port-test.false) in
    all_done (λ (p : PortValue). IsPrefix p.log c.loop-port.sight) c.args.ports.now c.loop-port.port-index end c.loop-port.invariant.all
