use Rattle.std.proofs.Common.{◌≡◌, ◌<◌, ⊎_elim, length, sym, subst, get_or, arith}
use Rattle.std.proofs.lemmas.List.{length-map}
use Rattle.std.specs.Prelude.{All}
use Rattle.evm_shared.proofs.Tested.{all_done, all_more, lent_read}
use Rattle.evm_shared.proofs.Walks.{le_or_lt}
use Rattle.evm_shared.specs.Checks.{lent}
use Rattle.evm_shared.specs.Cursors.{AreApartFrom, AreRising}
use Rattle.evm_shared.specs.Ports.{PortValue}
use Rattle.evm_shared.specs.Receipts.{AreApart}
use Rattle.evm_shared.proofs.checking.first_shared_by_ports.Goals as goal

pub first_shared-index-requires-clause-rising : goal.first_shared-index-requires-clause-rising
first_shared-index-requires-clause-rising g c =
    let others = c.args.others.now in
    let i = c.loop-other.other-index in
    let p = c.other-item.result in
    let lt : i < length (lent others) = rw (length-map others (λ q. q.now)) c.loop-other-test.true in
    let own : AreRising p.now.receipts (length p.now.receipts) = subst (λ (q : PortValue). AreRising q.receipts (length q.receipts)) (sym (lent_read others i p c.loop-other-test.true c.other-item.is)) (c.requires.others i p.now lt) in (
      subst (λ rs. AreRising rs (length rs)) (sym c.receipts.ensures) own,
      λ n d low. c.requires.rising n d (omega (arith, low, c.loop-other.invariant.within)),
    )

pub loop-other-preserved : goal.loop-other-preserved
loop-other-preserved g c =
    let others = c.args.others.now in
    let receipts = c.args.receipts.now in
    let i = c.loop-other.other-index in
    let p = c.other-item.result in
    let inv = c.loop-other.invariant in
    let n = c.first_shared-index.result in
    let lt : i < length (lent others) = rw (length-map others (λ q. q.now)) c.loop-other-test.true in
    let is = lent_read others i p c.loop-other-test.true c.other-item.is in
    let here = subst (λ rs. AreApartFrom rs receipts n) c.receipts.ensures c.first_shared-index.ensures.apart in record {
      within = omega (arith, c.first_shared-index.ensures.within, inv.within);
      apart = all_more (λ (q : PortValue). AreApartFrom q.receipts receipts n) (lent others) i p.now lt is here (λ k d under j e low. inv.apart k d under j e (omega (arith, low, c.first_shared-index.ensures.within)));
      shared = λ less d all.
          ⊎_elim
          (λ no_less.
          let same : n ≡ c.loop-other.index = omega (arith, no_less, c.first_shared-index.ensures.within) in
          inv.shared (omega (arith, less, same)) d (subst (λ k. All (λ (q : PortValue). All (λ o. AreApart o (get_or receipts k d)) q.receipts) (lent others)) same all))
          (λ below.
          c.first_shared-index.ensures.shared below d
          (subst (λ rs. All (λ o. AreApart o (get_or receipts n d)) rs) (sym c.receipts.ensures)
          (subst (λ (q : PortValue). All (λ o. AreApart o (get_or receipts n d)) q.receipts) (sym is) (all i p.now lt))))
          (le_or_lt c.loop-other.index n);
    }

pub returns-clause-apart : goal.returns-clause-apart
returns-clause-apart g c =
    let others = c.args.others.now in
    let end : c.loop-other.other-index ≡ length (lent others) = omega (arith, c.loop-other-test.false, c.loop-other.auto.other-index-end, length-map others (λ q. q.now)) in
    all_done (λ (q : PortValue). AreApartFrom q.receipts c.args.receipts.now c.loop-other.index) (lent others) c.loop-other.other-index end c.loop-other.invariant.apart
