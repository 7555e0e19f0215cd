use Rattle.std.proofs.Common.{◌≡◌, ◌+◌, ◌<◌, length, refl, sym, subst, take, arith}
use Rattle.std.proofs.lemmas.List.{get_or_read_under}
use Rattle.std.specs.Prelude.{All}
use Rattle.evm_shared.proofs.Tested.{says_no, upto_more}
use Rattle.evm_shared.proofs.Walks.{ArePassed, apart_between, apart_past, none_apart, not_apart, passed_more, passed_same}
use Rattle.evm_shared.specs.Cursors.{AreApartFrom}
use Rattle.evm_shared.specs.Receipts.{AreApart, IsBefore, made_events}
use Rattle.evm_shared.proofs.checking.first_shared.Goals.{then-event_count-ne0+else-next-others, else-next-others-via-then-next-others+else-not-is_before, else-next-others-via-else-next-others, else-event_count-ne0}
use Rattle.evm_shared.proofs.checking.first_shared.Goals as goal

pub first_not_before-next-requires-clause-passed : goal.first_not_before-next-requires-clause-passed
first_not_before-next-requires-clause-passed c =
    let i = c.loop-index.index in
    let x = c.index-receipts-index.result in
    subst (λ r. All (λ o. IsBefore o r) (take c.loop-index.next c.args.others.now)) (sym c.index-receipts-index.is) (c.loop-index.invariant.passed i x (omega arith) c.loop-index-test.true)

pub returns-then-not-is_before-clause-shared : goal.returns-then-not-is_before-clause-shared
returns-then-not-is_before-clause-shared c lt d all =
    let others = c.args.others.now in
    let receipts = c.args.receipts.now in
    let i = c.loop-index.index in
    let x = c.index-receipts-index.result in
    let o = c.index-others-next.result in
    let same = get_or_read_under receipts i (length receipts) x d c.index-receipts-index.is (omega (arith, lt, c.requires.limit)) refl in
    not_apart others c.first_not_before-next.result x o c.if-next-others.true c.index-others-next.is
    (λ before. c.first_not_before-next.ensures.next c.if-next-others.true o (subst (λ z. IsBefore z x) c.index-others-next.is before))
    (says_no c.is_before.result c.is_before.ensures c.if-not-is_before.true)
    (subst (λ r. All (λ z. AreApart z r) others) (sym same) all)

pub loop-index-preserved : goal.loop-index-preserved
loop-index-preserved c =
    let others = c.args.others.now in
    let receipts = c.args.receipts.now in
    let limit = c.args.limit in
    let i = c.loop-index.index in
    let inv = c.loop-index.invariant in
    let x = c.index-receipts-index.result in
    let low : i < length receipts = omega (arith, c.loop-index-test.true, c.requires.limit) in
    let more = upto_more (λ n r. All (λ o. AreApart o r) others) receipts i x low c.index-receipts-index.is in
    elim c.if-event_count-ne0.branch [
      | then-event_count-ne0+else-next-others w ↦
          let next = w.first_not_before-next.result in
          let passed = w.first_not_before-next.ensures.passed in
          let some : 0 < length (made_events x.made) = omega (arith, w.if-event_count-ne0.true, c.event_count.ensures) in record {
            within = omega (arith, w.next-is, w.first_not_before-next.ensures.within);
            apart = more (elim w.else-next-others.branch [
              | else-next-others-via-then-next-others+else-not-is_before v ↦
                  let o = v.index-others-next.result in
                  apart_between others next x o v.if-next-others.true v.index-others-next.is c.requires.rising.0 passed
                  (λ before. w.first_not_before-next.ensures.next v.if-next-others.true o (subst (λ z. IsBefore z x) v.index-others-next.is before))
                  (v.is_before.ensures.0 v.if-not-is_before.false)
              | else-next-others-via-else-next-others v ↦ apart_past others next x v.if-next-others.false passed
            ]) inv.apart;
            passed = subst (λ n. ArePassed others receipts n (i + 1) limit) (sym w.next-is) (passed_more others receipts next i limit x c.loop-index-test.true c.requires.limit c.index-receipts-index.is some c.requires.rising.1 passed);
          }
      | else-event_count-ne0 w ↦
          let none : length (made_events x.made) ≡ 0 = omega (arith, w.if-event_count-ne0.false, c.event_count.ensures) in record {
            within = omega (arith, w.next-is, inv.within);
            apart = more (none_apart others x none) inv.apart;
            passed = subst (λ n. ArePassed others receipts n (i + 1) limit) (sym w.next-is) (passed_same others receipts c.loop-index.next i limit inv.passed);
          }
    ]

pub returns-clause-apart : goal.returns-clause-apart
returns-clause-apart c =
    let end : c.loop-index.index ≡ c.args.limit = omega (arith, c.loop-index-test.false, c.loop-index.auto.index-end) in
    subst (AreApartFrom c.args.others.now c.args.receipts.now) end c.loop-index.invariant.apart
