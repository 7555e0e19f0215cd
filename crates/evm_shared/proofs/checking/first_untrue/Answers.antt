use Rattle.std.proofs.Common.{◌≡◌, ◌+◌, ◌<◌, length, refl, sym, subst, take, get_or}
use Rattle.std.proofs.lemmas.List.{get_or_read_under}
use Rattle.evm_shared.proofs.Tested.{upto_more}
use Rattle.evm_shared.proofs.Walks.{all_behind, behind_all, end_more}
use Rattle.evm_shared.specs.Cursors.{IsEnd, IsInTurn}
use Rattle.evm_shared.specs.Receipts.{IsTrueReceipt}
use Rattle.evm_shared.proofs.checking.first_untrue.Goals as goal

pub returns-in_default-clause-untrue : goal.returns-in_default-clause-untrue
returns-in_default-clause-untrue g c lt d turn =
    let journal = c.args.machine.now.journal in
    let p = c.args.port.now in
    let i = c.loop-index.index in
    let x = c.index-receipts-index.result in
    let is : x ≡ get_or p.receipts i x = subst (λ rs. x ≡ get_or rs i x) c.receipts-receipts.ensures c.index-receipts-index.is in
    let same = get_or_read_under p.receipts i (length p.receipts) x d is lt refl in
    let own : IsInTurn journal p i x = subst (IsInTurn journal p i) (sym same) turn in
    c.in_default.ensures.some (subst (λ n. IsTrueReceipt journal n x) (sym c.since.ensures) own.correct) (all_behind (take i p.receipts) c.loop-index.walk.end x c.loop-index.invariant.end own.rising)

pub loop-index-preserved : goal.loop-index-preserved
loop-index-preserved g c =
    let journal = c.args.machine.now.journal in
    let p = c.args.port.now in
    let i = c.loop-index.index in
    let x = c.index-receipts-index.result in
    let inv = c.loop-index.invariant in
    let lt : i < length p.receipts = subst (λ rs. i < length rs) c.receipts-receipts.ensures c.loop-index-test.true in
    let is : x ≡ get_or p.receipts i x = subst (λ rs. x ≡ get_or rs i x) c.receipts-receipts.ensures c.index-receipts-index.is in
    let own = c.in-Some.ensures.some in
    let turn : IsInTurn journal p i x = record { correct = subst (λ n. IsTrueReceipt journal n x) c.since.ensures own.0; rising = behind_all (take i p.receipts) c.loop-index.walk.end x inv.end own.1 } in record {
      turn = upto_more (IsInTurn journal p) p.receipts i x lt is turn inv.turn;
      walk = c.in-Some.ensures.walk.0;
      end = subst (IsEnd (take (i + 1) p.receipts)) (sym c.in-Some.ensures.walk.1) (end_more p.receipts i c.loop-index.walk.end x lt is inv.end own.1);
    }
