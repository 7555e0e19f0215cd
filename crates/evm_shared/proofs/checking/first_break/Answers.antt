use Rattle.std.proofs.Common.{◌≡◌, ◌<◌, ◌≤◌, inl, inr, length, sym, subst, take, get_or, arith}
use Rattle.std.specs.Prelude.{All}
use Rattle.evm_shared.proofs.Breaks.{broken, held}
use Rattle.evm_shared.proofs.Tested.{says_no}
use Rattle.evm_shared.specs.Checks.{ReceiptsHold, lent}
use Rattle.evm_shared.specs.Cursors.{AreApartFrom}
use Rattle.evm_shared.specs.Ports.{PortValue}
use Rattle.evm_shared.specs.Receipts.{AreApart, IsBefore}
use Rattle.evm_shared.specs.declared.receipt.Receipt.{Receipt}
use Rattle.evm_shared.proofs.checking.first_break.Goals as goal

pub first_shared_by_ports-index-requires-clause-rising : goal.first_shared_by_ports-index-requires-clause-rising
first_shared_by_ports-index-requires-clause-rising g c i d low =
    subst (λ rs. All (λ b. IsBefore b (get_or rs i d)) (take i rs)) (sym c.receipts-receipts.ensures) (c.first_untrue-untrue.ensures.turn i d low).rising

pub returns-then-index-receipts : goal.returns-then-index-receipts
returns-then-index-receipts g c =
    let s = c.args.machine.now in
    let p = c.args.port.now in
    let others = lent c.args.others.now in
    let n = c.first_shared_by_ports-index.result in
    let m = c.first_untrue-untrue.result in
    let here = c.first_shared_by_ports-index.ensures in
    let all = c.receipts-receipts.ensures in
    let shared = subst (λ rs. n < m → (d : Receipt) → All (λ (q : PortValue). All (λ o. AreApart o (get_or rs n d)) q.receipts) others → ⊥) all here.shared in (
      held s others p n m here.within c.first_untrue-untrue.ensures.turn (subst (λ rs. All (λ (q : PortValue). AreApartFrom q.receipts rs n) others) all here.apart),
      inl (broken s others p n m here.within (subst (λ rs. n < length rs) all c.if-index-receipts.true) shared c.first_untrue-untrue.ensures.untrue),
    )

pub returns-then-marks_are_true : goal.returns-then-marks_are_true
returns-then-marks_are_true g c =
    let s = c.args.machine.now in
    let p = c.args.port.now in
    let others = lent c.args.others.now in
    let n = c.first_shared_by_ports-index.result in
    let m = c.first_untrue-untrue.result in
    let here = c.first_shared_by_ports-index.ensures in
    let all = c.receipts-receipts.ensures in
    let high = subst (λ rs. length rs ≤ n) all c.if-index-receipts.false in
    let end : n ≡ length p.receipts = omega (arith, high, here.within, c.first_untrue-untrue.ensures.within) in record {
      receipts = subst (ReceiptsHold s others p) end (held s others p n m here.within c.first_untrue-untrue.ensures.turn (subst (λ rs. All (λ (q : PortValue). AreApartFrom q.receipts rs n) others) all here.apart));
      marks = c.marks_are_true.ensures.0 c.if-marks_are_true.true;
    }

pub returns-else-marks_are_true : goal.returns-else-marks_are_true
returns-else-marks_are_true g c =
    let s = c.args.machine.now in
    let p = c.args.port.now in
    let others = lent c.args.others.now in
    let n = c.first_shared_by_ports-index.result in
    let m = c.first_untrue-untrue.result in
    let here = c.first_shared_by_ports-index.ensures in
    let all = c.receipts-receipts.ensures in
    let high = subst (λ rs. length rs ≤ n) all c.if-index-receipts.false in
    let end : n ≡ length p.receipts = omega (arith, high, here.within, c.first_untrue-untrue.ensures.within) in (
      held s others p n m here.within c.first_untrue-untrue.ensures.turn (subst (λ rs. All (λ (q : PortValue). AreApartFrom q.receipts rs n) others) all here.apart),
      inr (end, says_no c.marks_are_true.result c.marks_are_true.ensures c.if-marks_are_true.false),
    )
