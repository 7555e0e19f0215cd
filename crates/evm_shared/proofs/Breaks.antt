-- What holds of a port's receipts, put together of their truth and of their positions.
use Rattle.std.proofs.Common.{◌≡◌, ℕ, ◌<◌, ◌≤◌, ⊎_elim, List, length, take, get_or, sym, subst, arith}
use Rattle.std.proofs.lemmas.List.{get_or-take, length-take}
use Rattle.std.specs.Prelude.{All}
use Rattle.evm_model.specs.State.{State}
use Rattle.evm_shared.proofs.Walks.{le_or_lt}
use Rattle.evm_shared.specs.Checks.{PortsHold, ReceiptBreaks, ReceiptsHold}
use Rattle.evm_shared.specs.Cursors.{AreApartFrom, AreInTurn, AreRising, IsInTurn}
use Rattle.evm_shared.specs.Ports.{PortValue}
use Rattle.evm_shared.specs.Receipts.{AreApart}
use Rattle.evm_shared.specs.declared.receipt.Receipt.{Receipt}

pub held : (s : State) (others : List PortValue) (p : PortValue) (n m : ℕ) → n ≤ m → AreInTurn s.journal p m → All (λ (q : PortValue). AreApartFrom q.receipts p.receipts n) others → ReceiptsHold s others p n
held s others p n m within turn apart i d low =
    let own = turn i d (omega arith) in
    record { correct = own.correct; rising = own.rising; apart = λ k q lt. apart k q lt i d low }

pub broken : (s : State) (others : List PortValue) (p : PortValue) (n m : ℕ) → n ≤ m → n < length p.receipts
    → (n < m → (d : Receipt) → All (λ (q : PortValue). All (λ o. AreApart o (get_or p.receipts n d)) q.receipts) others → ⊥)
    → (m < length p.receipts → (d : Receipt) → IsInTurn s.journal p m (get_or p.receipts m d) → ⊥) → ReceiptBreaks s others p n
broken s others p n m within lt shared untrue = (
  lt,
  λ d h. ⊎_elim
      (λ no_less.
      let same : n ≡ m = omega (arith, within, no_less) in
      let turn : IsInTurn s.journal p n (get_or p.receipts n d) = record { correct = h.correct; rising = h.rising } in
      untrue (omega (arith, lt, same)) d (subst (λ k. IsInTurn s.journal p k (get_or p.receipts k d)) same turn))
      (λ below. shared below d h.apart)
      (le_or_lt m n),
)

-- the positions of ports that hold rise
pub rising_ports : (s : State) (ports : List PortValue) (n : ℕ) → PortsHold s ports n → All (λ (p : PortValue). AreRising p.receipts (length p.receipts)) (take n ports)
rising_ports s ports n hold k d lt =
    let below : k < n = omega (arith, lt, length-take n ports) in
    subst (λ (p : PortValue). AreRising p.receipts (length p.receipts)) (sym (get_or-take n ports k d below)) (λ i e low. ((hold k d below).receipts i e low).rising)
