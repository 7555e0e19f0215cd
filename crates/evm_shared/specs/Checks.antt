-- Which ports have true receipts and marks alone, and which is the first that is not true.
use Rattle.std.specs.Prelude.{◌≡◌, ℕ, ◌+◌, ◌<◌, ◌≤◌, ◌⊎◌, true, All, List, length, map, take, slice_index_or}
use Rattle.std.specs.Borrow.{Bor}
use Rattle.evm_lines.specs.declared.TheConstants.{LINES}
use Rattle.evm_model.specs.State.{State}
use Rattle.evm_shared.specs.Ports.{PortValue}
use Rattle.evm_shared.specs.Receipts.{AreApart, IsBefore, IsTrueReceipt}
use Rattle.evm_shared.specs.declared.checking.Mismatch.{Mismatch}
use Rattle.evm_shared.specs.declared.receipt.Receipt.{Receipt}

-- a receipt is true, its positions are behind those of the receipts before it in its port, and no receipt of other ports has one of them
pub record IsProper (s : State) (others : List PortValue) (before : List Receipt) (since : ℕ) (r : Receipt) : Type 0 where
  pub correct : IsTrueReceipt s.journal since r
  pub rising : All (λ b. IsBefore b r) before
  pub apart : All (λ p. All (λ o. AreApart o r) p.receipts) others

-- a mark that is on is true: full where the machine has no room, short where it has room for fewer events than there are lines
pub record AreTrueMarks (s : State) (p : PortValue) : Type 0 where
  pub full : p.full ≡ true → s.boot.capacity ≤ length s.journal
  pub short : p.short ≡ true → s.boot.capacity < length s.journal + LINES

-- the first n receipts of a port hold, each beside those before it
abbrev pub ReceiptsHold : State → List PortValue → PortValue → ℕ → Type 0
ReceiptsHold s others p n = (i : ℕ) (d : Receipt) → i < n → IsProper s others (take i p.receipts) p.since (slice_index_or p.receipts i d)

-- a port holds: its receipts, and behind them its marks
pub record PortHolds (s : State) (others : List PortValue) (p : PortValue) : Type 0 where
  pub receipts : ReceiptsHold s others p (length p.receipts)
  pub marks : AreTrueMarks s p

-- the first n ports hold, each beside those before it
abbrev pub PortsHold : State → List PortValue → ℕ → Type 0
PortsHold s ports n = (i : ℕ) (d : PortValue) → i < n → PortHolds s (take i ports) (slice_index_or ports i d)

-- a receipt of a port does not hold
abbrev pub ReceiptBreaks : State → List PortValue → PortValue → ℕ → Type 0
ReceiptBreaks s others p index = (index < length p.receipts) × ((d : Receipt) → IsProper s others (take index p.receipts) p.since (slice_index_or p.receipts index d) → ⊥)

-- a mark of a port is not true; its index comes behind the last receipt
abbrev pub MarkBreaks : State → PortValue → ℕ → Type 0
MarkBreaks s p index = (index ≡ length p.receipts) × (AreTrueMarks s p → ⊥)

-- the first place of a port that does not hold
abbrev pub IsFirstBreak : State → List PortValue → PortValue → ℕ → Type 0
IsFirstBreak s others p index = ReceiptsHold s others p index × (ReceiptBreaks s others p index ⊎ MarkBreaks s p index)

-- the first place of all ports that does not hold, by port, then by index
abbrev pub IsFirstMismatch : State → List PortValue → Mismatch → Type 0
IsFirstMismatch s ports m = (m.port < length ports) × PortsHold s ports m.port × ((d : PortValue) → IsFirstBreak s (take m.port ports) (slice_index_or ports m.port d) m.index)

-- the ports behind their references
abbrev pub lent : List (Bor PortValue) → List PortValue
lent ports = map (λ p. p.now) ports
