-- What receipts say of the lines that were taken.
use Rattle.std.specs.Prelude.{◌≡◌, ℕ, ◌*◌, ◌<◌, ◌≤◌, List, [], ◌∷◌}
use Rattle.evm_bells.specs.Batches.{count}
use Rattle.evm_bells.specs.Seats.{BellsValue, TakerValue}
use Rattle.evm_lines.specs.declared.TheConstants.{LINES}
use Rattle.evm_shared.specs.Ports.{PortValue}
use Rattle.evm_shared.specs.Workers.{WorkerValue}
use Rattle.claims_threads.specs.Lines.{in_receipts, is_bell, line_total, rings}

-- a port's receipts say of each line of each processor as many Bells as the taker has taken lines, and of all lines as many
-- as were made through the port
pub record SaysTaken (p : PortValue) (t : TakerValue) : Type 0 where
  pub lines : (c l : ℕ) → l < LINES → count t.taken c l ≡ in_receipts (rings c l) p.receipts
  pub bells : p.share.bells ≡ in_receipts is_bell p.receipts

-- each port does so of the taker of its place
abbrev pub SayTaken : List PortValue → List TakerValue → Type 0
SayTaken [] [] = Unit {0}
SayTaken (p ∷ ports) (t ∷ takers) = SaysTaken p t × SayTaken ports takers
SayTaken _ _ = ⊥

-- as many Bells were made through a port as the taker has taken lines, with receipts or without
abbrev pub MakesTaken : PortValue → TakerValue → Type 0
MakesTaken p t = p.share.bells ≡ line_total t.taken

-- likewise through each port, with the taker of its place
abbrev pub MakeTaken : List PortValue → List TakerValue → Type 0
MakeTaken [] [] = Unit {0}
MakeTaken (p ∷ ports) (t ∷ takers) = MakesTaken p t × MakeTaken ports takers
MakeTaken _ _ = ⊥

-- a worker's taker is of these bells, its port's receipts say what the taker has taken, and its port was made when the journal had
-- n events, or later
abbrev pub IsSaid : BellsValue → ℕ → WorkerValue → Type 0
IsSaid bells n w = (w.taker.bells ≡ bells.id) × SaysTaken w.port w.taker × (n ≤ w.port.since)

-- likewise, and the port has room for two receipts of each of some turns
abbrev pub IsSaidWithRoom : BellsValue → ℕ → ℕ → WorkerValue → Type 0
IsSaidWithRoom bells n turns w = IsSaid bells n w × (2 * turns ≤ w.port.room)
