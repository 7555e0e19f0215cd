-- Room for counts after an access, which raises one line at most.
use Rattle.std.proofs.Common.{◌≡◌, ℕ, ◌+◌, ◌-◌, ◌≤◌, Option, Some, None, refl, arith}
use Rattle.evm_exec.specs.declared.hart.Hart.{Hart}
use Rattle.evm_lines.specs.declared.TheConstants.{LINES}
use Rattle.evm_model.specs.Bounds.{COUNT_LIMIT, PER_SETTLING, STAMPS_PER_EVENT, HasRoom, HasStamps, PipesUpTo}
use Rattle.evm_model.specs.Devices.{raise_line}
use Rattle.evm_model.specs.State.{Parts, on_hart}
use Rattle.law_rules.proofs.Walk.{AreFew}
use Rattle.law_rules.proofs.Bounded.{AreWithin, within-more, within-raise}
use Rattle.evm_board.proofs.Rooms.{room-raise}

-- a line of a device
within-line : (b : ℕ) (line : Option ℕ) (k : Parts) → AreWithin b k → AreWithin (b + 1) (raise_line line k)
within-line b None k w = within-more b (b + 1) k (omega arith) w
within-line b (Some l) k w = within-raise b 0 l k w

line-stamps : (line : Option ℕ) (k : Parts) → (raise_line line k).stamps ≡ k.stamps
line-stamps None k = refl
line-stamps (Some l) k = refl

pub line-ticks : (line : Option ℕ) (k : Parts) → (raise_line line k).ticks ≡ k.ticks
line-ticks None k = refl
line-ticks (Some l) k = refl

-- .. after the task's instruction
pub room-access : (line : Option ℕ) (t : ℕ) (f : Hart → Hart) (k : Parts) → AreFew k → HasRoom STAMPS_PER_EVENT k → AreWithin (COUNT_LIMIT - PER_SETTLING) (raise_line line (on_hart t f k))
room-access line t f k few h =
    let w : AreWithin (COUNT_LIMIT - STAMPS_PER_EVENT) (on_hart t f k) = record { are = few.pipes.each; up = h.counts } in
    within-more (COUNT_LIMIT - STAMPS_PER_EVENT + 1) (COUNT_LIMIT - PER_SETTLING) _ (omega arith) (within-line (COUNT_LIMIT - STAMPS_PER_EVENT) line (on_hart t f k) w)

pub stamps-access : (line : Option ℕ) (t : ℕ) (f : Hart → Hart) (k : Parts) → HasRoom STAMPS_PER_EVENT k → HasStamps PER_SETTLING (raise_line line (on_hart t f k))
stamps-access line t f k h = omega (arith, h.stamps, line-stamps line (on_hart t f k))

pub clock-access : (line : Option ℕ) (t : ℕ) (f : Hart → Hart) (k : Parts) → HasRoom STAMPS_PER_EVENT k → (raise_line line (on_hart t f k)).ticks ≤ COUNT_LIMIT
clock-access line t f k h = omega (arith, h.clock, line-ticks line (on_hart t f k))

line-notices : (line : Option ℕ) (k : Parts) → (raise_line line k).notices ≡ k.notices
line-notices None k = refl
line-notices (Some l) k = refl

pub notices-access : (line : Option ℕ) (t : ℕ) (f : Hart → Hart) (k : Parts) → HasRoom STAMPS_PER_EVENT k → (raise_line line (on_hart t f k)).notices.total + LINES ≤ COUNT_LIMIT
notices-access line t f k h = rw (line-notices line (on_hart t f k)) (omega (arith, h.notices))

-- .. and before the line is raised
pub room-line : (t : ℕ) (f : Hart → Hart) (k : Parts) → HasRoom STAMPS_PER_EVENT k → PipesUpTo COUNT_LIMIT (on_hart t f k).pipes
room-line t f k h = room-raise k h
