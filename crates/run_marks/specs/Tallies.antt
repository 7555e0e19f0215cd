-- The counts of the lines as they were last looked at, and which of them an event leaves.
use Rattle.std.specs.Prelude.{◌≡◌, ◌≢◌, ◌+◌, ◌<◌, ℕ, List, Option, Some, None, Bool, true, false, ◌&&◌, ◌||◌, if◌then◌else◌, length, nat_le, nat_lt, option_map, slice_get}
use Rattle.evm_lines.specs.Lines.{has_line}
use Rattle.evm_lines.specs.declared.TheConstants.{LINES}
use Rattle.evm_model.specs.Pipes.{Pipe, raise}
use Rattle.evm_model.specs.State.{Parts}
use Rattle.evm_model.specs.declared.counts.Counts.{Counts}
use Rattle.evm_model.specs.declared.event.Event.{Event as EventOf}
use Rattle.evm_model.specs.declared.event.Event.TheVariants.{Step, Raise, Bell}
use Rattle.evm_model.specs.declared.limits.TheConstants.{DEVICE_LIMIT, DEVICE_LINE}
use Rattle.run_marks.specs.declared.tally.Reach.{Reach}
use Rattle.run_marks.specs.declared.tally.Reach.TheVariants.{ByLine, ByStep, All}
use Rattle.run_marks.specs.declared.tally.Stepped.{Stepped}

-- row c has the counts of the lines of processor c
abbrev pub IsTallyOf : List (List Counts) → Parts → Type 0
IsTallyOf rows k = (c : ℕ) (pipe : Pipe) → slice_get k.pipes c ≡ Some pipe → slice_get rows c ≡ Some pipe.counts

-- the rows of the processors below n are those of `now`, the others those of `was`
abbrev pub IsTallyUpTo : ℕ → List (List Counts) → Parts → Parts → Type 0
IsTallyUpTo n rows was now = (c : ℕ) (pipe : Pipe) → slice_get (if nat_lt c n then now else was).pipes c ≡ Some pipe → slice_get rows c ≡ Some pipe.counts

-- line l was raised as often in one as in the other
abbrev pub SameRaised : ℕ → List Counts → List Counts → Type 0
SameRaised l before after = (n m : Counts) → slice_get before l ≡ Some n → slice_get after l ≡ Some m → n.raised ≡ m.raised

-- only the counts of these lines differ
abbrev pub DifferAt : List ℕ → List Counts → List Counts → Type 0
DifferAt lines before after = (l : ℕ) → l < LINES → has_line lines l ≡ false → slice_get after l ≡ slice_get before l

-- ---- how far an event reaches
abbrev pub reach_of : EventOf ℕ → List ℕ → Reach
reach_of (Step c) waiting = ByStep (record { cpu = c; waiting = waiting })
reach_of (Raise c line) waiting = ByLine c line
reach_of (Bell c line) waiting = ByLine c line
reach_of _ waiting = All

-- line l waits: it is on the wire, or in a log
abbrev pub waits_in : ℕ → Option Pipe → Bool
waits_in l None = false
waits_in l (Some pipe) = has_line pipe.wire l || (has_line pipe.oob.lines l || has_line pipe.in_band.lines l)

-- line l is one of those that devices raise
abbrev pub belongs_to_devices : ℕ → Bool
belongs_to_devices l = nat_le DEVICE_LINE l && nat_lt l (DEVICE_LINE + DEVICE_LIMIT)

-- the counts of line l of processor d stand unless a device has raised it, which it does on processor 0
abbrev pub StandsUnlessRaised : ℕ → ℕ → Parts → Parts → Type 0
StandsUnlessRaised d l was now = (p q : Pipe) → slice_get was.pipes d ≡ Some p → slice_get now.pipes d ≡ Some q → (d ≡ 0 → belongs_to_devices l ≡ true → SameRaised l p.counts q.counts) → slice_get q.counts l ≡ slice_get p.counts l

-- .. unless it is on the wire afterwards
abbrev pub StandsUnlessOnWire : ℕ → ℕ → Parts → Parts → Type 0
StandsUnlessOnWire d l was now = (p q : Pipe) → slice_get was.pipes d ≡ Some p → slice_get now.pipes d ≡ Some q → has_line q.wire l ≡ false → slice_get q.counts l ≡ slice_get p.counts l

-- what a Step leaves: of its processor the counts of each line that didn't wait, but a device's that was raised; and of the others those of each line that is not on the wire
pub record StepLeaves (step : Stepped) (was now : Parts) : Type 0 where
  pub own : (l : ℕ) → l < LINES → has_line step.waiting l ≡ false → StandsUnlessRaised step.cpu l was now
  pub others : (d l : ℕ) → d ≢ step.cpu → l < LINES → StandsUnlessOnWire d l was now

-- line l of processor c was raised, and nothing else changed
pub record OnlyRaises (c l : ℕ) (was now : Parts) : Type 0 where
  pub rest : now ≡ record was { pipes = now.pipes }
  pub here : slice_get now.pipes c ≡ option_map (raise l) (slice_get was.pipes c)
  pub others : (d : ℕ) → d ≢ c → slice_get now.pipes d ≡ slice_get was.pipes d

abbrev pub LeavesCounts : Reach → Parts → Parts → Type 0
LeavesCounts (ByLine c l) was now = OnlyRaises c l was now
LeavesCounts (ByStep step) was now = StepLeaves step was now
LeavesCounts All was now = Unit {0}

-- an event that reaches so far led from one to the other
pub record IsWithinReach (reach : Reach) (was now : Parts) : Type 0 where
  pub pipes : length now.pipes ≡ length was.pipes
  pub leaves : LeavesCounts reach was now
