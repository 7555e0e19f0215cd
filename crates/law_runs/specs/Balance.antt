-- No interrupt is lost and none is played twice: what came in is what went out and what is still there.
use Rattle.std.specs.Prelude.{◌≡◌, ℕ, ◌+◌, ◌-◌, ◌<◌, ◌≤◌, List, [], ◌∷◌, Option, Some, None, Bool, true, false, ◌==◌, ◌&&◌, if◌then◌else◌, nat_le, nat_lt, slice_get, length, count_by, Result, Ok, Err}
use Rattle.evm_lines.specs.Lines.{has_line}
use Rattle.evm_model.specs.Boosts.{is_number}
use Rattle.law_rules.specs.Raising.{hart_access, line_of, raises_by_tick}
use Rattle.evm_model.specs.Commands.{set_bits}
use Rattle.evm_model.specs.Devices.{Attached}
use Rattle.evm_model.specs.Load.{start_loaded}
use Rattle.evm_model.specs.Pipes.{Pipe, idle_pipe}
use Rattle.evm_model.specs.Replay.{apply, left_by, start, replay}
use Rattle.evm_model.specs.Rows.{step}
use Rattle.evm_model.specs.State.{State, Board, on_parts}
use Rattle.evm_model.specs.declared.boot.Boot.{Boot}
use Rattle.evm_model.specs.declared.counts.Counts.{Counts}
use Rattle.evm_model.specs.declared.counts.Passage.{Passage}
use Rattle.evm_model.specs.Event.{Event}
use Rattle.evm_model.specs.declared.event.Answer.{Answer}
use Rattle.evm_model.specs.declared.event.Answer.TheVariants.{Ran}
use Rattle.evm_model.specs.declared.event.Event.TheVariants.{Step, StepI, Tick, Raise, Bell}
use Rattle.evm_model.specs.declared.limits.TheConstants.{DEVICE_LINE}
use Rattle.evm_model.specs.declared.refusal.Refusal.{Refusal}
use Rattle.evm_model.specs.declared.stage.StageLog.{StageLog}

abbrev pub one_if : Bool → ℕ
one_if b = if b then 1 else 0

-- line l came to a stage as often as it merged there, is in the log still, or was played
abbrev pub Passes : ℕ → StageLog → Passage → Type 0
Passes l log n = n.arrivals ≡ n.merged + one_if (has_line log.lines l) + n.played

-- what is received comes to a stage
pub record Routes (l : ℕ) (n : Counts) : Type 0 where
  -- the timer's line and the request to reschedule come to the out-of-band stage
  pub oob_lines : l < 2 → n.received ≡ n.oob.arrivals
  -- the timer's goes on in-band each time it is played there
  pub timer : l ≡ 0 → n.in_band.arrivals ≡ n.oob.played
  -- the request doesn't
  pub request : l ≡ 1 → n.in_band.arrivals ≡ 0
  -- the others come to one of the stages
  pub others : 2 ≤ l → n.received ≡ n.oob.arrivals + n.in_band.arrivals

-- line l of a processor was raised as often as it merged on the wire, is on it still, or was received; and it passes both stages
pub record Balances (l : ℕ) (p : Pipe) (n : Counts) : Type 0 where
  pub wire : n.raised ≡ n.merged + one_if (has_line p.wire l) + n.received
  pub oob : Passes l p.oob n.oob
  pub in_band : Passes l p.in_band n.in_band
  pub routes : Routes l n

-- an event that raises line l on processor c
abbrev pub is_raise : ℕ → ℕ → Event → Bool
is_raise c l Tick = l == 0
is_raise c l (Raise d m) = d == c && m == l
is_raise c l (Bell d m) = d == c && m == l
is_raise c l _ = false

-- line l of processor c is that of a device
abbrev pub is_device_line : ℕ → ℕ → List Attached → Bool
is_device_line c l devices = 0 == c && (nat_le DEVICE_LINE l && nat_lt l (DEVICE_LINE + length devices))

-- each line of each processor balances; and each but line 1, which processors raise on one another, and those of devices was raised by as many events as the journal has of them
pub record Balance (s : State) : Type 0 where
  pub each : (c l : ℕ) (p : Pipe) (n : Counts) → slice_get s.board.parts.pipes c ≡ Some p → slice_get p.counts l ≡ Some n → Balances l p n
  pub raised : (c l : ℕ) (p : Pipe) (n : Counts) → slice_get s.board.parts.pipes c ≡ Some p → slice_get p.counts l ≡ Some n
      → (l ≡ 1 → ⊥) → is_device_line c l s.board.memory.devices ≡ false → n.raised ≡ count_by (is_raise c l) s.journal

-- a machine that has had no event, whose pipes are idle
pub record IsFresh (s : State) : Type 0 where
  pub journal : s.journal ≡ []
  pub pipes : (c : ℕ) (p : Pipe) → slice_get s.board.parts.pipes c ≡ Some p → p ≡ idle_pipe

-- after every list of events
abbrev pub BalancesFrom : State → Type 0
BalancesFrom s = (events : List Event) → Balance (replay s events)

abbrev pub AlwaysBalances : Type 0
AlwaysBalances = (devices : List Attached) (boot : Boot) → BalancesFrom (start devices boot)

-- also where an image was loaded before
abbrev pub AlwaysBalancesLoaded : Type 0
AlwaysBalancesLoaded = (devices : List Attached) (byte : ℕ → ℕ) (entry : ℕ) (boot : Boot) → BalancesFrom (start_loaded devices byte entry boot)

-- also with any RAM, any tasks and any processors
abbrev pub AlwaysBalancesFresh : Type 0
AlwaysBalancesFresh = (s : State) → IsFresh s → BalancesFrom s

-- ---- the lines of devices
-- the line that a device raises in a step that answers so: a task did the instruction at its pc, which touched the device
abbrev pub line_of_step : Answer → Board → Option ℕ
line_of_step (Ran t) b = line_of (hart_access (slice_get b.parts.harts t) b.memory)
line_of_step _ b = None

-- whether a device raises line l, of processor 0, in an event that is accepted
abbrev pub device_raises : ℕ → Event → Board → Bool
device_raises l (Step c) b = is_number (line_of_step (step c b).1 b) l
device_raises l (StepI c) b = let freed = on_parts (set_bits false true c) b in is_number (line_of_step (step c freed).1 freed) l
device_raises l Tick b = nat_le DEVICE_LINE l && raises_by_tick (slice_get b.memory.devices (l - DEVICE_LINE))
device_raises l _ b = false

-- whether a device raised line l on processor c in an event, if it was accepted
abbrev pub device_raised : ℕ → ℕ → State → Event → Result (State × Answer) Refusal → Bool
device_raised c l s event (Err refusal) = false
device_raised c l s event (Ok after) = 0 == c && device_raises l event s.board

-- in how many of the events one did
unfoldable pub device_count : ℕ → ℕ → State → List Event → ℕ
device_count c l s [] = 0
device_count c l s (event ∷ events) = one_if (device_raised c l s event (apply s event)) + device_count c l (left_by (apply s event) s) events

-- each line but line 1 was raised by the events of the journal that name it, and by a device in n events
abbrev pub RaisesFrom : State → Type 0
RaisesFrom s = (events : List Event) (c l : ℕ) (p : Pipe) (n : Counts) → slice_get (replay s events).board.parts.pipes c ≡ Some p → slice_get p.counts l ≡ Some n
    → (l ≡ 1 → ⊥) → n.raised ≡ count_by (is_raise c l) (replay s events).journal + device_count c l s events

abbrev pub AlwaysRaises : Type 0
AlwaysRaises = (devices : List Attached) (boot : Boot) → RaisesFrom (start devices boot)

abbrev pub AlwaysRaisesLoaded : Type 0
AlwaysRaisesLoaded = (devices : List Attached) (byte : ℕ → ℕ) (entry : ℕ) (boot : Boot) → RaisesFrom (start_loaded devices byte entry boot)

abbrev pub AlwaysRaisesFresh : Type 0
AlwaysRaisesFresh = (s : State) → IsFresh s → RaisesFrom s
