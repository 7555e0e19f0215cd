-- Cells that stand one behind the other, and the events that they tell of.
use Rattle.std.specs.Prelude.{◌≡◌, ℕ, ◌+◌, ◌<◌, ◌==◌, List, [], ◌∷◌, Option, Some, None, drop, get_or, if◌then◌else◌, length, max, min, slice_get, take}
use Rattle.view_timeline.specs.declared.cells.Cell.{Cell}
use Rattle.view_timeline.specs.declared.cells.TheConstants.{LANE_LIMIT}
use Rattle.view_timeline.specs.declared.gathering.Window.{Window}
use Rattle.evm_model.specs.declared.event.Event.{Event as EventOf}
use Rattle.evm_model.specs.declared.limits.TheConstants.{PROCESSOR_LIMIT}
use Rattle.run_walk.specs.Items.{actor_of}

-- an event without the bytes of a Poke
abbrev pub Outline : Type 0
Outline = EventOf ℕ

-- the lane of a processor, and behind those that of the machine
abbrev pub lane_in : Option ℕ → ℕ
lane_in None = PROCESSOR_LIMIT
lane_in (Some cpu) = min cpu PROCESSOR_LIMIT

abbrev pub event_lane : Outline → ℕ
event_lane event = lane_in (actor_of event)

-- how many events are of a lane
unfoldable pub count_on : ℕ → List Outline → ℕ
count_on lane [] = 0
count_on lane (event ∷ events) = (if event_lane event == lane then 1 else 0) + count_on lane events

-- a cell tells of these events: how many there are, the first of them, and how many are of each lane
pub record Summarizes (cell : Cell) (events : List Outline) : Type 0 where
  pub count : cell.count ≡ length events
  pub event : slice_get events 0 ≡ Some cell.event
  pub shares : (lane : ℕ) → lane < LANE_LIMIT → get_or cell.shares lane 0 ≡ count_on lane events

-- `count` events from `first` on
abbrev pub stretch : List Outline → ℕ → ℕ → List Outline
stretch events first count = take count (drop first events)

-- no cell is empty, the first begins at `from`, each other where the one before it ends, and the last ends before `to`: so each event from `from` on and
-- before `to` is in one cell, and in no other. Each cell tells of its events
abbrev pub IsRow : List Outline → ℕ → List Cell → ℕ → Type 0
IsRow events from [] to = from ≡ to
IsRow events from (cell ∷ cells) to = (cell.first ≡ from) × (0 < cell.count) × Summarizes cell (stretch events from cell.count) × IsRow events (from + cell.count) cells to

-- the events of a window, of those that there are
abbrev pub window_from : Window → List Outline → ℕ
window_from window events = min window.from (length events)

abbrev pub window_to : Window → List Outline → ℕ
window_to window events = max (window_from window events) (min window.to (length events))

-- cells tell of all events of a window
abbrev pub IsWindow : Window → List Outline → List Cell → Type 0
IsWindow window events cells = IsRow events (window_from window events) cells (window_to window events)

-- cells that were joined, and those that are left, are a row
abbrev pub Halves : List Outline → ℕ → List Cell → ℕ → List Cell → Type 0
Halves events from left to new = (mid : ℕ) × IsRow events from new mid × IsRow events mid left to
