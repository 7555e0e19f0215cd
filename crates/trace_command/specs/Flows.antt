-- The arrows of a trace: where each begins and ends.
use Rattle.std.specs.Prelude.{ℕ, ◌==◌, if◌then◌else◌, List, [], ◌∷◌, ◌++◌, Option, Some, None}
use Rattle.trace_records.specs.declared.change.Change.{Change}
use Rattle.trace_records.specs.declared.change.Change.TheVariants.{Shows, Noted}
use Rattle.trace_records.specs.declared.note.Detail.{Detail}
use Rattle.trace_records.specs.declared.note.Detail.TheVariants.{ProcessName, ThreadName, SortIndex, Interrupt, Rank, Ticks, Moves, FlowStart, FlowEnd}
use Rattle.trace_records.specs.declared.note.Flow.{Flow}
use Rattle.trace_records.specs.declared.note.Flow.TheVariants.{Line}
use Rattle.trace_records.specs.declared.note.Note.{Note}
use Rattle.trace_records.specs.declared.track.Track.{Track}
use Rattle.trace_records.specs.declared.track.Track.TheVariants.{InBand, Task}

abbrev pub if_flow : Note → Detail → List Note
if_flow n ProcessName = []
if_flow n ThreadName = []
if_flow n SortIndex = []
if_flow n (Interrupt passage line times) = []
if_flow n (Rank rank) = []
if_flow n (Ticks ticks) = []
if_flow n (Moves cpu) = []
if_flow n (FlowStart flow id) = n ∷ []
if_flow n (FlowEnd flow id) = n ∷ []

-- the begins and ends of arrows that are told by some changes
unfoldable pub flows_in : List Change → List Note
flows_in [] = []
flows_in (Shows track state at ∷ changes) = flows_in changes
flows_in (Noted n ∷ changes) = if_flow n n.detail ++ flows_in changes

abbrev pub flow_start : Track → ℕ → Flow → ℕ → Note
flow_start track at flow id = record { track = track; at = at; detail = FlowStart flow id }

abbrev pub flow_end : Track → ℕ → Flow → ℕ → Note
flow_end track at flow id = record { track = track; at = at; detail = FlowEnd flow id }

-- the arrow of a number, from one task to another
abbrev pub handed_over : Flow → ℕ → ℕ → ℕ → ℕ → ℕ → List Note
handed_over flow id from to at behind = flow_start (Task from) at flow id ∷ flow_end (Task to) behind flow id ∷ []

-- a mutex that passes from a task to another has one
abbrev pub owner_flows : Flow → ℕ → Option ℕ → Option ℕ → ℕ → ℕ → List Note
owner_flows flow id (Some from) (Some to) at behind = handed_over flow id from to at behind
owner_flows flow id None to at behind = []
owner_flows flow id (Some from) None at behind = []

-- an arrow begins where none has
abbrev pub begun_flows : Track → ℕ → Flow → ℕ → Option ℕ → List Note
begun_flows track at flow id None = flow_start track at flow id ∷ []
begun_flows track at flow id (Some begun) = []

-- that of a line which is raised; the tick's has none
abbrev pub line_flows : Track → ℕ → ℕ → ℕ → Option ℕ → List Note
line_flows track at line id begun = if line == 0 then [] else begun_flows track at (Line line) id begun

-- the track of a processor, as it was kept
abbrev pub kept_track : ℕ → Option Track → Track
kept_track cpu None = InBand cpu
kept_track cpu (Some track) = track

-- the end of an arrow that has begun
abbrev pub ended_flows : Track → ℕ → Flow → Option ℕ → List Note
ended_flows track at flow None = []
ended_flows track at flow (Some id) = flow_end track at flow id ∷ []
