-- The instants of a trace: one for each mark of a line, and for each task that moves to another processor. Of line 0, the tick's, they are told
-- where the event ends a wait.
use Rattle.std.specs.Prelude.{ℕ, ◌==◌, Bool, true, false, if◌then◌else◌, List, [], ◌∷◌, ◌++◌, flat_map}
use Rattle.std.specs.List.{list_any}
use Rattle.trace_records.specs.declared.change.Change.{Change}
use Rattle.trace_records.specs.declared.change.Change.TheVariants.{Shows, Noted}
use Rattle.trace_records.specs.declared.note.Detail.{Detail}
use Rattle.trace_records.specs.declared.note.Detail.TheVariants.{ProcessName, ThreadName, SortIndex, Interrupt, Rank, Ticks, Moves, FlowStart, FlowEnd}
use Rattle.trace_records.specs.declared.note.Note.{Note}
use Rattle.trace_records.specs.declared.note.InterruptPassage.{InterruptPassage}
use Rattle.trace_records.specs.declared.note.InterruptPassage.TheVariants.{Raised, Received, Played}
use Rattle.trace_records.specs.declared.track.Track.TheVariants.{Lines, Task}
use Rattle.run_marks.specs.declared.mark.Mark.{Mark}
use Rattle.run_marks.specs.declared.mark.Mark.TheVariants as marks

-- a line of a processor came so far, at a tick
abbrev pub instant : InterruptPassage → ℕ → ℕ → ℕ → ℕ → Note
instant passage cpu line times at = record { track = Lines cpu; at = at; detail = Interrupt passage line times }

-- the event ends a wait
abbrev pub is_woken : Mark → Bool
is_woken (marks.Woken task wait) = true
is_woken _ = false

abbrev pub is_told : Bool → ℕ → Bool
is_told wakes line = if line == 0 then wakes else true

abbrev pub line_instants : Bool → InterruptPassage → ℕ → ℕ → ℕ → ℕ → List Note
line_instants wakes passage cpu line times at = if is_told wakes line then (instant passage cpu line times at ∷ []) else []

-- the instant of a mark
abbrev pub instants_of : Bool → ℕ → Mark → List Note
instants_of wakes at (marks.Raised cpu line times) = line_instants wakes Raised cpu line times at
instants_of wakes at (marks.Received cpu line times) = line_instants wakes Received cpu line times at
instants_of wakes at (marks.Played cpu stage line times) = line_instants wakes Played cpu line times at
instants_of wakes at (marks.Migrates task cpu) = record { track = Task task; at = at; detail = Moves cpu } ∷ []
instants_of wakes at _ = []

-- those of an event with these marks
abbrev pub event_instants : ℕ → List Mark → List Note
event_instants at ms = flat_map (instants_of (list_any is_woken ms) at) ms

abbrev pub if_instant : Note → Detail → List Note
if_instant n ProcessName = []
if_instant n ThreadName = []
if_instant n SortIndex = []
if_instant n (Interrupt passage line times) = n ∷ []
if_instant n (Rank rank) = []
if_instant n (Ticks ticks) = []
if_instant n (Moves cpu) = n ∷ []
if_instant n (FlowStart flow id) = []
if_instant n (FlowEnd flow id) = []

-- the instants that are told by some changes
unfoldable pub instants_in : List Change → List Note
instants_in [] = []
instants_in (Shows track state at ∷ changes) = instants_in changes
instants_in (Noted n ∷ changes) = if_instant n n.detail ++ instants_in changes
