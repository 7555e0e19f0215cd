-- The places that are told of an event: where tasks begin, run, wait and lock.
use Rattle.std.specs.Prelude.{ℕ, ◌-◌, List, [], ◌∷◌, Option, Some, None, slice_get}
use Rattle.evm_exec.specs.declared.hart.Hart.{Hart}
use Rattle.trace_records.specs.declared.place.Doing.{Doing}
use Rattle.trace_records.specs.declared.place.Doing.TheVariants.{Begins, Runs, Waits, Locks}
use Rattle.trace_records.specs.declared.place.CodePlace.{CodePlace}
use Rattle.run_marks.specs.declared.mark.Mark.{Mark}
use Rattle.run_marks.specs.declared.mark.Mark.TheVariants as marks

-- what a task does, and where: `back` bytes in front of its pc
abbrev pub spot_of : ℕ → ℕ → Doing → ℕ → Option Hart → List CodePlace
spot_of task at doing back None = []
spot_of task at doing back (Some hart) = record { task = task; at = at; doing = doing; address = hart.pc - back } ∷ []

-- The pc of a task that waits or has locked is behind the ECALL, which has 4 bytes.
abbrev pub owner_place : List Hart → ℕ → ℕ → Option ℕ → List CodePlace
owner_place harts at mutex None = []
owner_place harts at mutex (Some task) = spot_of task at (Locks mutex) 4 (slice_get harts task)

-- the places of a mark, if these are the registers of the tasks behind the event
abbrev pub spots_of : List Hart → ℕ → Mark → List CodePlace
spots_of harts at (marks.Created task) = spot_of task at Begins 0 (slice_get harts task)
spots_of harts at (marks.Runs cpu task stage) = spot_of task at Runs 0 (slice_get harts task)
spots_of harts at (marks.Waits task wait) = spot_of task at Waits 4 (slice_get harts task)
spots_of harts at (marks.Owner mutex from to) = owner_place harts at mutex to
spots_of harts at _ = []
