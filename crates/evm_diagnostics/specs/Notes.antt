-- Notes on standard error: where a processor is stopped that was to step; the lines that have a note, and how many tasks have one since
-- they ended by a fault.
use Rattle.std.specs.Prelude.{ℕ, zero, suc, ◌-◌, nat_eq, Bool, false, List, [], ◌∷◌, ◌++◌, length, Option, Some, None, slice_get, if◌then◌else◌}
use Rattle.std.specs.List.{starts_with}
use Rattle.evm_exec.specs.declared.hart.Hart.{Hart}
use Rattle.evm_model.specs.Commands.{is_set}
use Rattle.evm_model.specs.Refusals.{is_stopped}
use Rattle.evm_model.specs.State.{Board, Parts, State}
use Rattle.evm_model.specs.declared.fault.Fault.{Fault}
use Rattle.evm_model.specs.declared.processor.Processor.{Processor}
use Rattle.evm_model.specs.declared.task.Task.{Task}
use Rattle.evm_model.specs.declared.task.TaskState.{TaskState}
use Rattle.evm_model.specs.declared.task.TaskState.TheVariants as states
use Rattle.evm_ram.specs.Ram.{bytes_at}
use Rattle.evm_streams.specs.Diagnostic.{Place, File, Line}
use Rattle.evm_diagnostics.specs.declared.note.StepNote.{StepNote}
use Rattle.evm_diagnostics.specs.declared.note.StopPlace.{StopPlace}
use Rattle.evm_diagnostics.specs.declared.note.StopPlace.TheVariants.{Breakpoint, Ebreak, Pc, Idle}

-- ---- where a processor is stopped

abbrev pub is_ebreak : Option (List ℕ) → Bool
is_ebreak (Some word) = starts_with nat_eq word (115 ∷ 0 ∷ 16 ∷ 0 ∷ [])
is_ebreak None = false

abbrev pub stop_place_at : ℕ → Board → StopPlace
stop_place_at pc b =
    if is_set b.breakpoints pc then Breakpoint pc
    else (if is_ebreak (bytes_at b.memory.ram (pc - 4) 4) then Ebreak (pc - 4) else Pc pc)

abbrev pub place_of_hart : Option Hart → Board → StopPlace
place_of_hart None b = Idle
place_of_hart (Some hart) b = stop_place_at hart.pc b

-- the place of the current task
abbrev pub stop_place_of : Option ℕ → Board → StopPlace
stop_place_of None b = Idle
stop_place_of (Some t) b = place_of_hart (slice_get b.parts.harts t) b

abbrev pub is_cpu_stopped : ℕ → State → Bool
is_cpu_stopped c s = is_stopped (slice_get s.board.parts.processors c)

-- ---- lines `step C N`

-- processor c, if it is stopped; and whether it was stopped before the line
abbrev pub note_of : ℕ → Bool → Option Processor → Board → Option StepNote
note_of c earlier None b = None
note_of c earlier (Some p) b = if p.stopped then Some (record { cpu = c; earlier = earlier; place = stop_place_of p.current b }) else None

-- ---- tasks that ended by a fault

abbrev pub task_fault : TaskState → Option Fault
task_fault states.InReady = None
task_fault states.OobReady = None
task_fault (states.Waits on) = None
task_fault states.Exit = None
task_fault (states.Faulted fault) = Some fault

-- a task that ended by a fault is reported by the name of the script
abbrev pub faulted_places : List ℕ → Option Fault → Option Hart → List Place
faulted_places name None hart = []
faulted_places name (Some fault) None = []
faulted_places name (Some fault) (Some hart) = File name ∷ []

abbrev pub task_places : List ℕ → Option Task → Option Hart → List Place
task_places name None hart = []
task_places name (Some task) hart = faulted_places name (task_fault task.state) hart

-- of the tasks below a number, by their numbers
unfoldable pub places_below : List ℕ → ℕ → Board → List Place
places_below name zero b = []
places_below name (suc t) b = places_below name t b ++ task_places name (slice_get b.parts.tasks t) (slice_get b.parts.harts t)

abbrev pub ended_places : List ℕ → Option State → List Place
ended_places name None = []
ended_places name (Some s) = places_below name (length s.board.parts.tasks) s.board

-- ---- in a script of this name

abbrev pub note_places : List ℕ → ℕ → Option StepNote → List Place
note_places name n None = []
note_places name n (Some note) = Line name n ∷ []
