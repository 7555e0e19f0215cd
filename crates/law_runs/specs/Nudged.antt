-- How often line 1 is raised: by events that name it, and by steps of other processors that find a better task.
use Rattle.std.specs.Prelude.{◌≡◌, ℕ, ◌+◌, ◌==◌, ◌&&◌, ◌%◌, List, [], ◌∷◌, Option, Some, None, Bool, false, not, Result, Ok, Err, slice_get, count_by}
use Rattle.evm_lines.specs.Lines.{has_line}
use Rattle.evm_model.specs.Devices.{Attached}
use Rattle.evm_model.specs.Event.{Event}
use Rattle.evm_model.specs.Good.{AreDevices}
use Rattle.evm_model.specs.Load.{start_loaded}
use Rattle.evm_model.specs.Pipes.{Pipe}
use Rattle.evm_model.specs.Ranks.{best}
use Rattle.evm_model.specs.Replay.{apply, bad_boot, left_by, replay, start}
use Rattle.evm_model.specs.Settle.{current, differs}
use Rattle.evm_model.specs.State.{State, Parts}
use Rattle.evm_model.specs.declared.boot.Boot.{Boot}
use Rattle.evm_model.specs.declared.counts.Counts.{Counts}
use Rattle.evm_model.specs.declared.event.Answer.{Answer}
use Rattle.evm_model.specs.declared.event.Event.TheVariants.{Step, StepI}
use Rattle.evm_model.specs.declared.refusal.Refusal.{Refusal}
use Rattle.law_runs.specs.Balance.{is_raise, one_if}

-- a step of another processor than d
abbrev pub is_step_elsewhere : ℕ → Event → Bool
is_step_elsewhere d (Step c) = not (d == c)
is_step_elsewhere d (StepI c) = not (d == c)
is_step_elsewhere d _ = false

-- processor d, whose pipe was this, has a better task than its current one, is not stalled out-of-band and has no line 1 on its wire
abbrev pub finds_better : ℕ → Option Pipe → Parts → Bool
finds_better d None k = false
finds_better d (Some pipe) k = not pipe.oob.stalled && (not (has_line pipe.wire 1) && differs (best d k.mutexes k.tasks) (current d k))

-- whether an event, accepted, was a step of another processor that left d with a better task
abbrev pub found : ℕ → State → Event → Result (State × Answer) Refusal → Bool
found d s event (Err refusal) = false
found d s event (Ok after) = is_step_elsewhere d event && finds_better d (slice_get s.board.parts.pipes d) after.0.board.parts

-- how many of the events were
unfoldable pub found_count : ℕ → State → List Event → ℕ
found_count d s [] = 0
found_count d s (event ∷ events) = one_if (found d s event (apply s event)) + found_count d (left_by (apply s event) s) events

-- line 1 of each processor was raised by the events of the journal that name it, and by those steps
abbrev pub TellsFrom : State → Type 0
TellsFrom s = (events : List Event) (d : ℕ) (p : Pipe) (n : Counts) → slice_get (replay s events).board.parts.pipes d ≡ Some p → slice_get p.counts 1 ≡ Some n
    → n.raised ≡ count_by (is_raise d 1) (replay s events).journal + found_count d s events

abbrev pub AlwaysTells : Type 0
AlwaysTells = (devices : List Attached) (boot : Boot) → AreDevices devices → bad_boot boot ≡ false → TellsFrom (start devices boot)

-- also where an image was loaded before
abbrev pub AlwaysTellsLoaded : Type 0
AlwaysTellsLoaded = (devices : List Attached) (byte : ℕ → ℕ) (entry : ℕ) (boot : Boot) → AreDevices devices → bad_boot boot ≡ false → entry % 4 ≡ 0 → TellsFrom (start_loaded devices byte entry boot)
