-- Failures that a search looks for where private rows are made at once.
use Rattle.std.specs.Prelude.{◌≡◌, ℕ, ◌<◌, ◌⊎◌, Some, None, true, slice_get}
use Rattle.evm_model.specs.Current.{current}
use Rattle.evm_model.specs.Event.{Event}
use Rattle.evm_model.specs.State.{State}
use Rattle.evm_model.specs.declared.event.Answer.{Answer}
use Rattle.hunt_failures.specs.Failures.{FailsAsWanted, is_in_band_task, is_out_of_band, step_of}
use Rattle.hunt_failures.specs.declared.wanted.Wanted.{Wanted}
use Rattle.law_runs.specs.Ahead.{actor}

-- task t, which was current and out-of-band on the processor that stepped and did none of its instructions, is in-band
pub record IsDemotedByLine (t : ℕ) (before : State) (event : Event) (s : State) : Type 0 where
  pub cpu : ℕ
  pub steps : step_of event ≡ Some cpu
  pub runs : current cpu before.board.parts ≡ Some t
  pub does_none : actor cpu before.board ≡ None
  pub was_out_of_band : is_out_of_band (slice_get before.board.parts.tasks t) ≡ true
  pub is_in_band : is_in_band_task (slice_get s.board.parts.tasks t) ≡ true

-- where demotions are looked for, and private rows are taken from below `high`, a line demotes a task, whatever its next instruction is
abbrev pub DemotesByLine : ℕ → Wanted → State → Event → State → Type 0
DemotesByLine high wanted before event s = (wanted.demotion ≡ true) × (0 < high) × (t : ℕ) × IsDemotedByLine t before event s

-- an event has made a machine fail in a way that is looked for, or a line has demoted a task
abbrev pub FailsOrDemotes : ℕ → Wanted → State → Event → Answer → State → Type 0
FailsOrDemotes high wanted before event answer s = FailsAsWanted wanted before event answer s ⊎ DemotesByLine high wanted before event s
