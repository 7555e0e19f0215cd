-- The marks by which two machines differ: a line for each kind. `before` is seen before, `after` after. Registers, RAM, stamps, slices, watches and
-- what semaphores, flags and timers hold have none.
use Rattle.std.specs.Prelude.{◌≡◌, ℕ, ◌-◌, ◌==◌, ◌&&◌, List, [], ◌∷◌, ◌++◌, Option, Some, None, Bool, true, false, not, is_some, nat_lt, nat_le, slice_get}
use Rattle.evm_journal.specs.evm_core.Views.{line_counts_at}
use Rattle.evm_lines.specs.declared.TheConstants.{LINES}
use Rattle.evm_model.specs.State.{Parts}
use Rattle.evm_model.specs.declared.counts.Counts.{Counts}
use Rattle.evm_model.specs.declared.notice.Notice.{Notice}
use Rattle.evm_model.specs.declared.stage.Stage.{Stage}
use Rattle.evm_model.specs.declared.stage.Stage.TheVariants.{OutOfBand, InBand}
use Rattle.evm_model.specs.declared.task.Task.{Task}
use Rattle.evm_model.specs.declared.task.TaskState.{TaskState}
use Rattle.evm_model.specs.declared.task.TaskState.TheVariants as states
use Rattle.evm_model.specs.declared.task.Wait.{Wait}
use Rattle.evm_model.specs.declared.task.Wait.TheVariants as waits
use Rattle.run_marks.specs.Lists.{below}
use Rattle.run_marks.specs.Observations.{IsObservationOf}
use Rattle.run_marks.specs.declared.observation.Lane.{Lane}
use Rattle.run_marks.specs.declared.observation.Observation.{Observation}
use Rattle.run_marks.specs.declared.observation.Running.{Running}
use Rattle.run_marks.specs.declared.mark.Mark.{Mark}
use Rattle.run_marks.specs.declared.mark.Mark.TheVariants as mark

-- a mark, where its test holds
abbrev pub when : Bool → Mark → List Mark
when false m = []
when true m = m ∷ []

-- ---- a processor
abbrev pub same_stage : Stage → Stage → Bool
same_stage OutOfBand OutOfBand = true
same_stage InBand InBand = true
same_stage _ _ = false

abbrev pub same_bit : Bool → Bool → Bool
same_bit true on = on
same_bit false on = not on

abbrev pub same_running : Option Running → Running → Bool
same_running None after = false
same_running (Some before) after = before.task == after.task && same_stage before.stage after.stage

-- it runs a task on a stage, and did not before; or it runs none, and did before
abbrev pub running_marks : ℕ → Option Running → Option Running → List Mark
running_marks c before None = when (is_some before) (mark.Idles c)
running_marks c before (Some after) = when (not (same_running before after)) (mark.Runs c after.task after.stage)

-- a stage is stalled, and was not before, or the other way round
abbrev pub stall_marks : ℕ → Stage → Bool → Bool → List Mark
stall_marks c stage before after = when (not (same_bit before after)) (mark.Stall c stage after)

abbrev pub stop_marks : ℕ → Bool → Bool → List Mark
stop_marks c before after = when (not (same_bit before after)) (mark.Stop c after)

unfoldable pub lane_marks : ℕ → Option Lane → Option Lane → List Mark
lane_marks c (Some before) (Some after) =
    running_marks c before.running after.running
    ++ stall_marks c OutOfBand before.oob_stalled after.oob_stalled
    ++ stall_marks c InBand before.in_band_stalled after.in_band_stalled
    ++ stop_marks c before.stopped after.stopped
lane_marks c _ _ = []

-- ---- a line of a processor: its counts have grown
abbrev pub counted_marks : ℕ → ℕ → Counts → Counts → List Mark
counted_marks c l before after =
    when (nat_lt before.raised after.raised) (mark.Raised c l (after.raised - before.raised))
    ++ when (nat_lt before.received after.received) (mark.Received c l (after.received - before.received))
    ++ when (nat_lt before.oob.played after.oob.played) (mark.Played c OutOfBand l (after.oob.played - before.oob.played))
    ++ when (nat_lt before.in_band.played after.in_band.played) (mark.Played c InBand l (after.in_band.played - before.in_band.played))

unfoldable pub line_marks : ℕ → ℕ → Option Counts → Option Counts → List Mark
line_marks c l (Some before) (Some after) = counted_marks c l before after
line_marks c l _ _ = []

unfoldable pub lines_marks : ℕ → List Counts → List Counts → List Mark
lines_marks c before after = below (λ l. line_marks c l (slice_get before l) (slice_get after l)) LINES

-- the lines of a processor that is there before and after
abbrev pub pipe_marks : ℕ → Option (List Counts) → Option (List Counts) → List Mark
pipe_marks c (Some before) (Some after) = lines_marks c before after
pipe_marks c _ _ = []

unfoldable pub processor_marks : Observation → Observation → Parts → Parts → ℕ → List Mark
processor_marks before after was now c =
    lane_marks c (slice_get before.lanes.items c) (slice_get after.lanes.items c) ++ pipe_marks c (line_counts_at c was) (line_counts_at c now)

-- ---- a task
abbrev pub equal_waits : Wait → Wait → Bool
equal_waits (waits.Line l) (waits.Line m) = l == m
equal_waits (waits.Lock m) (waits.Lock n) = m == n
equal_waits (waits.Reacquire m x) (waits.Reacquire n y) = m == n && x == y
equal_waits (waits.Semaphore s) (waits.Semaphore r) = s == r
equal_waits (waits.Event e) (waits.Event d) = e == d
equal_waits (waits.Flags f) (waits.Flags g) = f == g
equal_waits waits.Sleep waits.Sleep = true
equal_waits (waits.Timer n) (waits.Timer m) = n == m
equal_waits _ _ = false

abbrev pub wait_of : TaskState → Option Wait
wait_of (states.Waits wait) = Some wait
wait_of _ = None

abbrev pub is_wait : Wait → Option Wait → Bool
is_wait wait None = false
is_wait wait (Some other) = equal_waits wait other

-- the task waits for this, and did not before
abbrev pub waits_marks : ℕ → Option Wait → Option Wait → List Mark
waits_marks t before None = []
waits_marks t before (Some wait) = when (not (is_wait wait before)) (mark.Waits t wait)

-- it waited for this, and does no more
abbrev pub woken_marks : ℕ → Option Wait → Option Wait → List Mark
woken_marks t None after = []
woken_marks t (Some wait) after = when (not (is_wait wait after)) (mark.Woken t wait)

-- it waited until a tick that has come, and does no more
abbrev pub deadline_marks : ℕ → ℕ → ℕ → ℕ → List Mark
deadline_marks t ticks before after = when (not (before == 0) && (nat_le before ticks && not (before == after))) (mark.Deadline t before)

-- it is of another processor
abbrev pub migrates_marks : ℕ → ℕ → ℕ → List Mark
migrates_marks t before after = when (not (before == after)) (mark.Migrates t after)

abbrev pub wait_stage : Wait → Stage
wait_stage (waits.Line l) = InBand
wait_stage _ = OutOfBand

-- the stage on which a task is that hasn't ended
abbrev pub task_stage : TaskState → Option Stage
task_stage states.InReady = Some InBand
task_stage states.OobReady = Some OutOfBand
task_stage (states.Waits wait) = Some (wait_stage wait)
task_stage _ = None

-- it is on a stage, and was on the other
abbrev pub moves_marks : ℕ → Option Stage → Option Stage → List Mark
moves_marks t (Some before) (Some after) = when (not (same_stage before after)) (mark.Moves t after)
moves_marks t _ _ = []

abbrev pub has_ended : TaskState → Bool
has_ended states.Exit = true
has_ended (states.Faulted f) = true
has_ended _ = false

-- it has ended, and had not before
abbrev pub end_marks : ℕ → TaskState → TaskState → List Mark
end_marks t before states.Exit = when (not (has_ended before)) (mark.Ended t)
end_marks t before (states.Faulted f) = when (not (has_ended before)) (mark.Faulted t f)
end_marks t before _ = []

abbrev pub change_marks : ℕ → ℕ → Task → Task → List Mark
change_marks t ticks before after =
    woken_marks t (wait_of before.state) (wait_of after.state)
    ++ deadline_marks t ticks before.deadline after.deadline
    ++ migrates_marks t before.cpu after.cpu
    ++ moves_marks t (task_stage before.state) (task_stage after.state)
    ++ waits_marks t (wait_of before.state) (wait_of after.state)
    ++ end_marks t before.state after.state

unfoldable pub task_marks : ℕ → ℕ → Option Task → Option Task → List Mark
task_marks t ticks None (Some after) = mark.Created t ∷ []
task_marks t ticks (Some before) (Some after) = change_marks t ticks before after
task_marks t ticks _ None = []

-- its rank is another
abbrev pub rank_marks : ℕ → Option ℕ → Option ℕ → List Mark
rank_marks t (Some before) (Some after) = when (not (before == after)) (mark.Rank t before after)
rank_marks t _ _ = []

unfoldable pub one_task_marks : Observation → Observation → ℕ → List Mark
one_task_marks before after t =
    task_marks t after.ticks (slice_get before.tasks.items t) (slice_get after.tasks.items t)
    ++ rank_marks t (slice_get before.ranks.items t) (slice_get after.ranks.items t)

-- ---- a mutex: its owner is another, none included
abbrev pub same_owner : Option ℕ → Option ℕ → Bool
same_owner None None = true
same_owner (Some t) (Some u) = t == u
same_owner _ _ = false

abbrev pub owner_in : Option (Option ℕ) → Option ℕ
owner_in None = None
owner_in (Some owner) = owner

unfoldable pub owner_marks : Observation → Observation → ℕ → List Mark
owner_marks before after m =
    let from = owner_in (slice_get before.owners.items m) in
    let to = owner_in (slice_get after.owners.items m) in
    when (not (same_owner from to)) (mark.Owner m from to)

-- ---- the machine: ticks and notices are more
abbrev pub tick_marks : ℕ → ℕ → List Mark
tick_marks before after = when (nat_lt before after) (mark.Ticked (after - before))

abbrev pub notice_marks : ℕ → ℕ → Option Notice → List Mark
notice_marks before after None = []
notice_marks before after (Some last) = when (nat_lt before after) (mark.Notice last.kind last.task (after - before))

-- all of them, where the machine had the parts `was` before and has `now` after
unfoldable pub marks_of : Observation → Observation → Parts → Parts → List Mark
marks_of before after was now =
    tick_marks before.ticks after.ticks
    ++ below (processor_marks before after was now) after.cpu_count
    ++ below (one_task_marks before after) after.task_count
    ++ below (owner_marks before after) after.mutex_count
    ++ notice_marks before.notices after.notices after.last_notice

-- the marks by which two machines differ: those of looks at both
pub record AreMarks (was now : Parts) (marks : List Mark) : Type 0 where
  pub before : Observation
  pub after : Observation
  pub seen_before : IsObservationOf before was
  pub seen_after : IsObservationOf after now
  pub all : marks ≡ marks_of before after was now
