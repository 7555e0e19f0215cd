-- What each call of the out-of-band kernel does to the parts, and what comes of it; and the calls of either stage.
use Rattle.std.specs.Prelude.{ℕ, ◌+◌, ◌*◌, Option, Some, None, Bool, false, not, ◌&&◌, ◌==◌, nat_lt, is_none, if◌then◌else◌, slice_get}
use Rattle.evm_model.specs.Mutexes.{owns_any}
use Rattle.evm_model.specs.Pipes.{set_stall}
use Rattle.evm_model.specs.Policies.{policy_of}
use Rattle.evm_model.specs.Current.{is_oob}
use Rattle.evm_model.specs.Stages.{refused, bit, is_stalled, is_class, is_attached, stage_at}
use Rattle.evm_model.specs.State.{Parts, on_pipe, on_task}
use Rattle.evm_model.specs.Tasks.{restamp, is_live, is_weak, demote, set_policy, set_mode_bits}
use Rattle.evm_model.specs.Waits.{ready_on}
use Rattle.evm_model.specs.declared.call.Outcome.{Outcome}
use Rattle.evm_model.specs.declared.call.Outcome.TheVariants.{Returns}
use Rattle.evm_model.specs.declared.errno.Errno.TheVariants.{NotPermitted, NoSuchTask, Busy, Invalid}
use Rattle.evm_model.specs.declared.limits.TheConstants.{MODE_LIMIT}
use Rattle.evm_model.specs.declared.stage.Stage.{Stage}
use Rattle.evm_model.specs.declared.stage.Stage.TheVariants.{OutOfBand}
use Rattle.evm_model.specs.declared.task.Class.{Class}
use Rattle.evm_model.specs.declared.task.Task.{Task}

-- 4 and 5, 51 and 52: a stage is stalled, or not; the old bit is answered
unfoldable pub stall : Stage → Bool → ℕ → Parts → Parts × Outcome
stall stage stalled c p = (on_pipe c (set_stall stage stalled) p, Returns (bit (is_stalled stage c p)))

-- 32: the task is out-of-band, as it was promoted for the call
unfoldable pub switch_oob : Parts → Parts × Outcome
switch_oob p = (p, Returns 0)

-- 33: the task goes in-band; not while out-of-band is stalled
unfoldable pub switch_in_band : ℕ → ℕ → Parts → Parts × Outcome
switch_in_band c t p = if is_stalled OutOfBand c p then refused NotPermitted p else (demote c t p, Returns 0)

-- a task that has not ended and has a class
abbrev pub is_scheduled_task : Option Task → Bool
is_scheduled_task None = false
is_scheduled_task (Some task) = is_live task.state && is_class task.class

-- 34: task u, of any processor, has another class and priority; its stamp stays
abbrev pub schedule_as : Option Class → ℕ → ℕ → Parts → Parts × Outcome
schedule_as None u priority p = refused Invalid p
schedule_as (Some class) u priority p = (set_policy u class priority p, Returns 0)

unfoldable pub set_sched : ℕ → ℕ → ℕ → Parts → Parts × Outcome
set_sched u class priority p =
    if is_scheduled_task (slice_get p.tasks u) then schedule_as (policy_of class priority) u priority p
    else refused NoSuchTask p

abbrev pub mode_of : Option Task → ℕ
mode_of None = 0
mode_of (Some task) = task.mode.bits

-- 35: the task has these mode bits; the old ones are answered
unfoldable pub set_mode : ℕ → ℕ → Parts → Parts × Outcome
set_mode t bits p =
    if nat_lt MODE_LIMIT bits then refused Invalid p
    else (set_mode_bits t bits p, Returns (mode_of (slice_get p.tasks t)))

-- 50: the task goes behind the others of its rank
unfoldable pub yield_oob : ℕ → Parts → Parts × Outcome
yield_oob t p = (restamp t p, Returns 0)

-- 53: how many ticks there were
unfoldable pub clock : Parts → Parts × Outcome
clock p = (p, Returns p.ticks)

-- 54: 1 for an out-of-band task, 2 for an attached one, 4 where its own stage is stalled
unfoldable pub state_bits : ℕ → ℕ → Parts → Parts × Outcome
state_bits c t p =
    (p, Returns (bit (is_oob (Some t) p.tasks) + 2 * bit (is_attached t p) + 4 * bit (is_stalled (stage_at t p) c p)))

-- ---- 55: another processor
-- a task of processor d: it is ready there out-of-band, but in-band if it is weak and owns no mutex
abbrev pub moved : ℕ → Bool → Task → Task
moved d owns task = record task { cpu = d; state = ready_on OutOfBand (is_weak task.class && not owns) }

-- task t is of processor d, with a fresh stamp
unfoldable pub move_task : ℕ → ℕ → Parts → Parts
move_task t d p = restamp t (on_task t (moved d (owns_any t p.mutexes)) p)

-- from its own processor c, where out-of-band isn't stalled; it is there already if d is c
abbrev pub migrate_to : ℕ → ℕ → ℕ → Parts → Parts × Outcome
migrate_to c t d p =
    if d == c then (p, Returns 0)
    else (if is_stalled OutOfBand c p then refused Busy p else (move_task t d p, Returns 0))

unfoldable pub migrate : ℕ → ℕ → ℕ → Parts → Parts × Outcome
migrate c t d p = if is_none (slice_get p.processors d) then refused Invalid p else migrate_to c t d p
