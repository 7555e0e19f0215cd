-- What is done to one task.
use Rattle.std.specs.Prelude.{ℕ, ◌+◌, ◌-◌, ◌&&◌, nat_le, Option, Some, None, Bool, true, false, if◌then◌else◌}
use Rattle.evm_model.specs.Pipes.{set_stall}
use Rattle.evm_model.specs.Ranks.{is_oob_ready}
use Rattle.evm_model.specs.State.{Parts, no_mode, on_task, on_processor, on_pipe}
use Rattle.evm_model.specs.declared.limits.TheConstants.{SLICE}
use Rattle.evm_model.specs.declared.stage.Stage.TheVariants.{OutOfBand}
use Rattle.evm_model.specs.declared.task.Class.{Class}
use Rattle.evm_model.specs.declared.task.Class.TheVariants.{Unattached, RoundRobin, Weak}
use Rattle.evm_model.specs.declared.task.Task.{Task}
use Rattle.evm_model.specs.declared.task.TaskState.{TaskState}
use Rattle.evm_model.specs.declared.task.TaskState.TheVariants.{InReady, OobReady, Exit, Faulted}

-- task t has a fresh stamp
unfoldable pub restamp : ℕ → Parts → Parts
restamp t p = record (on_task t (λ task. record task { stamp = p.stamps }) p) { stamps = p.stamps + 1 }

-- task t has another state
unfoldable pub set_state : ℕ → TaskState → Parts → Parts
set_state t state p = on_task t (λ task. record task { state = state }) p

-- processor c has no in-band current task
unfoldable pub leave_in_band : ℕ → Parts → Parts
leave_in_band c p = on_processor c (λ processor. record processor { in_band_task = None }) p

-- task t goes in-band: it is ready there, and out-of-band isn't stalled on its processor c
unfoldable pub demote : ℕ → ℕ → Parts → Parts
demote c t p = restamp t (set_state t InReady (on_pipe c (set_stall OutOfBand false) p))

-- task t goes out-of-band: it is ready there, and in-band current on c no more
unfoldable pub promote : ℕ → ℕ → Parts → Parts
promote c t p = leave_in_band c (restamp t (set_state t OobReady p))

-- task t has a class and a priority, and a whole slice
unfoldable pub set_policy : ℕ → Class → ℕ → Parts → Parts
set_policy t class priority p = on_task t (λ task. record task { class = class; priority = priority; slice = SLICE }) p

-- task t has no class, no priority and no mode bits
unfoldable pub clear_policy : ℕ → Parts → Parts
clear_policy t p = on_task t (λ task. record task { class = Unattached; priority = 0; mode = no_mode }) p

-- task t has these mode bits
unfoldable pub set_mode_bits : ℕ → ℕ → Parts → Parts
set_mode_bits t bits p = on_task t (λ task. record task { mode = record { bits = bits } }) p

-- task t has n ticks left
unfoldable pub set_slice : ℕ → ℕ → Parts → Parts
set_slice t slice p = on_task t (λ task. record task { slice = slice }) p

-- a task that has not ended
abbrev pub is_live : TaskState → Bool
is_live Exit = false
is_live (Faulted f) = false
is_live _ = true

abbrev pub is_round_robin : Class → Bool
is_round_robin RoundRobin = true
is_round_robin _ = false

abbrev pub is_weak : Class → Bool
is_weak Weak = true
is_weak _ = false

-- a tick less; the last one gives a whole slice, and a fresh stamp
unfoldable pub spend_slice : ℕ → ℕ → Parts → Parts
spend_slice t slice p = if nat_le slice 1 then restamp t (set_slice t SLICE p) else set_slice t (slice - 1) p

-- a task that is ready out-of-band and of the round-robin class spends a tick of its slice
abbrev pub spend_task : Option Task → ℕ → Parts → Parts
spend_task None t p = p
spend_task (Some task) t p = if is_oob_ready task.state && is_round_robin task.class then spend_slice t task.slice p else p
