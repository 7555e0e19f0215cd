-- The calls on tasks, stages and lines look at no clock, and name no time.
use Rattle.std.proofs.Common.{ℕ, Bool, not, Option, Some, None, length, refl}
use Rattle.std.specs.Prelude.{slice_get, nat_le, nat_lt, is_none, ◌==◌}
use Rattle.evm_model.specs.Actions.{action_of, set_line, set_line_to}
use Rattle.evm_model.specs.InBandCalls.{exit, putc, yield_now, is_bad_entry, add_task, spawn, wait_line_unless, wait_line, attach_as, attach_task, detach}
use Rattle.evm_model.specs.Mutexes.{owns_any}
use Rattle.evm_model.specs.OobCalls.{stall, switch_oob, switch_in_band, is_scheduled_task, schedule_as, set_sched, set_mode, yield_oob, state_bits, moved, move_task, migrate}
use Rattle.evm_model.specs.Policies.{policy_of}
use Rattle.evm_model.specs.Profiles.{line_count}
use Rattle.evm_model.specs.Stages.{is_stalled, is_attached, wait_refusal}
use Rattle.evm_model.specs.State.{Parts, new_task}
use Rattle.evm_model.specs.Tasks.{restamp, leave_in_band}
use Rattle.evm_model.specs.declared.action.Action.{Action}
use Rattle.evm_model.specs.declared.errno.Errno.{Errno}
use Rattle.evm_model.specs.declared.limits.TheConstants.{MODE_LIMIT, TASK_LIMIT}
use Rattle.evm_model.specs.declared.stage.Stage.{Stage}
use Rattle.evm_model.specs.declared.stage.Stage.TheVariants.{OutOfBand, InBand}
use Rattle.evm_model.specs.declared.task.Class.{Class}
use Rattle.evm_model.specs.declared.task.TaskState.TheVariants.{Exit}
use Rattle.evm_model.specs.declared.task.Wait.TheVariants.{Line}
use Rattle.law_runs.specs.Timeless.{timeless, HasNoTimes}
use Rattle.law_runs.proofs.Alike.Timeless.{Clockless, ClocklessDone, at_once, onward, done_if, no_times_task, no_times_add_task}
use Rattle.law_runs.proofs.Alike.TimelessTasks.{clockless_restamp, clockless_policy, clockless_no_policy, clockless_mode, clockless_demote, clockless_begin_wait, clockless_end_task}

-- ---- calls of the in-band kernel
module _ (p : Parts) (h : HasNoTimes p) where
  pub done_exit : (c t : ℕ) → ClocklessDone (exit c t p) (exit c t (timeless p))
  unfolding exit
  done_exit c t = (clockless_end_task p h c t Exit, refl)

  pub done_putc : (byte : ℕ) → ClocklessDone (putc byte p) (putc byte (timeless p))
  unfolding putc
  done_putc byte = (at_once h, refl)

  pub done_yield : (c t : ℕ) → ClocklessDone (yield_now c t p) (yield_now c t (timeless p))
  unfolding yield_now leave_in_band
  done_yield c t = done_if (is_stalled InBand c p) (at_once h, refl) (onward (leave_in_band c) (clockless_restamp p h t) (λ q k. at_once k), refl)

  clockless_add_task : (entry value cpu : ℕ) → Clockless (add_task entry value cpu p) (add_task entry value cpu (timeless p))
  unfolding add_task
  clockless_add_task entry value cpu = at_once (no_times_add_task h (new_task cpu p.stamps) refl)

  pub done_spawn : (entry value cpu : ℕ) → ClocklessDone (spawn entry value cpu p) (spawn entry value cpu (timeless p))
  unfolding spawn
  done_spawn entry value cpu =
      done_if (is_bad_entry p.profile.ram entry) (at_once h, refl)
      (done_if (is_none (slice_get p.processors cpu)) (at_once h, refl)
      (done_if (nat_le TASK_LIMIT (length p.tasks)) (at_once h, refl) (clockless_add_task entry value cpu, refl)))

  wait_line_by : (o : Option Errno) (c t l : ℕ) → ClocklessDone (wait_line_unless o c t l p) (wait_line_unless o c t l (timeless p))
  unfolding leave_in_band
  wait_line_by (Some e) c t l = (at_once h, refl)
  wait_line_by None c t l = (onward (leave_in_band c) (clockless_begin_wait p h t (Line l)) (λ q k. at_once k), refl)

  pub done_wait_line : (c t l : ℕ) → ClocklessDone (wait_line c t l p) (wait_line c t l (timeless p))
  unfolding wait_line
  done_wait_line c t l = done_if (nat_le (line_count p.profile) l) (at_once h, refl) (wait_line_by (wait_refusal (is_stalled InBand c p) None p.ticks 0) c t l)

  attach_by : (o : Option Class) (t priority : ℕ) → ClocklessDone (attach_as o t priority p) (attach_as o t priority (timeless p))
  attach_by None t priority = (at_once h, refl)
  attach_by (Some class) t priority = done_if (is_attached t p) (at_once h, refl) (clockless_policy p h t class priority, refl)

  pub done_attach : (t class priority : ℕ) → ClocklessDone (attach_task t class priority p) (attach_task t class priority (timeless p))
  unfolding attach_task
  done_attach t class priority = attach_by (policy_of class priority) t priority

  pub done_detach : (t : ℕ) → ClocklessDone (detach t p) (detach t (timeless p))
  unfolding detach
  done_detach t = done_if (not (is_attached t p)) (at_once h, refl) (done_if (owns_any t p.mutexes) (at_once h, refl) (clockless_no_policy p h t, refl))

  set_line_by : (o : Option Action) (l : ℕ) → ClocklessDone (set_line_to o l p) (set_line_to o l (timeless p))
  set_line_by None l = (at_once h, refl)
  set_line_by (Some action) l = (at_once h, refl)

  pub done_set_line : (l action object : ℕ) → ClocklessDone (set_line l action object p) (set_line l action object (timeless p))
  unfolding set_line
  done_set_line l action object =
      done_if (nat_lt l 2) (at_once h, refl) (done_if (nat_le (line_count p.profile) l) (at_once h, refl) (set_line_by (action_of l action object p) l))

-- ---- calls of the out-of-band kernel
module _ (p : Parts) (h : HasNoTimes p) where
  pub done_stall : (stage : Stage) (stalled : Bool) (c : ℕ) → ClocklessDone (stall stage stalled c p) (stall stage stalled c (timeless p))
  unfolding stall
  done_stall stage stalled c = (at_once h, refl)

  pub done_switch_oob : ClocklessDone (switch_oob p) (switch_oob (timeless p))
  unfolding switch_oob
  done_switch_oob = (at_once h, refl)

  pub done_switch_in_band : (c t : ℕ) → ClocklessDone (switch_in_band c t p) (switch_in_band c t (timeless p))
  unfolding switch_in_band
  done_switch_in_band c t = done_if (is_stalled OutOfBand c p) (at_once h, refl) (clockless_demote p h c t, refl)

  schedule_by : (o : Option Class) (u priority : ℕ) → ClocklessDone (schedule_as o u priority p) (schedule_as o u priority (timeless p))
  schedule_by None u priority = (at_once h, refl)
  schedule_by (Some class) u priority = (clockless_policy p h u class priority, refl)

  pub done_set_sched : (u class priority : ℕ) → ClocklessDone (set_sched u class priority p) (set_sched u class priority (timeless p))
  unfolding set_sched
  done_set_sched u class priority = done_if (is_scheduled_task (slice_get p.tasks u)) (schedule_by (policy_of class priority) u priority) (at_once h, refl)

  pub done_set_mode : (t bits : ℕ) → ClocklessDone (set_mode t bits p) (set_mode t bits (timeless p))
  unfolding set_mode
  done_set_mode t bits = done_if (nat_lt MODE_LIMIT bits) (at_once h, refl) (clockless_mode p h t bits, refl)

  pub done_yield_oob : (t : ℕ) → ClocklessDone (yield_oob t p) (yield_oob t (timeless p))
  unfolding yield_oob
  done_yield_oob t = (clockless_restamp p h t, refl)

  pub done_state_bits : (c t : ℕ) → ClocklessDone (state_bits c t p) (state_bits c t (timeless p))
  unfolding state_bits
  done_state_bits c t = (at_once h, refl)

  clockless_move : (t d : ℕ) → Clockless (move_task t d p) (move_task t d (timeless p))
  unfolding move_task restamp
  clockless_move t d =
      at_once (no_times_task (no_times_task h t (moved d (owns_any t p.mutexes)) (λ x e. e)) t (λ task. record task { stamp = p.stamps }) (λ x e. e))

  pub done_migrate : (c t d : ℕ) → ClocklessDone (migrate c t d p) (migrate c t d (timeless p))
  unfolding migrate
  done_migrate c t d =
      done_if (is_none (slice_get p.processors d)) (at_once h, refl)
      (done_if (d == c) (at_once h, refl) (done_if (is_stalled OutOfBand c p) (at_once h, refl) (clockless_move t d, refl)))
