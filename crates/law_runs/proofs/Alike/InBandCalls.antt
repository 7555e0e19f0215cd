-- Each call of the in-band kernel does alike to alike parts.
use Rattle.std.proofs.Common.{◌≡◌, ℕ, Option, Some, None, refl, ap}
use Rattle.std.specs.Prelude.{is_none, nat_le, not, slice_get}
use Rattle.evm_model.specs.InBandCalls.{attach_as, attach_task, detach, exit, is_bad_entry, putc, spawn, wait_line, wait_line_unless, yield_now}
use Rattle.evm_model.specs.Policies.{policy_of}
use Rattle.evm_model.specs.Profiles.{line_count}
use Rattle.evm_model.specs.State.{Parts}
use Rattle.evm_model.specs.declared.call.Outcome.TheVariants.{Returns}
use Rattle.evm_model.specs.declared.errno.Errno.{Errno}
use Rattle.evm_model.specs.declared.limits.TheConstants.{TASK_LIMIT}
use Rattle.evm_model.specs.declared.stage.Stage.TheVariants.{InBand}
use Rattle.evm_model.specs.declared.task.Class.{Class}
use Rattle.evm_model.specs.declared.task.TaskState.TheVariants.{Exit}
use Rattle.evm_model.specs.declared.task.Wait.TheVariants.{Line}
use Rattle.law_runs.specs.Alike.{Alike}
use Rattle.law_runs.proofs.Alike.Changing.{AlikeDone, done_if}
use Rattle.law_runs.proofs.Alike.Reading.{is_attached-same, is_stalled-same, owns_any-same, task_count-same}
use Rattle.law_runs.proofs.Alike.Stamping.{alike_add_task, alike_restamp}
use Rattle.law_runs.proofs.Alike.Tasks.{alike_begin_wait, alike_end_task, alike_leave, alike_no_policy, alike_policy, wait_refusal-same}

module _ {p q : Parts} (a : Alike p q) where
  -- ---- call 0
  pub done_exit : (c t : ℕ) → AlikeDone (exit c t p) (exit c t q)
  unfolding exit
  done_exit c t = (alike_end_task a c t Exit, refl)

  -- ---- call 1
  pub done_putc : (byte : ℕ) → AlikeDone (putc byte p) (putc byte q)
  unfolding putc
  done_putc byte = (record { same = a.same; order = a.order; below = a.below; other_below = a.other_below }, refl)

  -- ---- call 2
  pub done_yield : (c t : ℕ) → AlikeDone (yield_now c t p) (yield_now c t q)
  unfolding yield_now
  done_yield c t = done_if (is_stalled-same a InBand c) (a, refl) (alike_leave (alike_restamp a t) c, refl)

  -- ---- call 3
  pub done_spawn : (entry value cpu : ℕ) → AlikeDone (spawn entry value cpu p) (spawn entry value cpu q)
  unfolding spawn
  done_spawn entry value cpu =
      done_if (ap (λ (x : Parts). is_bad_entry x.profile.ram entry) a.same) (a, refl)
      (done_if (ap (λ (x : Parts). is_none (slice_get x.processors cpu)) a.same) (a, refl)
      (done_if (ap (nat_le TASK_LIMIT) (task_count-same a)) (a, refl) (alike_add_task a entry value cpu, ap Returns (task_count-same a))))

  -- ---- call 6
  wait_by : (o : Option Errno) (c t l : ℕ) → AlikeDone (wait_line_unless o c t l p) (wait_line_unless o c t l q)
  wait_by (Some e) c t l = (a, refl)
  wait_by None c t l = (alike_leave (alike_begin_wait a t (Line l) 0) c, refl)

  wait_unless : (o o' : Option Errno) (c t l : ℕ) → o ≡ o' → AlikeDone (wait_line_unless o c t l p) (wait_line_unless o' c t l q)
  wait_unless o o' c t l e = rw (← e) (wait_by o c t l)

  pub done_wait_line : (c t l : ℕ) → AlikeDone (wait_line c t l p) (wait_line c t l q)
  unfolding wait_line
  done_wait_line c t l =
      done_if (ap (λ (x : Parts). nat_le (line_count x.profile) l) a.same) (a, refl) (wait_unless _ _ c t l (wait_refusal-same a InBand c None None 0 refl))

  -- ---- calls 7 and 8
  attach_by : (o : Option Class) (t priority : ℕ) → AlikeDone (attach_as o t priority p) (attach_as o t priority q)
  attach_by None t priority = (a, refl)
  attach_by (Some class) t priority =
      done_if (is_attached-same a t) (a, refl) (alike_policy a t class priority, refl)

  pub done_attach : (t class priority : ℕ) → AlikeDone (attach_task t class priority p) (attach_task t class priority q)
  unfolding attach_task
  done_attach t class priority = attach_by (policy_of class priority) t priority

  pub done_detach : (t : ℕ) → AlikeDone (detach t p) (detach t q)
  unfolding detach
  done_detach t =
      done_if (ap not (is_attached-same a t)) (a, refl)
      (done_if (owns_any-same a t) (a, refl) (alike_no_policy a t, refl))
