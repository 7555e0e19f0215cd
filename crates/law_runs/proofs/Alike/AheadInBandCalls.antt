-- Each call of the in-band kernel does the same where tasks are ahead.
use Rattle.std.proofs.Common.{◌≡◌, ℕ, [], ◌∷◌, ◌++◌, Option, Some, None, refl, ap}
use Rattle.std.specs.Prelude.{◌%◌, is_none, nat_le, not, slice_get}
use Rattle.evm_model.specs.InBandCalls.{attach_as, attach_task, detach, exit, is_bad_entry, last_bytes, putc, spawn, wait_line, wait_line_unless, yield_now}
use Rattle.evm_model.specs.Policies.{policy_of}
use Rattle.evm_model.specs.Profiles.{line_count}
use Rattle.evm_model.specs.State.{Parts}
use Rattle.evm_model.specs.declared.call.Outcome.TheVariants.{Returns}
use Rattle.evm_model.specs.declared.errno.Errno.{Errno}
use Rattle.evm_model.specs.declared.limits.TheConstants.{TASK_LIMIT}
use Rattle.evm_model.specs.declared.stage.Stage.TheVariants.{InBand}
use Rattle.evm_model.specs.declared.task.Class.{Class}
use Rattle.evm_model.specs.declared.task.TaskState.TheVariants.{Exit}
use Rattle.evm_model.specs.declared.task.Wait.TheVariants.{Line}
use Rattle.law_runs.specs.Ahead.{HeadStart, Ahead}
use Rattle.law_runs.proofs.Alike.AheadChanging.{AheadDone, ahead_by, done_if}
use Rattle.law_runs.proofs.Alike.AheadReading.{is_attached-same, is_stalled-same, owns_any-same, task_count-same}
use Rattle.law_runs.proofs.Alike.AheadStamping.{ahead_add_task, ahead_restamp}
use Rattle.law_runs.proofs.Alike.AheadTasks.{ahead_begin_wait, ahead_end_task, ahead_leave, ahead_no_policy, ahead_policy, wait_refusal-same}

module _ {lead : HeadStart} {p q : Parts} (a : Ahead lead p q) where
  -- ---- call 0
  pub done_exit : (c t : ℕ) → lead.rows t ≡ 0 → AheadDone lead (exit c t p) (exit c t q)
  unfolding exit
  done_exit c t z = (ahead_end_task a c t Exit z, refl)

  -- ---- call 1
  pub done_putc : (byte : ℕ) → AheadDone lead (putc byte p) (putc byte q)
  unfolding putc
  done_putc byte = (ahead_by a (λ k. record k { console = last_bytes (k.console ++ (byte % 256) ∷ []) }) (λ k. refl) (λ k. refl) (λ k. refl), refl)

  -- ---- call 2
  pub done_yield : (c t : ℕ) → AheadDone lead (yield_now c t p) (yield_now c t q)
  unfolding yield_now
  done_yield c t = done_if (is_stalled-same a InBand c) (a, refl) (ahead_leave (ahead_restamp a t) c, refl)

  -- ---- call 3
  pub done_spawn : (entry value cpu : ℕ) → AheadDone lead (spawn entry value cpu p) (spawn entry value cpu q)
  unfolding spawn
  done_spawn entry value cpu =
      done_if (ap (λ (x : Parts). is_bad_entry x.profile.ram entry) a.same) (a, refl)
      (done_if (ap (λ (x : Parts). is_none (slice_get x.processors cpu)) a.same) (a, refl)
      (done_if (ap (nat_le TASK_LIMIT) (task_count-same a)) (a, refl) (ahead_add_task a entry value cpu, ap Returns (task_count-same a))))

  -- ---- call 6
  wait_by : (o : Option Errno) (c t l : ℕ) → lead.rows t ≡ 0 → AheadDone lead (wait_line_unless o c t l p) (wait_line_unless o c t l q)
  wait_by (Some e) c t l z = (a, refl)
  wait_by None c t l z = (ahead_leave (ahead_begin_wait a t (Line l) 0 z) c, refl)

  wait_unless : (o o' : Option Errno) (c t l : ℕ) → lead.rows t ≡ 0 → o ≡ o' → AheadDone lead (wait_line_unless o c t l p) (wait_line_unless o' c t l q)
  wait_unless o o' c t l z e = rw (← e) (wait_by o c t l z)

  pub done_wait_line : (c t l : ℕ) → lead.rows t ≡ 0 → AheadDone lead (wait_line c t l p) (wait_line c t l q)
  unfolding wait_line
  done_wait_line c t l z =
      done_if (ap (λ (x : Parts). nat_le (line_count x.profile) l) a.same) (a, refl) (wait_unless _ _ c t l z (wait_refusal-same a InBand c None None 0 refl))

  -- ---- calls 7 and 8
  attach_by : (o : Option Class) (t priority : ℕ) → AheadDone lead (attach_as o t priority p) (attach_as o t priority q)
  attach_by None t priority = (a, refl)
  attach_by (Some class) t priority =
      done_if (is_attached-same a t) (a, refl) (ahead_policy a t class priority, refl)

  pub done_attach : (t class priority : ℕ) → AheadDone lead (attach_task t class priority p) (attach_task t class priority q)
  unfolding attach_task
  done_attach t class priority = attach_by (policy_of class priority) t priority

  pub done_detach : (t : ℕ) → AheadDone lead (detach t p) (detach t q)
  unfolding detach
  done_detach t =
      done_if (ap not (is_attached-same a t)) (a, refl)
      (done_if (owns_any-same a t) (a, refl) (ahead_no_policy a t, refl))
