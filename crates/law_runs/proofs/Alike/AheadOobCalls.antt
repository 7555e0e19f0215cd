-- Each call of the out-of-band kernel that is about tasks, and each of either stage, does the same where tasks are ahead.
use Rattle.std.proofs.Common.{◌≡◌, ℕ, ◌+◌, ◌*◌, Bool, true, false, not, ◌&&◌, Option, Some, None, refl, ap}
use Rattle.std.specs.Prelude.{is_none, slice_get}
use Rattle.evm_model.specs.Good.{is_ready}
use Rattle.evm_model.specs.Mutexes.{owns_any}
use Rattle.evm_model.specs.OobCalls.{clock, is_scheduled_task, migrate, migrate_to, mode_of, move_task, moved, schedule_as, set_mode, set_sched, stall, state_bits, switch_in_band, switch_oob, yield_oob}
use Rattle.evm_model.specs.Policies.{policy_of}
use Rattle.evm_model.specs.Stages.{bit, is_stalled, stage_at}
use Rattle.evm_model.specs.State.{Parts}
use Rattle.evm_model.specs.Tasks.{is_weak}
use Rattle.evm_model.specs.Waits.{ready_on}
use Rattle.evm_model.specs.declared.call.Outcome.TheVariants.{Returns}
use Rattle.evm_model.specs.declared.stage.Stage.{Stage}
use Rattle.evm_model.specs.declared.stage.Stage.TheVariants.{OutOfBand}
use Rattle.evm_model.specs.declared.task.Class.{Class}
use Rattle.law_runs.specs.Ahead.{HeadStart, Ahead}
use Rattle.law_runs.proofs.Alike.AheadChanging.{AheadDone, ahead_task, done_if}
use Rattle.law_runs.proofs.Alike.AheadReading.{at_task, is_attached-same, is_oob-same, is_stalled-same, owns_any-same, stage_at-same}
use Rattle.law_runs.proofs.Alike.AheadStamping.{ahead_restamp}
use Rattle.law_runs.proofs.Alike.AheadTasks.{ahead_demote, ahead_mode, ahead_policy, ahead_stall}

ready-moved : (b : Bool) → is_ready (ready_on OutOfBand b) ≡ true
ready-moved true = refl
ready-moved false = refl

module _ {lead : HeadStart} {p q : Parts} (a : Ahead lead p q) where
  -- ---- calls 4 and 5, 51 and 52
  pub done_stall : (stage : Stage) (stalled : Bool) (c : ℕ) → AheadDone lead (stall stage stalled c p) (stall stage stalled c q)
  unfolding stall
  done_stall stage stalled c = (ahead_stall a c stage stalled, ap (λ b. Returns (bit b)) (is_stalled-same a stage c))

  -- ---- calls 32 and 33
  pub done_switch_oob : AheadDone lead (switch_oob p) (switch_oob q)
  unfolding switch_oob
  done_switch_oob = (a, refl)

  pub done_switch_in_band : (c t : ℕ) → AheadDone lead (switch_in_band c t p) (switch_in_band c t q)
  unfolding switch_in_band
  done_switch_in_band c t = done_if (is_stalled-same a OutOfBand c) (a, refl) (ahead_demote a c t, refl)

  -- ---- call 34
  schedule_by : (o : Option Class) (u priority : ℕ) → AheadDone lead (schedule_as o u priority p) (schedule_as o u priority q)
  schedule_by None u priority = (a, refl)
  schedule_by (Some class) u priority = (ahead_policy a u class priority, refl)

  pub done_set_sched : (u class priority : ℕ) → AheadDone lead (set_sched u class priority p) (set_sched u class priority q)
  unfolding set_sched
  done_set_sched u class priority =
      done_if (at_task a is_scheduled_task u) (schedule_by (policy_of class priority) u priority) (a, refl)

  -- ---- call 35
  pub done_set_mode : (t bits : ℕ) → AheadDone lead (set_mode t bits p) (set_mode t bits q)
  unfolding set_mode
  done_set_mode t bits =
      done_if refl (a, refl) (ahead_mode a t bits, ap Returns (at_task a mode_of t))

  -- ---- call 50
  pub done_yield_oob : (t : ℕ) → AheadDone lead (yield_oob t p) (yield_oob t q)
  unfolding yield_oob
  done_yield_oob t = (ahead_restamp a t, refl)

  -- ---- calls 53 and 54
  pub done_clock : AheadDone lead (clock p) (clock q)
  unfolding clock
  done_clock = (a, ap (λ (x : Parts). Returns x.ticks) a.same)

  bits-same : (c t : ℕ) → is_stalled (stage_at t p) c p ≡ is_stalled (stage_at t q) c q
  bits-same c t = rw (stage_at-same a t) (is_stalled-same a (stage_at t q) c)

  answer-same : (x y z x' y' z' : Bool) → x ≡ x' → y ≡ y' → z ≡ z' → Returns (bit x + 2 * bit y + 4 * bit z) ≡ Returns (bit x' + 2 * bit y' + 4 * bit z')
  answer-same x y z x' y' z' e f g = rw (e, f, g) refl

  pub done_state_bits : (c t : ℕ) → AheadDone lead (state_bits c t p) (state_bits c t q)
  unfolding state_bits
  done_state_bits c t = (a, answer-same _ _ _ _ _ _ (is_oob-same a (Some t)) (is_attached-same a t) (bits-same c t))

  -- ---- call 55
  ahead_move : (t d : ℕ) → Ahead lead (move_task t d p) (move_task t d q)
  unfolding move_task
  ahead_move t d = rw (owns_any-same a t) (ahead_restamp (ahead_task a t (moved d (owns_any t q.mutexes)) (λ x r. ready-moved (is_weak x.class && not (owns_any t q.mutexes)))) t)

  migrate_by : (c t d : ℕ) → AheadDone lead (migrate_to c t d p) (migrate_to c t d q)
  migrate_by c t d =
      done_if refl (a, refl) (done_if (is_stalled-same a OutOfBand c) (a, refl) (ahead_move t d, refl))

  pub done_migrate : (c t d : ℕ) → AheadDone lead (migrate c t d p) (migrate c t d q)
  unfolding migrate
  done_migrate c t d =
      done_if (ap (λ (x : Parts). is_none (slice_get x.processors d)) a.same) (a, refl) (migrate_by c t d)
