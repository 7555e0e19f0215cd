-- Parts settle in the same way where tasks are ahead.
use Rattle.std.proofs.Common.{ℕ, zero, suc, List, [], ◌∷◌, Option, Some, None, length, refl, ap, ◌∙◌}
use Rattle.std.specs.Prelude.{slice_get}
use Rattle.evm_model.specs.Actions.{act, action_at}
use Rattle.evm_model.specs.Pipes.{Pipe}
use Rattle.evm_model.specs.Ranks.{best, next_in_band}
use Rattle.evm_model.specs.Settle.{current, is_oob, play_oob, play_in_band, play_oob_lines, play_in_band_lines, run_best, settle_oob_pipe, settle_oob, take_up, run_task, run_in_band, play_in_band_pipe, turn_in_band, settle_in_band, settle, nudge, settle_and_nudge}
use Rattle.evm_model.specs.State.{Parts}
use Rattle.evm_model.specs.Waits.{awaits_line, wake_waiter, wake_below}
use Rattle.evm_model.specs.declared.stage.Stage.TheVariants.{OutOfBand, InBand}
use Rattle.law_runs.specs.Ahead.{HeadStart, Ahead}
use Rattle.law_runs.proofs.Alike.AheadChanging.{ahead_if, ahead_when, ahead_by, ahead_processor}
use Rattle.law_runs.proofs.Alike.AheadDevices.{ahead_play, action_at-same, ahead_act}
use Rattle.law_runs.proofs.Alike.AheadReading.{at_task, at_pipe, task_count-same, current-same, is_oob-same, best-same, next_in_band-same}
use Rattle.law_runs.proofs.Alike.AheadTasks.{ahead_wake}
use Rattle.law_runs.proofs.Alike.AheadWaiters.{line-still}
use Rattle.law_runs.proofs.Alike.AheadTicking.{ahead_play_tick, ahead_rest_watch}

-- ---- lines are played
ahead_act_at : {lead : HeadStart} {p q : Parts} → Ahead lead p q → (l : ℕ) → Ahead lead (act (action_at l p) l p) (act (action_at l q) l q)
ahead_act_at {q = q} a l = rw (action_at-same a l) (ahead_act a (action_at l q) l)

ahead_play_oob : {lead : HeadStart} {p q : Parts} → Ahead lead p q → (was : Option ℕ) (c l : ℕ) → Ahead lead (play_oob was c l p) (play_oob was c l q)
unfolding play_oob
ahead_play_oob a was c l = let played = ahead_play a c OutOfBand l in ahead_if refl (ahead_play_tick played was c) (ahead_act_at played l)

ahead_wake_waiter : {lead : HeadStart} {p q : Parts} → Ahead lead p q → (c l t : ℕ) → Ahead lead (wake_waiter c l t p) (wake_waiter c l t q)
ahead_wake_waiter a c l t = ahead_when (at_task a (awaits_line c l) t) (λ e. ahead_wake a t 0 (line-still a c l t e)) a

ahead_wake_below : {lead : HeadStart} {p q : Parts} → Ahead lead p q → (c l t : ℕ) → Ahead lead (wake_below c l t p) (wake_below c l t q)
unfolding wake_below
ahead_wake_below a c l zero = a
ahead_wake_below a c l (suc t) = ahead_wake_waiter (ahead_wake_below a c l t) c l t

ahead_play_in_band : {lead : HeadStart} {p q : Parts} → Ahead lead p q → (c l : ℕ) → Ahead lead (play_in_band c l p) (play_in_band c l q)
unfolding play_in_band
ahead_play_in_band {q = q} a c l = rw (task_count-same a) (ahead_wake_below (ahead_play a c InBand l) c l (length q.tasks))

ahead_oob_lines : (was : Option ℕ) (c : ℕ) (lines : List ℕ) {lead : HeadStart} {p q : Parts} → Ahead lead p q → Ahead lead (play_oob_lines was c lines p) (play_oob_lines was c lines q)
unfolding play_oob_lines
ahead_oob_lines was c [] a = a
ahead_oob_lines was c (l ∷ lines) a = ahead_oob_lines was c lines (ahead_play_oob a was c l)

ahead_in_band_lines : (c : ℕ) (lines : List ℕ) {lead : HeadStart} {p q : Parts} → Ahead lead p q → Ahead lead (play_in_band_lines c lines p) (play_in_band_lines c lines q)
unfolding play_in_band_lines
ahead_in_band_lines c [] a = a
ahead_in_band_lines c (l ∷ lines) a = ahead_in_band_lines c lines (ahead_play_in_band a c l)

-- ---- the out-of-band part
ahead_run_best : {lead : HeadStart} {p q : Parts} → Ahead lead p q → (c : ℕ) → Ahead lead (run_best c p) (run_best c q)
ahead_run_best {q = q} a c = rw (best-same a c) (ahead_processor a c (λ processor. record processor { current = best c q.mutexes q.tasks }))

ahead_oob_pipe : {lead : HeadStart} {p q : Parts} → Ahead lead p q → (o : Option Pipe) (was : Option ℕ) (c : ℕ) → Ahead lead (settle_oob_pipe o was c p) (settle_oob_pipe o was c q)
ahead_oob_pipe a None was c = a
ahead_oob_pipe a (Some pipe) was c = ahead_if refl a (ahead_run_best (ahead_oob_lines was c pipe.oob.lines a) c)

ahead_settle_oob : {lead : HeadStart} {p q : Parts} → Ahead lead p q → (was : Option ℕ) (c : ℕ) → Ahead lead (settle_oob was c p) (settle_oob was c q)
unfolding settle_oob
ahead_settle_oob {p = p} {q = q} a was c = rw (at_pipe a (λ o. settle_oob_pipe o was c p) c) (ahead_oob_pipe a (slice_get q.pipes c) was c)

-- ---- the in-band part
ahead_run_in_band : {lead : HeadStart} {p q : Parts} → Ahead lead p q → (c : ℕ) → Ahead lead (run_in_band c p) (run_in_band c q)
ahead_run_in_band {q = q} a c =
    rw (next_in_band-same a c) (ahead_processor a c (λ processor. run_task (take_up processor.in_band_task (next_in_band c q.tasks)) processor))

ahead_in_band_pipe : {lead : HeadStart} {p q : Parts} → Ahead lead p q → (o : Option Pipe) (c : ℕ) → Ahead lead (play_in_band_pipe o c p) (play_in_band_pipe o c q)
ahead_in_band_pipe a None c = a
ahead_in_band_pipe a (Some pipe) c = ahead_if refl a (ahead_in_band_lines c pipe.in_band.lines a)

ahead_play_pipe : {lead : HeadStart} {p q : Parts} → Ahead lead p q → (c : ℕ) → Ahead lead (play_in_band_pipe (slice_get p.pipes c) c p) (play_in_band_pipe (slice_get q.pipes c) c q)
ahead_play_pipe {p = p} {q = q} a c = rw (at_pipe a (λ o. play_in_band_pipe o c p) c) (ahead_in_band_pipe a (slice_get q.pipes c) c)

ahead_turn : {lead : HeadStart} {p q : Parts} → Ahead lead p q → (c : ℕ) → Ahead lead (turn_in_band c p) (turn_in_band c q)
unfolding turn_in_band
ahead_turn a c = ahead_run_in_band (ahead_play_pipe a c) c

ahead_settle_in_band : {lead : HeadStart} {p q : Parts} → Ahead lead p q → (c : ℕ) → Ahead lead (settle_in_band c p) (settle_in_band c q)
unfolding settle_in_band
ahead_settle_in_band {p = p} {q = q} a c = ahead_if (is_oob-same a (current c p) ∙ ap (λ o. is_oob o q.tasks) (current-same a c)) a (ahead_turn a c)

ahead_settle : {lead : HeadStart} {p q : Parts} → Ahead lead p q → (was : Option ℕ) (c : ℕ) → Ahead lead (settle was c p) (settle was c q)
unfolding settle
ahead_settle a was c = ahead_rest_watch (ahead_settle_in_band (ahead_settle_oob a was c) c) was c

-- ---- the others
ahead_nudge : {lead : HeadStart} {p q : Parts} → Ahead lead p q → (c : ℕ) → Ahead lead (nudge c p) (nudge c q)
unfolding nudge
ahead_nudge a c = ahead_by a (nudge c) (λ k. refl) (λ k. refl) (λ k. refl)

pub ahead_settle_and_nudge : {lead : HeadStart} {p q : Parts} → Ahead lead p q → (was : Option ℕ) (c : ℕ) → Ahead lead (settle_and_nudge was c p) (settle_and_nudge was c q)
unfolding settle_and_nudge
ahead_settle_and_nudge a was c = ahead_nudge (ahead_settle a was c) c
