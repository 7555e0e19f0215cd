-- Alike parts settle alike.
use Rattle.std.proofs.Common.{◌≡◌, ℕ, zero, suc, ◌+◌, List, [], ◌∷◌, Bool, true, false, not, ◌&&◌, Option, Some, None, length, map, refl, ap, sym, ◌∙◌}
use Rattle.std.specs.Prelude.{slice_get, if◌then◌else◌, ◌==◌}
use Rattle.evm_lines.specs.Lines.{has_line}
use Rattle.evm_model.specs.Actions.{act, action_at}
use Rattle.evm_model.specs.Lists.{each, each_from}
use Rattle.evm_model.specs.Pipes.{Pipe, raise}
use Rattle.evm_model.specs.Ranks.{best, next_in_band}
use Rattle.evm_model.specs.Settle.{current, is_oob, differs, play_oob, play_in_band, play_oob_lines, play_in_band_lines, run_best, settle_oob_pipe, settle_oob, take_up, run_task, run_in_band, play_in_band_pipe, turn_in_band, settle_in_band, settle, wants_nudge, nudge_pipe, nudge, settle_and_nudge}
use Rattle.evm_model.specs.State.{Parts}
use Rattle.evm_model.specs.Waits.{awaits_line, wake_waiter, wake_below}
use Rattle.evm_model.specs.declared.stage.Stage.TheVariants.{OutOfBand, InBand}
use Rattle.law_runs.specs.Alike.{uncounted, erased, Alike}
use Rattle.law_runs.proofs.Alike.Changing.{alike_if, alike_processor}
use Rattle.law_runs.proofs.Alike.Devices.{uncounted-raise, alike_play, action_at-same, alike_act}
use Rattle.law_runs.proofs.Alike.Reading.{at_task, at_pipe, task_count-same, current-same, is_oob-same, best-same, next_in_band-same}
use Rattle.law_runs.proofs.Alike.Tasks.{alike_wake}
use Rattle.law_runs.proofs.Alike.Ticking.{alike_play_tick, alike_rest_watch}

-- ---- lines are played
alike_act_at : {p q : Parts} → Alike p q → (l : ℕ) → Alike (act (action_at l p) l p) (act (action_at l q) l q)
alike_act_at {q = q} a l = rw (action_at-same a l) (alike_act a (action_at l q) l)

alike_play_oob : {p q : Parts} → Alike p q → (was : Option ℕ) (c l : ℕ) → Alike (play_oob was c l p) (play_oob was c l q)
unfolding play_oob
alike_play_oob a was c l = let played = alike_play a c OutOfBand l in alike_if refl (alike_play_tick played was c) (alike_act_at played l)

alike_wake_waiter : {p q : Parts} → Alike p q → (c l t : ℕ) → Alike (wake_waiter c l t p) (wake_waiter c l t q)
alike_wake_waiter a c l t = alike_if (at_task (awaits_line c l) t (λ x. refl) a) (alike_wake a t 0) a

alike_wake_below : {p q : Parts} → Alike p q → (c l t : ℕ) → Alike (wake_below c l t p) (wake_below c l t q)
unfolding wake_below
alike_wake_below a c l zero = a
alike_wake_below a c l (suc t) = alike_wake_waiter (alike_wake_below a c l t) c l t

alike_play_in_band : {p q : Parts} → Alike p q → (c l : ℕ) → Alike (play_in_band c l p) (play_in_band c l q)
unfolding play_in_band
alike_play_in_band {q = q} a c l = rw (task_count-same a) (alike_wake_below (alike_play a c InBand l) c l (length q.tasks))

alike_oob_lines : (was : Option ℕ) (c : ℕ) (lines : List ℕ) {p q : Parts} → Alike p q → Alike (play_oob_lines was c lines p) (play_oob_lines was c lines q)
unfolding play_oob_lines
alike_oob_lines was c [] a = a
alike_oob_lines was c (l ∷ lines) a = alike_oob_lines was c lines (alike_play_oob a was c l)

alike_in_band_lines : (c : ℕ) (lines : List ℕ) {p q : Parts} → Alike p q → Alike (play_in_band_lines c lines p) (play_in_band_lines c lines q)
unfolding play_in_band_lines
alike_in_band_lines c [] a = a
alike_in_band_lines c (l ∷ lines) a = alike_in_band_lines c lines (alike_play_in_band a c l)

-- ---- the out-of-band part
alike_run_best : {p q : Parts} → Alike p q → (c : ℕ) → Alike (run_best c p) (run_best c q)
alike_run_best {q = q} a c = rw (best-same a c) (alike_processor a c (λ processor. record processor { current = best c q.mutexes q.tasks }))

alike_oob_pipe : {p q : Parts} → Alike p q → (o : Option Pipe) (was : Option ℕ) (c : ℕ) → Alike (settle_oob_pipe o was c p) (settle_oob_pipe o was c q)
alike_oob_pipe a None was c = a
alike_oob_pipe a (Some pipe) was c = alike_if refl a (alike_run_best (alike_oob_lines was c pipe.oob.lines a) c)

alike_settle_oob : {p q : Parts} → Alike p q → (was : Option ℕ) (c : ℕ) → Alike (settle_oob was c p) (settle_oob was c q)
unfolding settle_oob
alike_settle_oob {p = p} {q = q} a was c = rw (at_pipe (λ o. settle_oob_pipe o was c p) c (λ x. refl) a) (alike_oob_pipe a (slice_get q.pipes c) was c)

-- ---- the in-band part
alike_run_in_band : {p q : Parts} → Alike p q → (c : ℕ) → Alike (run_in_band c p) (run_in_band c q)
alike_run_in_band {q = q} a c =
    rw (next_in_band-same a c) (alike_processor a c (λ processor. run_task (take_up processor.in_band_task (next_in_band c q.tasks)) processor))

alike_in_band_pipe : {p q : Parts} → Alike p q → (o : Option Pipe) (c : ℕ) → Alike (play_in_band_pipe o c p) (play_in_band_pipe o c q)
alike_in_band_pipe a None c = a
alike_in_band_pipe a (Some pipe) c = alike_if refl a (alike_in_band_lines c pipe.in_band.lines a)

alike_play_pipe : {p q : Parts} → Alike p q → (c : ℕ) → Alike (play_in_band_pipe (slice_get p.pipes c) c p) (play_in_band_pipe (slice_get q.pipes c) c q)
alike_play_pipe {p = p} {q = q} a c = rw (at_pipe (λ o. play_in_band_pipe o c p) c (λ x. refl) a) (alike_in_band_pipe a (slice_get q.pipes c) c)

alike_turn : {p q : Parts} → Alike p q → (c : ℕ) → Alike (turn_in_band c p) (turn_in_band c q)
unfolding turn_in_band
alike_turn a c = alike_run_in_band (alike_play_pipe a c) c

alike_settle_in_band : {p q : Parts} → Alike p q → (c : ℕ) → Alike (settle_in_band c p) (settle_in_band c q)
unfolding settle_in_band
alike_settle_in_band {p = p} {q = q} a c = alike_if (is_oob-same a (current c p) ∙ ap (λ o. is_oob o q.tasks) (current-same a c)) a (alike_turn a c)

alike_settle : {p q : Parts} → Alike p q → (was : Option ℕ) (c : ℕ) → Alike (settle was c p) (settle was c q)
unfolding settle
alike_settle a was c = alike_rest_watch (alike_settle_in_band (alike_settle_oob a was c) c) was c

-- ---- the others
uncounted-if : (b : Bool) (x y : Pipe) → uncounted (if b then x else y) ≡ (if b then uncounted x else uncounted y)
uncounted-if true x y = refl
uncounted-if false x y = refl

-- whether processor d wants a nudge looks at no count of its pipe, and is the same of alike parts
wants-same : {p q : Parts} → Alike p q → (d : ℕ) (x : Pipe) → wants_nudge d (uncounted x) p ≡ wants_nudge d (uncounted x) q
wants-same a d x = λ i. not x.oob.stalled && (not (has_line x.wire 1) && differs (best-same a d i) (current-same a d i))

nudge-pipe : (c d : ℕ) (k : Parts) (x : Pipe) → uncounted (nudge_pipe c k d x) ≡ nudge_pipe c k d (uncounted x)
nudge-pipe c d k x =
    uncounted-if (d == c) x (if wants_nudge d x k then raise 1 x else x)
    ∙ ap (λ y. if d == c then uncounted x else y) (uncounted-if (wants_nudge d x k) (raise 1 x) x ∙ ap (λ y. if wants_nudge d x k then y else uncounted x) (uncounted-raise 1 x))

nudged-same : {p q : Parts} → Alike p q → (c d : ℕ) (x : Pipe) → nudge_pipe c p d (uncounted x) ≡ nudge_pipe c q d (uncounted x)
nudged-same a c d x = ap (λ b. if d == c then uncounted x else (if b then raise 1 (uncounted x) else uncounted x)) (wants-same a d x)

map-each : {X : Type 0} (g : X → X) (n : ℕ) (f h : ℕ → X → X) (xs : List X) → ((d : ℕ) (x : X) → g (f d x) ≡ h d (g x)) → map g (each_from n f xs) ≡ each_from n h (map g xs)
map-each g n f h [] e = refl
map-each g n f h (x ∷ xs) e = λ i. e n x i ∷ map-each g (n + 1) f h xs e i

alike_nudge : {p q : Parts} → Alike p q → (c : ℕ) → Alike (nudge c p) (nudge c q)
unfolding nudge
alike_nudge {p = p} {q = q} a c = record {
  same = nudged p (nudge_pipe c q) (λ d x. nudge-pipe c d p x ∙ nudged-same a c d x) ∙ ap (λ (k : Parts). record k { pipes = each (nudge_pipe c q) k.pipes }) a.same
      ∙ sym (nudged q (nudge_pipe c q) (λ d x. nudge-pipe c d q x));
  order = a.order;
  below = a.below;
  other_below = a.other_below;
}
  where
    nudged : (k : Parts) (h : ℕ → Pipe → Pipe) → ((d : ℕ) (x : Pipe) → uncounted (nudge_pipe c k d x) ≡ h d (uncounted x))
        → erased (record k { pipes = each (nudge_pipe c k) k.pipes }) ≡ record (erased k) { pipes = each h (map uncounted k.pipes) }
    nudged k h e = ap (λ pipes. record (erased k) { pipes = pipes }) (map-each uncounted 0 (nudge_pipe c k) h k.pipes e)

pub alike_settle_and_nudge : {p q : Parts} → Alike p q → (was : Option ℕ) (c : ℕ) → Alike (settle_and_nudge was c p) (settle_and_nudge was c q)
unfolding settle_and_nudge
alike_settle_and_nudge a was c = alike_nudge (alike_settle a was c) c
