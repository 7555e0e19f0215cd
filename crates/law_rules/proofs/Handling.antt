-- What out-of-band plays do stirs tasks: deadlines end waits, timers expire, lines act, a slice takes a tick, and the watchdog
-- counts.
use Rattle.std.proofs.Common.{◌≡◌, ℕ, zero, suc, ◌+◌, ◌<◌, List, [], ◌∷◌, Bool, true, false, Option, Some, None, length, refl, ap, sym, ◌∙◌, arith}
use Rattle.std.specs.Prelude.{slice_get, bit_or, nat_lt, nat_le, not, ◌&&◌, ◌==◌, ◌^◌, if◌then◌else◌}
use Rattle.std.proofs.lemmas.Bool.Decides.{nat_tests}
use Rattle.evm_model.proofs.Lists.{change-elsewhere}
use Rattle.evm_model.specs.Actions.{act, action_at}
use Rattle.evm_model.specs.Deadlines.{next_due, end_wait_for, end_wait_in, end_wait_of, end_wait, end_next, end_rounds, end_waits}
use Rattle.evm_model.specs.Errnos.{refusal_answer}
use Rattle.evm_model.specs.Flags.{post_to, post_known, post}
use Rattle.evm_model.specs.Good.{IsOneOf, event_of_task, event_at, is_waiting}
use Rattle.evm_model.specs.Lists.{change}
use Rattle.evm_model.specs.Pipes.{Pipe, arrive, play}
use Rattle.evm_model.specs.Notices.{asks_for, notify}
use Rattle.evm_model.specs.Ranks.{is_oob_ready, is_in_ready, runs_oob_task, may_run_oob}
use Rattle.evm_model.specs.Semaphores.{sem_put_to, sem_put_known, sem_put}
use Rattle.evm_model.specs.Settle.{spend, play_tick, handle_oob, play_oob, play_oob_lines}
use Rattle.evm_model.specs.State.{Parts, Notices, on_flags, on_pipe, on_watch}
use Rattle.evm_model.specs.Tasks.{restamp, set_state, set_slice, spend_slice, spend_task, is_round_robin}
use Rattle.evm_model.specs.Timers.{is_due_timer, expired, taken, expire_to, expire_known, expire, expire_below, expire_timers}
use Rattle.evm_model.specs.Waits.{first_waiter}
use Rattle.evm_model.specs.Watch.{watch, overrun, watch_task, watch_was}
use Rattle.evm_model.specs.declared.action.Action.{Action}
use Rattle.evm_model.specs.declared.action.Action.TheVariants.{Nothing, Puts, Posts}
use Rattle.evm_model.specs.declared.call.Outcome.{Outcome}
use Rattle.evm_model.specs.declared.errno.Errno.TheVariants.{TimedOut}
use Rattle.evm_model.specs.declared.limits.TheConstants.{FLAG_BITS, SLICE, SEMAPHORE_COUNT_LIMIT}
use Rattle.evm_model.specs.declared.notice.NoticeKind.{NoticeKind}
use Rattle.evm_model.specs.declared.notice.NoticeKind.TheVariants.{Overran}
use Rattle.evm_model.specs.declared.stage.Stage.TheVariants.{OutOfBand, InBand}
use Rattle.evm_model.specs.declared.task.Task.{Task}
use Rattle.evm_model.specs.declared.task.TaskState.{TaskState}
use Rattle.evm_model.specs.declared.task.TaskState.TheVariants.{InReady, OobReady, Waits}
use Rattle.evm_model.specs.declared.task.Wait.{Wait}
use Rattle.evm_model.specs.declared.task.Wait.TheVariants.{Sleep, Event, Semaphore, Flags, Timer as For}
use Rattle.evm_model.specs.declared.timer.Timer.{Timer}
use Rattle.law_rules.proofs.Firsts.{both, eqb-is}
use Rattle.law_rules.proofs.Shapes.{IsShaped, positive, shaped-pipe, shaped-plain, shaped-restamp, shaped-notices, shaped-watch}
use Rattle.law_rules.proofs.Stirring.{Stirs, IsIdle, stirs-none, stirs-then, stirs-if, stirs-task, stirs-restamp, stirs-others, wake-stirs, first-idle, first-wakes, reacquire-stirs}
use Rattle.law_rules.proofs.Waited.{deadlines-change}
use Rattle.law_rules.proofs.Waking.{AreAlike, alike-none, alike-then, alike-in_band, alike-other, alike-change, one-cases}

-- ---- deadlines end waits
-- the wait of the task
record IsIn (wait : Wait) (t : ℕ) (tasks : List Task) : Type 0 where
  task : Task
  there : slice_get tasks t ≡ Some task
  state : task.state ≡ Waits wait

in-idle : (wait : Wait) (t : ℕ) (tasks : List Task) → IsIn wait t tasks → IsIdle t tasks
in-idle wait t tasks i task e = let same : i.task ≡ task = (let two : Some i.task ≡ Some task = sym i.there ∙ e in cc) in rw (← same, i.state) refl

in-event : (e t : ℕ) (tasks : List Task) → IsIn (Event e) t tasks → event_at tasks t ≡ Some e
in-event e t tasks i = ap event_of_task i.there ∙ rw i.state refl

for-stirs : (wait : Wait) (t : ℕ) (k : Parts) → IsIn wait t k.tasks → IsShaped k → Stirs k (end_wait_for wait t k)
for-stirs Sleep t k i s = wake-stirs t 0 k (in-idle Sleep t k.tasks i) s
for-stirs (Event e) t k i s = reacquire-stirs e t (refusal_answer TimedOut) k (in-event e t k.tasks i) s
for-stirs wait t k i s = wake-stirs t (refusal_answer TimedOut) k (in-idle _ t k.tasks i) s

in-stirs : (state : TaskState) (task : Task) (t : ℕ) (k : Parts) → slice_get k.tasks t ≡ Some task → task.state ≡ state → IsShaped k → Stirs k (end_wait_in state t k)
in-stirs (Waits wait) task t k e h s = for-stirs wait t k (record { task = task; there = e; state = h }) s
in-stirs state task t k e h s = stirs-none k s

of-stirs : (o : Option Task) (t : ℕ) (k : Parts) → slice_get k.tasks t ≡ o → IsShaped k → Stirs k (end_wait_of o t k)
of-stirs None t k e s = stirs-none k s
of-stirs (Some task) t k e s = in-stirs task.state task t k e refl s

pub end_wait-stirs : (t : ℕ) (k : Parts) → IsShaped k → Stirs k (end_wait t k)
unfolding end_wait
end_wait-stirs t k s = of-stirs (slice_get k.tasks t) t k refl s

next-stirs : (o : Option ℕ) (k : Parts) → IsShaped k → Stirs k (end_next o k)
next-stirs None k s = stirs-none k s
next-stirs (Some t) k s = end_wait-stirs t k s

rounds-stirs : (c n : ℕ) (k : Parts) → IsShaped k → Stirs k (end_rounds c n k)
unfolding end_rounds
rounds-stirs c zero k s = stirs-none k s
rounds-stirs c (suc n) k s =
    let so_far : Stirs k (end_rounds c n k) = rounds-stirs c n k s in
    stirs-then k (end_rounds c n k) _ so_far (next-stirs (next_due c (end_rounds c n k)) (end_rounds c n k) so_far.shape)

pub end_waits-stirs : (c : ℕ) (k : Parts) → IsShaped k → Stirs k (end_waits c k)
unfolding end_waits
end_waits-stirs c k s = rounds-stirs c (length k.tasks) k s

-- ---- timers expire
stirs-timers : (k : Parts) (timers : List Timer) → IsShaped k → Stirs k (record k { timers = timers })
stirs-timers k timers s = stirs-others k k.semaphores k.flags timers k.actions k.console s

expire_to-stirs : (o : Option ℕ) (n : ℕ) (timer : Timer) (k : Parts) → first_waiter (For n) k ≡ o → IsShaped k → Stirs k (expire_to o n timer k)
expire_to-stirs None n timer k e s = stirs-timers k _ s
expire_to-stirs (Some t) n timer k e s =
    let less : Stirs k (record k { timers = change (λ (old : Timer). taken timer) k.timers n }) = stirs-timers k _ s in
    stirs-then k (record k { timers = change (λ (old : Timer). taken timer) k.timers n }) _ less (wake-stirs t timer.expiries _ (first-idle (For n) t k e) less.shape)

expire_known-stirs : (o : Option Timer) (c n : ℕ) (k : Parts) → IsShaped k → Stirs k (expire_known o c n k)
expire_known-stirs None c n k s = stirs-none k s
expire_known-stirs (Some timer) c n k s =
    stirs-if (is_due_timer c k.ticks timer) k _ k (λ e. expire_to-stirs (first_waiter (For n) k) n (expired k.ticks timer) k refl s) (λ e. stirs-none k s)

expire-stirs : (c n : ℕ) (k : Parts) → IsShaped k → Stirs k (expire c n k)
unfolding expire
expire-stirs c n k s = expire_known-stirs (slice_get k.timers n) c n k s

expire_below-stirs : (c n : ℕ) (k : Parts) → IsShaped k → Stirs k (expire_below c n k)
unfolding expire_below
expire_below-stirs c zero k s = stirs-none k s
expire_below-stirs c (suc n) k s =
    let so_far : Stirs k (expire_below c n k) = expire_below-stirs c n k s in
    stirs-then k (expire_below c n k) _ so_far (expire-stirs c n (expire_below c n k) so_far.shape)

pub expire_timers-stirs : (c : ℕ) (k : Parts) → IsShaped k → Stirs k (expire_timers c k)
unfolding expire_timers
expire_timers-stirs c k s = expire_below-stirs c (length k.timers) k s

-- ---- lines act
put_if : (b : Bool) (k : Parts) (x y : Parts × Outcome) → Stirs k x.0 → Stirs k y.0 → Stirs k (if◌then◌else◌ {A = Parts × Outcome} b x y).0
put_if true k x y p q = p
put_if false k x y p q = q

put_to-stirs : (o : Option ℕ) (r count : ℕ) (k : Parts) → first_waiter (Semaphore r) k ≡ o → IsShaped k → Stirs k (sem_put_to o r count k).0
put_to-stirs None r count k e s = put_if (nat_le SEMAPHORE_COUNT_LIMIT count) k _ _ (stirs-none k s) (stirs-others k _ k.flags k.timers k.actions k.console s)
put_to-stirs (Some t) r count k e s = first-wakes t 0 (Semaphore r) k e s

put_known-stirs : (o : Option ℕ) (r : ℕ) (k : Parts) → IsShaped k → Stirs k (sem_put_known o r k).0
put_known-stirs None r k s = stirs-none k s
put_known-stirs (Some count) r k s = put_to-stirs (first_waiter (Semaphore r) k) r count k refl s

pub sem_put-stirs : (r : ℕ) (k : Parts) → IsShaped k → Stirs k (sem_put r k).0
unfolding sem_put
sem_put-stirs r k s = put_known-stirs (slice_get k.semaphores r) r k s

stirs-flags : (k : Parts) (flags : List ℕ) → IsShaped k → Stirs k (record k { flags = flags })
stirs-flags k flags s = stirs-others k k.semaphores flags k.timers k.actions k.console s

post_to-stirs : (o : Option ℕ) (f word : ℕ) (k : Parts) → first_waiter (Flags f) k ≡ o → IsShaped k → Stirs k (post_to o f word k)
post_to-stirs None f word k e s = stirs-flags k _ s
post_to-stirs (Some t) f word k e s =
    let taken : Parts = on_flags f (λ old. 0) k in
    let less : Stirs k taken = stirs-flags k _ s in
    stirs-then k taken _ less (wake-stirs t word taken (first-idle (Flags f) t k e) less.shape)

post_known-stirs : (o : Option ℕ) (f bits : ℕ) (k : Parts) → IsShaped k → Stirs k (post_known o f bits k)
post_known-stirs None f bits k s = stirs-none k s
post_known-stirs (Some word) f bits k s = post_to-stirs (first_waiter (Flags f) k) f (bit_or word bits) k refl s

pub post-stirs : (f bits : ℕ) (k : Parts) → IsShaped k → Stirs k (post f bits k)
unfolding post
post-stirs f bits k s = post_known-stirs (slice_get k.flags f) f bits k s

pub act-stirs : (action : Action) (l : ℕ) (k : Parts) → IsShaped k → Stirs k (act action l k)
unfolding act
act-stirs Nothing l k s = stirs-none k s
act-stirs (Puts r) l k s = sem_put-stirs r k s
act-stirs (Posts f) l k s = stirs-if (nat_lt l FLAG_BITS) k _ k (λ e. post-stirs f (2 ^ l) k s) (λ e. stirs-none k s)

-- ---- a tick of a slice
slice-stirs : (t slice : ℕ) (k : Parts) → IsShaped k → Stirs k (set_slice t slice k)
unfolding set_slice
slice-stirs t slice k s = stirs-task t (λ task. record task { slice = slice }) k (λ x. refl) (λ x. refl) (λ x. refl) (λ x. refl) s

spend_slice-stirs : (t slice : ℕ) (k : Parts) → IsShaped k → Stirs k (spend_slice t slice k)
unfolding spend_slice
spend_slice-stirs t slice k s =
    let whole : Stirs k (set_slice t SLICE k) = slice-stirs t SLICE k s in
    stirs-if (nat_le slice 1) k _ _ (λ e. stirs-then k (set_slice t SLICE k) _ whole (stirs-restamp t (set_slice t SLICE k) whole.shape)) (λ e. slice-stirs t _ k s)

spend_task-stirs : (o : Option Task) (t : ℕ) (k : Parts) → IsShaped k → Stirs k (spend_task o t k)
spend_task-stirs None t k s = stirs-none k s
spend_task-stirs (Some task) t k s = stirs-if (is_oob_ready task.state && is_round_robin task.class) k _ k (λ e. spend_slice-stirs t task.slice k s) (λ e. stirs-none k s)

spend-stirs : (was : Option ℕ) (k : Parts) → IsShaped k → Stirs k (spend was k)
unfolding spend
spend-stirs None k s = stirs-none k s
spend-stirs (Some t) k s = spend_task-stirs (slice_get k.tasks t) t k s

-- ---- plays
-- lines of c's out-of-band log were played: beside tasks that stir, its pipe and its watch change, and its own task may be in-band
pub record Plays (c : ℕ) (k x : Parts) : Type 0 where
  pub processors : x.processors ≡ k.processors
  pub pipes : (d : ℕ) → (d ≡ c → ⊥) → slice_get x.pipes d ≡ slice_get k.pipes d
  pub watches : (d : ℕ) → (d ≡ c → ⊥) → slice_get x.watches d ≡ slice_get k.watches d
  pub others : (d : ℕ) → (d ≡ c → ⊥) → AreAlike d k.tasks x.tasks
  pub in_band : (u : ℕ) → IsOneOf is_in_ready c u k.tasks → IsOneOf is_in_ready c u x.tasks
  pub shape : IsShaped x

plays-none : (c : ℕ) (k : Parts) → IsShaped k → Plays c k k
plays-none c k s = record { processors = refl; pipes = λ d n. refl; watches = λ d n. refl; others = λ d n. alike-none d k.tasks; in_band = λ u o. o; shape = s }

plays-then : (c : ℕ) (x y z : Parts) → Plays c x y → Plays c y z → Plays c x z
plays-then c x y z p q = record {
  processors = q.processors ∙ p.processors;
  pipes = λ d n. q.pipes d n ∙ p.pipes d n;
  watches = λ d n. q.watches d n ∙ p.watches d n;
  others = λ d n. alike-then d x.tasks y.tasks z.tasks (p.others d n) (q.others d n);
  in_band = λ u o. q.in_band u (p.in_band u o);
  shape = q.shape;
}

plays-pipe : (c : ℕ) (f : Pipe → Pipe) (k : Parts) → IsShaped k → Plays c k (on_pipe c f k)
plays-pipe c f k s = record {
  processors = refl;
  pipes = λ d n. change-elsewhere f k.pipes c d n;
  watches = λ d n. refl;
  others = λ d n. alike-none d k.tasks;
  in_band = λ u o. o;
  shape = shaped-pipe c f k s;
}

plays-stirs : (c : ℕ) (k x : Parts) → Stirs k x → Plays c k x
plays-stirs c k x p = record {
  processors = p.processors;
  pipes = λ d n. ap (λ (pipes : List Pipe). slice_get pipes d) p.pipes;
  watches = λ d n. ap (λ (watches : List ℕ). slice_get watches d) p.watches;
  others = λ d n. p.alike d;
  in_band = λ u o. alike-in_band c u k.tasks x.tasks (p.alike c) o;
  shape = p.shape;
}

plays-if : (c : ℕ) (b : Bool) (k x y : Parts) → (b ≡ true → Plays c k x) → (b ≡ false → Plays c k y) → Plays c k (if b then x else y)
plays-if c true k x y p q = p refl
plays-if c false k x y p q = q refl

-- ---- the watchdog
plays-watch : (c : ℕ) (f : ℕ → ℕ) (k : Parts) → (k.profile.watchdog ≡ 0 → f (watch c k) ≡ 0) → ((k.profile.watchdog ≡ 0 → ⊥) → f (watch c k) < k.profile.watchdog) → IsShaped k → Plays c k (on_watch c f k)
plays-watch c f k off below s = record {
  processors = refl;
  pipes = λ d n. refl;
  watches = λ d n. change-elsewhere f k.watches c d n;
  others = λ d n. alike-none d k.tasks;
  in_band = λ u o. o;
  shape = shaped-watch c f k off below s;
}

-- a task that runs out-of-band on c
record IsRunner (c t : ℕ) (tasks : List Task) : Type 0 where
  task : Task
  there : slice_get tasks t ≡ Some task
  at_home : task.cpu ≡ c
  ready : is_oob_ready task.state ≡ true

runner : (c t : ℕ) (tasks : List Task) (o : Option Task) → slice_get tasks t ≡ o → runs_oob_task c o ≡ true → IsRunner c t tasks
runner c t tasks None e h = cc
runner c t tasks (Some x) e h = let b = both (is_oob_ready x.state) (x.cpu == c) h in record { task = x; there = e; at_home = eqb-is x.cpu c b.1; ready = b.0 }

oob-waits : (state : TaskState) → is_oob_ready state ≡ true → is_waiting state ≡ false
oob-waits OobReady e = refl
oob-waits _ e = cc

-- .. goes in-band
plays-ready : (c t : ℕ) (k : Parts) → IsRunner c t k.tasks → IsShaped k → Plays c k (set_state t InReady k)
unfolding set_state
plays-ready c t k r s =
    let ready : Task → Task = λ task. record task { state = InReady } in
    let same : (x : Task) → slice_get k.tasks t ≡ Some x → r.task ≡ x = λ x e. (let two : Some r.task ≡ Some x = sym r.there ∙ e in cc) in
    record {
      processors = refl;
      pipes = λ d n. refl;
      watches = λ d n. refl;
      others = λ d n. alike-other c d t ready k.tasks n (λ x e. rw (← same x e) r.at_home);
      in_band = λ u o. one-cases is_in_ready c t u ready k.tasks o (λ x. refl) (λ x h. refl);
      shape = shaped-plain t ready k (record { cpu = λ x. refl; stamp = λ x. refl; lock = λ x m e. let no : None ≡ Some m = e in cc; event = λ x d e. let no : None ≡ Some d = e in cc })
          (deadlines-change ready k.tasks t (λ x e w. s.deadlines t x e (rw (← same x e) (oob-waits r.task.state r.ready))) s.deadlines) s;
    }

plays-restamp : (c t : ℕ) (k : Parts) → IsShaped k → Plays c k (restamp t k)
unfolding restamp
plays-restamp c t k s =
    let f : Task → Task = λ task. record task { stamp = k.stamps } in
    record {
      processors = refl;
      pipes = λ d n. refl;
      watches = λ d n. refl;
      others = λ d n. alike-change d t f k.tasks (λ x. refl) (λ x. refl);
      in_band = λ u o. one-cases is_in_ready c t u f k.tasks o (λ x. refl) (λ x h. h);
      shape = shaped-restamp t k s;
    }

plays-noted : (c : ℕ) (k : Parts) (notices : Notices) → IsShaped k → Plays c k (record k { notices = notices })
plays-noted c k notices s = record { processors = refl; pipes = λ d n. refl; watches = λ d n. refl; others = λ d n. alike-none d k.tasks; in_band = λ u o. o; shape = shaped-notices k notices s }

plays-notify : (c t : ℕ) (kind : NoticeKind) (k : Parts) → IsShaped k → Plays c k (notify kind t k)
unfolding notify
plays-notify c t kind k s = plays-if c (asks_for kind (slice_get k.tasks t)) k _ k (λ e. plays-noted c k _ s) (λ e. plays-none c k s)

overrun-plays : (c t : ℕ) (k : Parts) → IsRunner c t k.tasks → IsShaped k → Plays c k (overrun c t k)
unfolding overrun
overrun-plays c t k r s =
    let rested : Parts = on_watch c (λ n. 0) k in
    let first : Plays c k rested = plays-watch c (λ n. 0) k (λ e. refl) (λ e. positive k.profile.watchdog e) s in
    let in_band : Parts = set_state t InReady rested in
    let second : Plays c rested in_band = plays-ready c t rested (record { task = r.task; there = r.there; at_home = r.at_home; ready = r.ready }) first.shape in
    let third : Plays c in_band (restamp t in_band) = plays-restamp c t in_band second.shape in
    plays-then c k rested _ first (plays-then c rested in_band _ second (plays-then c in_band (restamp t in_band) _ third (plays-notify c t Overran (restamp t in_band) third.shape)))

counts-on : (w n : ℕ) → nat_le w (n + 1) ≡ false → n + 1 < w
counts-on w n e = grind (arith, nat_tests)

not_zero : (n : ℕ) → not (n == 0) ≡ true → n ≡ 0 → ⊥
not_zero n e none = grind (arith, nat_tests)

watch_task-plays : (c t : ℕ) (k : Parts) → (k.profile.watchdog ≡ 0 → ⊥) → IsRunner c t k.tasks → IsShaped k → Plays c k (watch_task c t k)
watch_task-plays c t k on r s =
    plays-if c (nat_le k.profile.watchdog (watch c k + 1)) k _ _ (λ late. overrun-plays c t k r s)
    (λ less. plays-watch c (λ n. n + 1) k (λ e. absurd (on e)) (λ e. counts-on k.profile.watchdog (watch c k) less) s)

watch-plays : (was : Option ℕ) (c : ℕ) (k : Parts) → IsShaped k → Plays c k (watch_was was c k)
unfolding watch_was
watch-plays None c k s = plays-none c k s
watch-plays (Some t) c k s =
    plays-if c (not (k.profile.watchdog == 0) && may_run_oob c k.tasks t) k _ k
    (λ e. let b = both (not (k.profile.watchdog == 0)) (may_run_oob c k.tasks t) e in
    watch_task-plays c t k (not_zero k.profile.watchdog b.0) (runner c t k.tasks (slice_get k.tasks t) refl b.1) s)
    (λ e. plays-none c k s)

tick-plays : (was : Option ℕ) (c : ℕ) (k : Parts) → IsShaped k → Plays c k (play_tick was c k)
unfolding play_tick
tick-plays was c k s =
    let told : Parts = on_pipe c (arrive InBand 0) k in
    let first : Plays c k told = plays-pipe c (arrive InBand 0) k s in
    let ended : Stirs told (end_waits c told) = end_waits-stirs c told first.shape in
    let expired : Stirs (end_waits c told) (expire_timers c (end_waits c told)) = expire_timers-stirs c (end_waits c told) ended.shape in
    let spent : Stirs (expire_timers c (end_waits c told)) (spend was (expire_timers c (end_waits c told))) = spend-stirs was (expire_timers c (end_waits c told)) expired.shape in
    let all : Stirs told (spend was (expire_timers c (end_waits c told))) = stirs-then told (end_waits c told) _ ended (stirs-then (end_waits c told) (expire_timers c (end_waits c told)) _ expired spent) in
    plays-then c k told _ first (plays-then c told _ _ (plays-stirs c told _ all) (watch-plays was c _ all.shape))

handle-plays : (was : Option ℕ) (c l : ℕ) (k : Parts) → IsShaped k → Plays c k (handle_oob was c l k)
handle-plays was c l k s = plays-if c (l == 0) k _ _ (λ e. tick-plays was c k s) (λ e. plays-stirs c k _ (act-stirs (action_at l k) l k s))

play-plays : (was : Option ℕ) (c l : ℕ) (k : Parts) → IsShaped k → Plays c k (play_oob was c l k)
unfolding play_oob
play-plays was c l k s =
    let left : Plays c k (on_pipe c (play OutOfBand l) k) = plays-pipe c (play OutOfBand l) k s in
    plays-then c k (on_pipe c (play OutOfBand l) k) _ left (handle-plays was c l (on_pipe c (play OutOfBand l) k) left.shape)

pub lines-plays : (was : Option ℕ) (c : ℕ) (lines : List ℕ) (k : Parts) → IsShaped k → Plays c k (play_oob_lines was c lines k)
unfolding play_oob_lines
lines-plays was c [] k s = plays-none c k s
lines-plays was c (l ∷ ls) k s =
    let first : Plays c k (play_oob was c l k) = play-plays was c l k s in
    plays-then c k (play_oob was c l k) _ first (lines-plays was c ls (play_oob was c l k) first.shape)
