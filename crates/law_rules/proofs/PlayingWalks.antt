-- The lines of a log are played one after another, each of them from the log.
use Rattle.std.proofs.Common.{◌≡◌, ℕ, zero, suc, ◌+◌, ◌*◌, ◌<◌, ◌≤◌, List, [], ◌∷◌, Bool, true, false, Option, Some, None, length, ◌⊎◌, inl, inr, refl, ap, sym, ◌∙◌, subst, arith, nat_eq}
use Rattle.std.specs.Prelude.{◌-◌, slice_get, option_map, bit_or, ◌^◌, ◌==◌, ◌&&◌, ◌||◌, not, nat_lt, nat_le, if◌then◌else◌}
use Rattle.std.proofs.lemmas.Bool.{cases_eq}
use Rattle.std.proofs.lemmas.Bool.Decides.{nat_tests}
use Rattle.evm_lines.specs.Lines.{has_line, without_line, IsLineSet}
use Rattle.evm_lines.specs.Laws.{IsLineSet-without, has_line-without_same, line_below, without_line-least}
use Rattle.evm_lines.specs.declared.TheConstants.{LINES}
use Rattle.evm_model.specs.Actions.{act, action_at}
use Rattle.evm_model.specs.Deadlines.{next_due, end_wait_for, end_wait_in, end_wait_of, end_wait, end_next, end_rounds, end_waits}
use Rattle.evm_model.specs.Errnos.{refusal_answer}
use Rattle.evm_model.specs.Events.{bound, reacquire_from, reacquire_of, reacquire}
use Rattle.evm_model.specs.Flags.{post_to, post_known, post}
use Rattle.evm_model.specs.Good.{IsPipe}
use Rattle.evm_model.specs.Pipes.{Pipe, arrive, play}
use Rattle.evm_model.specs.Lists.{change}
use Rattle.evm_model.specs.Notices.{asks_for, notify}
use Rattle.evm_model.specs.Ranks.{is_oob_ready, runs_oob_task, may_run_oob}
use Rattle.evm_model.specs.Mutexes.{owner, owns_any, held_by}
use Rattle.evm_model.specs.Semaphores.{sem_put_to, sem_put_known, sem_put}
use Rattle.evm_model.specs.Settle.{current, spend, play_tick, play_oob, play_in_band, play_oob_lines, play_in_band_lines}
use Rattle.evm_model.specs.State.{Parts, on_pipe, on_watch, on_mutex, on_flags, on_timer}
use Rattle.evm_model.specs.Tasks.{restamp, set_state, set_slice, is_round_robin, is_weak, spend_slice, spend_task}
use Rattle.evm_model.specs.Timers.{taken, is_due_timer, expired, expire_to, expire_known, expire, expire_below, expire_timers}
use Rattle.evm_model.specs.Waits.{first_waiter, begin_wait, woken_state, woken, wake, wake_below, awaits_line}
use Rattle.evm_model.specs.Watch.{watch, overrun, watch_was}
use Rattle.evm_model.specs.declared.action.Action.{Action}
use Rattle.evm_model.specs.declared.action.Action.TheVariants.{Nothing, Puts, Posts}
use Rattle.evm_model.specs.declared.call.Outcome.{Outcome}
use Rattle.evm_model.specs.declared.errno.Errno.TheVariants.{TimedOut}
use Rattle.evm_model.specs.declared.limits.TheConstants.{FLAG_BITS, SEMAPHORE_COUNT_LIMIT, SLICE}
use Rattle.evm_model.specs.declared.stage.Stage.TheVariants.{OutOfBand, InBand}
use Rattle.evm_model.specs.declared.task.Task.{Task}
use Rattle.evm_model.specs.declared.task.TaskState.{TaskState}
use Rattle.evm_model.specs.declared.notice.NoticeKind.TheVariants.{Overran}
use Rattle.evm_model.specs.declared.task.TaskState.TheVariants.{InReady, OobReady, Waits, Exit, Faulted}
use Rattle.evm_model.specs.declared.task.Wait.{Wait}
use Rattle.evm_model.specs.declared.task.Wait.TheVariants.{Line, Lock, Reacquire, Semaphore, Event, Flags, Sleep, Timer as For}
use Rattle.evm_model.specs.declared.timer.Timer.{Timer}
use Rattle.evm_model.proofs.Lists.{change-here, change-elsewhere}
use Rattle.law_rules.proofs.ActionWalks.{acts}
use Rattle.law_rules.proofs.DeadlineWalks.{ends_waits}
use Rattle.law_rules.proofs.Sets.{length-set, move_kept}
use Rattle.law_rules.proofs.Sizes.{of_spend, walk_sizes}
use Rattle.law_rules.proofs.Tasks.{spends_of, watches_was, wakes_below}
use Rattle.law_rules.proofs.TimerWalks.{expires_all}
use Rattle.law_rules.proofs.Twice.{change-twice}
use Rattle.law_rules.proofs.Walk.{Actor, IsCalm, PipeMove, plays_timer, plays_oob, plays_in_band, ArePipes, moves, Walk, counted, slack}

pub first_on : (l : ℕ) (rest : List ℕ) → has_line (l ∷ rest) l ≡ true
first_on l rest = let same : nat_eq l l ≡ true = grind (arith, nat_tests) in rw same refl

-- ---- a task that neither waits nor is ready out-of-band stays so
abbrev pub is_gone_state : TaskState → Bool
is_gone_state InReady = true
is_gone_state Exit = true
is_gone_state (Faulted f) = true
is_gone_state _ = false

abbrev pub is_gone : Option Task → Bool
is_gone None = true
is_gone (Some x) = is_gone_state x.state

gone-mapped : (f : Task → Task) (o : Option Task) → ((x : Task) → o ≡ Some x → is_gone_state x.state ≡ true → is_gone_state (f x).state ≡ true) → is_gone o ≡ true → is_gone (option_map f o) ≡ true
gone-mapped f None h e = refl
gone-mapped f (Some x) h e = h x refl e

-- where one task changes
pub gone-change : (f : Task → Task) (tasks : List Task) (u t : ℕ) → ((x : Task) → slice_get tasks u ≡ Some x → is_gone_state x.state ≡ true → is_gone_state (f x).state ≡ true)
    → is_gone (slice_get tasks t) ≡ true → is_gone (slice_get (change f tasks u) t) ≡ true
gone-change f tasks u t h e = elim (cases_eq t u) [
  | inl same ↦ rw same (ap is_gone (change-here f tasks u) ∙ gone-mapped f (slice_get tasks u) h (ap (λ n. is_gone (slice_get tasks n)) (sym same) ∙ e))
  | inr other ↦ ap is_gone (change-elsewhere f tasks u t other) ∙ e
]

-- .. and then has another stamp
gone-stamped : (f : Task → Task) (stamp : ℕ) (tasks : List Task) (u t : ℕ) → ((x : Task) → slice_get tasks u ≡ Some x → is_gone_state x.state ≡ true → is_gone_state (f x).state ≡ true)
    → is_gone (slice_get tasks t) ≡ true → is_gone (slice_get (change (λ (x : Task). record x { stamp = stamp }) (change f tasks u) u) t) ≡ true
gone-stamped f stamp tasks u t h e = gone-change (λ (x : Task). record x { stamp = stamp }) (change f tasks u) u t (λ x there g. g) (gone-change f tasks u t h e)

state-gone : (returns : Bool) (state : TaskState) → is_gone_state state ≡ true → is_gone_state (woken_state returns state) ≡ true
state-gone returns InReady e = refl
state-gone returns OobReady e = cc
state-gone returns (Waits wait) e = cc
state-gone returns Exit e = refl
state-gone returns (Faulted f) e = refl

-- ---- a tick touches no pipe, makes no notice, and leaves such a task alone
pub record Apart (k new : Parts) : Type 0 where
  pub pipes : new.pipes ≡ k.pipes
  pub notices : new.notices ≡ k.notices
  pub gone : (t : ℕ) → is_gone (slice_get k.tasks t) ≡ true → is_gone (slice_get new.tasks t) ≡ true

apart : (k : Parts) → Apart k k
apart k = record { pipes = refl; notices = refl; gone = λ t e. e }

-- where tasks are the same
apart_same : (k new : Parts) → new.pipes ≡ k.pipes → new.notices ≡ k.notices → new.tasks ≡ k.tasks → Apart k new
apart_same k new p n same = record { pipes = p; notices = n; gone = λ t e. rw same e }

apart_then : (k x y : Parts) → Apart k x → Apart x y → Apart k y
apart_then k x y p q = record { pipes = q.pipes ∙ p.pipes; notices = q.notices ∙ p.notices; gone = λ t e. q.gone t (p.gone t e) }

apart_if : (b : Bool) (k x y : Parts) → Apart k x → Apart k y → Apart k (if b then x else y)
apart_if true k x y p q = p
apart_if false k x y p q = q

slice_apart : (t slice : ℕ) (k : Parts) → Apart k (spend_slice t slice k)
unfolding restamp set_slice
slice_apart t slice k =
    of_spend (Apart k) t slice k (record { pipes = refl; notices = refl; gone = λ u e. gone-stamped (λ (x : Task). record x { slice = SLICE }) k.stamps k.tasks t u (λ x there g. g) e })
    (record { pipes = refl; notices = refl; gone = λ u e. gone-change (λ (x : Task). record x { slice = slice - 1 }) k.tasks t u (λ x there g. g) e })

task_apart : (o : Option Task) (t : ℕ) (k : Parts) → Apart k (spend_task o t k)
task_apart None t k = apart k
task_apart (Some x) t k = apart_if (is_oob_ready x.state && is_round_robin x.class) k _ k (slice_apart t x.slice k) (apart k)

pub spend_apart : (was : Option ℕ) (k : Parts) → Apart k (spend was k)
unfolding spend
spend_apart None k = apart k
spend_apart (Some t) k = task_apart (slice_get k.tasks t) t k

-- ---- .. nor does a wait that ends
wake_apart : (t value : ℕ) (k x : Parts) → Apart k x → Apart k (wake t value x)
unfolding wake restamp
wake_apart t value k x p = record {
  pipes = p.pipes;
  notices = p.notices;
  gone = λ u e. gone-stamped (woken (owns_any t x.mutexes)) x.stamps x.tasks t u (λ y there g. state-gone (is_weak y.class && not (owns_any t x.mutexes)) y.state g) (p.gone u e);
}

-- of a task that waits
abbrev Awaits : ℕ → Parts → Type 0
Awaits t k = (x : Task) → slice_get k.tasks t ≡ Some x → is_gone_state x.state ≡ false

from_apart : (o : Option ℕ) (t m answer : ℕ) (k : Parts) → Awaits t k → Apart k (reacquire_from o t m answer k)
unfolding begin_wait restamp
from_apart None t m answer k waits = wake_apart t answer k (on_mutex m (held_by t 1) k) (apart_same k _ refl refl refl)
from_apart (Some u) t m answer k waits = record {
  pipes = refl;
  notices = refl;
  gone = λ v e. gone-stamped (λ (x : Task). record x { state = Waits (Reacquire m answer); deadline = 0 }) k.stamps k.tasks t v (λ x there g. let no : is_gone_state x.state ≡ false = waits x there in cc) e;
}

reacquire_apart : (o : Option ℕ) (t answer : ℕ) (k : Parts) → Awaits t k → Apart k (reacquire_of o t answer k)
reacquire_apart None t answer k waits = apart k
reacquire_apart (Some m) t answer k waits = from_apart (owner k.mutexes m) t m answer k waits

ends_apart : (wait : Wait) (t : ℕ) (k : Parts) → Awaits t k → Apart k (end_wait_for wait t k)
unfolding reacquire
ends_apart Sleep t k waits = wake_apart t _ k k (apart k)
ends_apart (Event e) t k waits = reacquire_apart (bound e k) t (refusal_answer TimedOut) k waits
ends_apart (Line l) t k waits = wake_apart t _ k k (apart k)
ends_apart (Lock m) t k waits = wake_apart t _ k k (apart k)
ends_apart (Reacquire m answer) t k waits = wake_apart t _ k k (apart k)
ends_apart (Semaphore s) t k waits = wake_apart t _ k k (apart k)
ends_apart (Flags f) t k waits = wake_apart t _ k k (apart k)
ends_apart (For n) t k waits = wake_apart t _ k k (apart k)

state_apart : (state : TaskState) (t : ℕ) (k : Parts) → ((x : Task) → slice_get k.tasks t ≡ Some x → x.state ≡ state) → Apart k (end_wait_in state t k)
state_apart (Waits wait) t k is = ends_apart wait t k (λ x there. ap is_gone_state (is x there))
state_apart _ t k is = apart k

end_apart : (o : Option Task) (t : ℕ) (k : Parts) → slice_get k.tasks t ≡ o → Apart k (end_wait_of o t k)
end_apart None t k there = apart k
end_apart (Some x) t k there = state_apart x.state t k (λ y also. let same : x ≡ y = (let two : Some x ≡ Some y = sym there ∙ also in cc) in ap (λ (z : Task). z.state) (sym same))

next_apart : (o : Option ℕ) (k : Parts) → Apart k (end_next o k)
unfolding end_wait
next_apart None k = apart k
next_apart (Some t) k = end_apart (slice_get k.tasks t) t k refl

rounds_apart : (c n : ℕ) (k : Parts) → Apart k (end_rounds c n k)
unfolding end_rounds
rounds_apart c zero k = apart k
rounds_apart c (suc n) k = let before : Parts = end_rounds c n k in apart_then k before _ (rounds_apart c n k) (next_apart (next_due c before) before)

pub waits_apart : (c : ℕ) (k : Parts) → Apart k (end_waits c k)
unfolding end_waits
waits_apart c k = rounds_apart c (length k.tasks) k

-- ---- .. nor does a timer that expires
to_apart : (o : Option ℕ) (n : ℕ) (timer : Timer) (k : Parts) → Apart k (expire_to o n timer k)
to_apart None n timer k = apart_same k _ refl refl refl
to_apart (Some t) n timer k = wake_apart t timer.expiries k (on_timer n (λ _. taken timer) k) (apart_same k _ refl refl refl)

expire_apart : (o : Option Timer) (c n : ℕ) (k : Parts) → Apart k (expire_known o c n k)
expire_apart None c n k = apart k
expire_apart (Some timer) c n k = apart_if (is_due_timer c k.ticks timer) k _ k (to_apart (first_waiter (For n) k) n (expired k.ticks timer) k) (apart k)

below_apart : (c n : ℕ) (k : Parts) → Apart k (expire_below c n k)
unfolding expire_below expire
below_apart c zero k = apart k
below_apart c (suc n) k = let before : Parts = expire_below c n k in apart_then k before _ (below_apart c n k) (expire_apart (slice_get before.timers n) c n before)

pub timers_apart : (c : ℕ) (k : Parts) → Apart k (expire_timers c k)
unfolding expire_timers
timers_apart c k = below_apart c (length k.timers) k

-- ---- .. nor does an action
put_apart : (o : Option ℕ) (s count : ℕ) (k : Parts) → Apart k (sem_put_to o s count k).0
put_apart None s count k = pair_apart (nat_le SEMAPHORE_COUNT_LIMIT count) k _ _ (apart k) (apart_same k _ refl refl refl)
  where
    pair_apart : (b : Bool) (k : Parts) (x y : Parts × Outcome) → Apart k x.0 → Apart k y.0 → Apart k (if b then x else y).0
    pair_apart true k x y p q = p
    pair_apart false k x y p q = q
put_apart (Some t) s count k = wake_apart t 0 k k (apart k)

known_apart : (o : Option ℕ) (s : ℕ) (k : Parts) → Apart k (sem_put_known o s k).0
known_apart None s k = apart k
known_apart (Some count) s k = put_apart (first_waiter (Semaphore s) k) s count k

post_apart : (o : Option ℕ) (f word : ℕ) (k : Parts) → Apart k (post_to o f word k)
post_apart None f word k = apart_same k _ refl refl refl
post_apart (Some t) f word k = wake_apart t word k (on_flags f (λ _. 0) k) (apart_same k _ refl refl refl)

posted_apart : (o : Option ℕ) (f bits : ℕ) (k : Parts) → Apart k (post_known o f bits k)
posted_apart None f bits k = apart k
posted_apart (Some word) f bits k = post_apart (first_waiter (Flags f) k) f (bit_or word bits) k

pub act_apart : (action : Action) (l : ℕ) (k : Parts) → Apart k (act action l k)
unfolding act sem_put post
act_apart Nothing l k = apart k
act_apart (Puts s) l k = known_apart (slice_get k.semaphores s) s k
act_apart (Posts f) l k = apart_if (nat_lt l FLAG_BITS) k _ k (posted_apart (slice_get k.flags f) f (2 ^ l) k) (apart k)

-- ---- the watchdog touches no pipe
if_pipes : (b : Bool) (x y k : Parts) → x.pipes ≡ k.pipes → y.pipes ≡ k.pipes → (if b then x else y).pipes ≡ k.pipes
if_pipes true x y k p q = p
if_pipes false x y k p q = q

overrun-pipes : (c t : ℕ) (k : Parts) → (overrun c t k).pipes ≡ k.pipes
unfolding overrun notify restamp set_state
overrun-pipes c t k = let gone : Parts = restamp t (set_state t InReady (on_watch c (λ _. 0) k)) in if_pipes (asks_for Overran (slice_get gone.tasks t)) _ gone k refl refl

pub watch-pipes : (was : Option ℕ) (c : ℕ) (k : Parts) → (watch_was was c k).pipes ≡ k.pipes
unfolding watch_was
watch-pipes None c k = refl
watch-pipes (Some t) c k =
    if_pipes (not (k.profile.watchdog == 0) && may_run_oob c k.tasks t) _ k k
    (if_pipes (nat_le k.profile.watchdog (watch c k + 1)) _ _ k (overrun-pipes c t k) refl) refl

-- ---- out of band
-- what an out-of-band play does to its pipe
abbrev pub oob_played_if : Bool → ℕ → Pipe → Pipe
oob_played_if timer l p = if timer then arrive InBand 0 (play OutOfBand l p) else play OutOfBand l p

-- .. and then: the timer's line ends waits, expires timers and spends a slice, and the watchdog counts; another does what its
-- action says
abbrev pub tick_until : Option ℕ → ℕ → Parts → Parts
tick_until was c k = spend was (expire_timers c (end_waits c k))

abbrev pub tick_of : Option ℕ → ℕ → Parts → Parts
tick_of was c k = watch_was was c (tick_until was c k)

abbrev pub after_if : Bool → Option ℕ → ℕ → ℕ → Parts → Parts
after_if timer was c l k = if timer then tick_of was c k else act (action_at l k) l k

handled : (timer : Bool) (was : Option ℕ) (c l : ℕ) (k : Parts)
    → (if timer then play_tick was c (on_pipe c (play OutOfBand l) k) else act (action_at l k) l (on_pipe c (play OutOfBand l) k)) ≡ after_if timer was c l (on_pipe c (oob_played_if timer l) k)
unfolding play_tick
handled true was c l k = ap (λ (pipes : List Pipe). tick_of was c (record k { pipes = pipes })) (change-twice (arrive InBand 0) (play OutOfBand l) k.pipes c)
handled false was c l k = refl

pub play_oob-on : (was : Option ℕ) (c l : ℕ) (k : Parts) → play_oob was c l k ≡ after_if (l == 0) was c l (on_pipe c (oob_played_if (l == 0) l) k)
unfolding play_oob
play_oob-on was c l k = handled (l == 0) was c l k

pub tick_apart : (was : Option ℕ) (c : ℕ) (k : Parts) → Apart k (tick_until was c k)
tick_apart was c k =
    let ended : Parts = end_waits c k in
    let expired : Parts = expire_timers c ended in
    apart_then k expired _ (apart_then k ended expired (waits_apart c k) (timers_apart c ended)) (spend_apart was expired)

pub after-pipes : (timer : Bool) (was : Option ℕ) (c l : ℕ) (k : Parts) → (after_if timer was c l k).pipes ≡ k.pipes
after-pipes true was c l k = watch-pipes was c (tick_until was c k) ∙ (tick_apart was c k).pipes
after-pipes false was c l k = (act_apart (action_at l k) l k).pipes

-- ---- what settling wants of the parts before it, so that it makes no second notice
pub data IsFresh (c : ℕ) (was : Option ℕ) (old k : Parts) : Type 0 where
  -- there is none yet
  unnoted : k.notices ≡ old.notices → IsFresh c was old k
  -- or the task that was current neither waits nor is ready out-of-band
  gone : ((t : ℕ) → was ≡ Some t → is_gone (slice_get k.tasks t) ≡ true) → IsFresh c was old k
  -- or no line waits to be played
  unplayed : ((p : Pipe) → slice_get k.pipes c ≡ Some p → p.oob.stalled ≡ false → p.oob.lines ≡ []) → IsFresh c was old k

-- .. after which such a task runs no more
gone-idle : (c : ℕ) (o : Option Task) → is_gone o ≡ true → runs_oob_task c o ≡ true → ⊥
gone-idle c None e on = cc
gone-idle c (Some x) e on = state-idle x.state c x.cpu e on
  where
    state-idle : (state : TaskState) (c cpu : ℕ) → is_gone_state state ≡ true → (is_oob_ready state && cpu == c) ≡ true → ⊥
    state-idle InReady c cpu e on = cc
    state-idle OobReady c cpu e on = cc
    state-idle (Waits wait) c cpu e on = cc
    state-idle Exit c cpu e on = cc
    state-idle (Faulted f) c cpu e on = cc

-- there is no notice yet, or that task is gone
pub data IsQuiet (was : Option ℕ) (old k : Parts) : Type 0 where
  silent : k.notices ≡ old.notices → IsQuiet was old k
  left : ((t : ℕ) → was ≡ Some t → is_gone (slice_get k.tasks t) ≡ true) → IsQuiet was old k

quiet_apart : (was : Option ℕ) (old k x : Parts) → Apart k x → IsQuiet was old k → IsQuiet was old x
quiet_apart was old k x p (silent e) = silent (p.notices ∙ e)
quiet_apart was old k x p (left g) = left (λ t e. p.gone t (g t e))

quiet_unnoted : (was : Option ℕ) (c : ℕ) (old k : Parts) → IsQuiet was old k → (t : ℕ) → was ≡ Some t → may_run_oob c k.tasks t ≡ true → k.notices ≡ old.notices
quiet_unnoted was c old k (silent e) t is on = e
quiet_unnoted was c old k (left g) t is on = absurd (gone-idle c (slice_get k.tasks t) (g t is) on)

-- ---- how many stamps a play gives: the timer's line up to 64 + 32 + 1 + 1, another one
abbrev pub PER_TICK : ℕ
PER_TICK = 98

abbrev pub stamps_of : Bool → ℕ
stamps_of timer = if timer then PER_TICK else 1

-- .. and the lines of a list
abbrev pub stamps_all : List ℕ → ℕ
stamps_all [] = 0
stamps_all (l ∷ ls) = stamps_of (l == 0) + stamps_all ls

later_off : (l : ℕ) (ls : List ℕ) → has_line (l ∷ ls) 0 ≡ false → (l ≡ 0 → ⊥) × (has_line ls 0 ≡ false)
later_off l ls h = from (nat_eq l 0) refl h
  where
    from : (b : Bool) → nat_eq l 0 ≡ b → (b || has_line ls 0) ≡ false → (l ≡ 0 → ⊥) × (has_line ls 0 ≡ false)
    from true e g = cc
    from false e g = (λ same. grind (arith, nat_tests), g)

plain_one : (l : ℕ) → (l ≡ 0 → ⊥) → stamps_of (l == 0) ≡ 1
plain_one l other = let no : (l == 0) ≡ false = grind (arith, nat_tests) in rw no refl

-- without the timer's line each gives one
all_plain : (ls : List ℕ) → has_line ls 0 ≡ false → stamps_all ls ≡ length ls
all_plain [] h = refl
all_plain (l ∷ ls) h = let off = later_off l ls h in omega (arith, plain_one l off.0, all_plain ls off.1)

stamps_most : (ls : List ℕ) → IsLineSet ls → stamps_all ls ≤ 97 + length ls
stamps_most [] s = omega arith
stamps_most (l ∷ ls) s =
    let rest : without_line (l ∷ ls) l ≡ ls = without_line-least l ls s in
    elim (cases_eq l 0) [
      | inl same ↦
          let off : has_line ls 0 ≡ false = ap (λ xs. has_line xs 0) (sym rest) ∙ ap (λ m. has_line (without_line (l ∷ ls) m) 0) same ∙ has_line-without_same (l ∷ ls) 0 (omega arith) in
          rw same (omega (arith, all_plain ls off))
      | inr other ↦ omega (arith, plain_one l other, stamps_most ls (subst IsLineSet rest (IsLineSet-without (l ∷ ls) l)))
    ]

-- .. of a log
abbrev pub OOB_STAMPS : ℕ
OOB_STAMPS = 192

pub stamps_few : (ls : List ℕ) → IsLineSet ls → stamps_all ls ≤ OOB_STAMPS
stamps_few ls s = omega (arith, stamps_most ls s, length-set ls s)

after_walks : (timer : Bool) (a : Actor) (old : Parts) (was : Option ℕ) (n s l : ℕ) (k : Parts) → current a.cpu old ≡ was → a.chooses ≡ true → (ArePipes old → l < LINES)
    → (timer ≡ true → IsCalm a.cpu old → IsQuiet was old k) → Walk a old n s k → Walk a old n (s + stamps_of timer) (after_if timer was a.cpu l k)
after_walks true a old was n s l k runs may line quiet w =
    let ended : Parts = end_waits a.cpu k in
    let expired : Parts = expire_timers a.cpu ended in
    let spent : Parts = spend was expired in
    let first : Walk a old n (s + length k.tasks) ended = ends_waits a old n s k w in
    let second : Walk a old n (s + length k.tasks + length ended.timers) expired = expires_all a old n (s + length k.tasks) ended first in
    let third : Walk a old n (s + length k.tasks + length ended.timers + 1) spent = spends_of a old n (s + length k.tasks + length ended.timers) expired second was runs in
    slack a old n n (s + length k.tasks + length ended.timers + 1 + 1) (s + 98) _ (λ g. omega arith)
    (λ few. omega (arith, (walk_sizes a old n s k w).few few.tasks, (walk_sizes a old n (s + length k.tasks) ended first).timers few.timers))
    (watches_was a old n (s + length k.tasks + length ended.timers + 1) spent may third was runs
    (λ t is on calm. quiet_unnoted was a.cpu old spent (quiet_apart was old k spent (tick_apart was a.cpu k) (quiet refl calm)) t is on))
after_walks false a old was n s l k runs may line quiet w = acts a old n s l k line w (action_at l k) refl

or-first : (b c : Bool) → b ≡ true → (b || c) ≡ true
or-first true c e = refl
or-first false c e = cc

-- before another line is played there is no notice yet, or that task is gone, if it was so before this one
quiet_after : (timer : Bool) (was : Option ℕ) (c l : ℕ) (old k : Parts) → timer ≡ false → IsQuiet was old k → IsQuiet was old (after_if timer was c l k)
quiet_after true was c l old k e q = cc
quiet_after false was c l old k e q = quiet_apart was old k _ (act_apart (action_at l k) l k) q

-- what changes pipes alone
quiet_pipes : (was : Option ℕ) (old k x : Parts) → x.notices ≡ k.notices → x.tasks ≡ k.tasks → IsQuiet was old k → IsQuiet was old x
quiet_pipes was old k x n same (silent e) = silent (n ∙ e)
quiet_pipes was old k x n same (left g) = left (λ t e. rw same (g t e))

-- the timer's line comes first
none_behind : (l : ℕ) (ls : List ℕ) → IsLineSet (l ∷ ls) → has_line ls 0 ≡ true → (l == 0) ≡ false
none_behind l ls set on = from (cases_eq l 0)
  where
    from : (l ≡ 0) ⊎ (l ≡ 0 → ⊥) → (l == 0) ≡ false
    from (inl same) =
        let rest : without_line (l ∷ ls) l ≡ ls = without_line-least l ls set in
        let off : has_line ls 0 ≡ false = ap (λ xs. has_line xs 0) (sym rest) ∙ ap (λ m. has_line (without_line (l ∷ ls) m) 0) same ∙ has_line-without_same (l ∷ ls) 0 (omega arith) in
        cc
    from (inr other) = grind (arith, nat_tests)

behind : (l : ℕ) (ls : List ℕ) → has_line ls 0 ≡ true → has_line (l ∷ ls) 0 ≡ true
behind l ls on = either_has (nat_eq l 0) (has_line ls 0) on
  where
    either_has : (b c : Bool) → c ≡ true → (b || c) ≡ true
    either_has true c e = refl
    either_has false c e = e

oob_move : (may : ℕ → Bool) (timer : Bool) (l : ℕ) (p : Pipe) → (l == 0) ≡ timer → has_line p.oob.lines l ≡ true → PipeMove may 1 p (oob_played_if timer l p)
oob_move may true l p e h = let same : l ≡ 0 = grind (arith, nat_tests) in rw same (plays_timer p (rw same at h))
oob_move may false l p e h = plays_oob l p (λ same. let no : (l == 0) ≡ true = rw same refl in cc) h

oob_left : (timer : Bool) (l : ℕ) (p : Pipe) → (oob_played_if timer l p).oob.lines ≡ without_line p.oob.lines l
unfolding arrive play
oob_left true l p = refl
oob_left false l p = refl

there_after : (f : Pipe → Pipe) (c : ℕ) (k : Parts) (p : Pipe) → slice_get k.pipes c ≡ Some p → slice_get (on_pipe c f k).pipes c ≡ Some (f p)
there_after f c k p e = change-here f k.pipes c ∙ ap (option_map f) e

-- the lines that are left to be played are those of the log
pub record IsLeft (ls : List ℕ) (lines : List ℕ) (p : Pipe) : Type 0 where
  pub same : lines ≡ ls
  pub pipe : IsPipe p

module _ (a : Actor) (old : Parts) (was : Option ℕ) (runs : current a.cpu old ≡ was) (may : a.chooses ≡ true) where
  pub walks_oob_lines : (ls : List ℕ) (n s : ℕ) (k : Parts) (p : Pipe) → slice_get k.pipes a.cpu ≡ Some p → (ArePipes old → IsLeft ls p.oob.lines p)
      → (has_line ls 0 ≡ true → IsCalm a.cpu old → IsQuiet was old k) → Walk a old n s k
      → Walk a old (n + length ls) (s + stamps_all ls) (play_oob_lines was a.cpu ls k)
  unfolding play_oob_lines
  walks_oob_lines [] n s k p e g quiet w = slack a old n (n + 0) s (s + 0) k (λ h. omega arith) (λ h. omega arith) w
  walks_oob_lines (l ∷ ls) n s k p e g quiet w =
      let f : Pipe → Pipe = oob_played_if (l == 0) l in
      let played : Parts = on_pipe a.cpu f k in
      let after : Parts = after_if (l == 0) was a.cpu l played in
      let on : ArePipes old → has_line p.oob.lines l ≡ true = λ are. rw (g are).same (first_on l ls) in
      let move : ArePipes old → PipeMove (a.may a.cpu) 1 p (f p) = λ are. oob_move (a.may a.cpu) (l == 0) l p refl (on are) in
      let left : ArePipes old → IsLeft ls (f p).oob.lines (f p) = λ are. let set : IsLineSet (l ∷ ls) = subst IsLineSet (g are).same (g are).pipe.oob in record {
        same = oob_left (l == 0) l p ∙ rw (g are).same (without_line-least l ls set);
        pipe = move_kept (a.may a.cpu) 1 p (f p) (move are) (g are).pipe;
      } in
      let there : slice_get after.pipes a.cpu ≡ Some (f p) = ap (λ (pipes : List Pipe). slice_get pipes a.cpu) (after-pipes (l == 0) was a.cpu l played) ∙ there_after f a.cpu k p e in
      let first : (l == 0) ≡ true → IsCalm a.cpu old → IsQuiet was old played = λ timer calm. quiet_pipes was old k played refl refl (quiet (or-first (l == 0) (has_line ls 0) timer) calm) in
      let later : has_line ls 0 ≡ true → IsCalm a.cpu old → IsQuiet was old after = λ has calm.
      quiet_after (l == 0) was a.cpu l old played (none_behind l ls (subst IsLineSet (g calm.are).same (g calm.are).pipe.oob) has) (quiet_pipes was old k played refl refl (quiet (behind l ls has) calm)) in
      let counts : n + suc (length ls) ≡ n + 1 + length ls = omega arith in
      let gives : s + (stamps_of (l == 0) + stamps_all ls) ≡ s + stamps_of (l == 0) + stamps_all ls = omega arith in
      rw (play_oob-on was a.cpu l k, counts, gives)
      (walks_oob_lines ls (n + 1) (s + stamps_of (l == 0)) after (f p) there left later
      (after_walks (l == 0) a old was (n + 1) s l played runs may (λ are. line_below p.oob.lines l (g are).pipe.oob (on are)) first
      (counted a old n s k _ 1 (moves 1 f k (λ are q d. let same : p ≡ q = (let two : Some p ≡ Some q = sym e ∙ d in cc) in rw (← same) (move are))) w)))

-- ---- in-band
in_band_left : (l : ℕ) (p : Pipe) → (play InBand l p).in_band.lines ≡ without_line p.in_band.lines l
unfolding play
in_band_left l p = refl

-- a wake touches no pipe
wake_pipes : (t value : ℕ) (k : Parts) → (wake t value k).pipes ≡ k.pipes
unfolding wake restamp
wake_pipes t value k = refl

pub wakes-pipes : (c l n : ℕ) (k : Parts) → (wake_below c l n k).pipes ≡ k.pipes
unfolding wake_below
wakes-pipes c l zero k = refl
wakes-pipes c l (suc t) k =
    let before : Parts = wake_below c l t k in
    if_pipes (awaits_line c l (slice_get before.tasks t)) (wake t 0 before) before before (wake_pipes t 0 before) refl ∙ wakes-pipes c l t k

module _ (a : Actor) (old : Parts) where
  pub walks_in_band_lines : (ls : List ℕ) (n s : ℕ) (k : Parts) (p : Pipe) → slice_get k.pipes a.cpu ≡ Some p → (ArePipes old → IsLeft ls p.in_band.lines p)
      → Walk a old n s k → Walk a old (n + length ls) (s + 64 * length ls) (play_in_band_lines a.cpu ls k)
  unfolding play_in_band_lines play_in_band
  walks_in_band_lines [] n s k p e g w = slack a old n (n + 0) s (s + 64 * 0) k (λ h. omega arith) (λ h. omega arith) w
  walks_in_band_lines (l ∷ ls) n s k p e g w =
      let f : Pipe → Pipe = play InBand l in
      let played : Parts = on_pipe a.cpu f k in
      let woken : Parts = wake_below a.cpu l (length k.tasks) played in
      let move : ArePipes old → PipeMove (a.may a.cpu) 1 p (f p) = λ are. plays_in_band l p (rw (g are).same (first_on l ls)) in
      let left : ArePipes old → IsLeft ls (f p).in_band.lines (f p) = λ are. let set : IsLineSet (l ∷ ls) = subst IsLineSet (g are).same (g are).pipe.in_band in record {
        same = in_band_left l p ∙ rw (g are).same (without_line-least l ls set);
        pipe = move_kept (a.may a.cpu) 1 p (f p) (move are) (g are).pipe;
      } in
      let there : slice_get woken.pipes a.cpu ≡ Some (f p) = ap (λ (pipes : List Pipe). slice_get pipes a.cpu) (wakes-pipes a.cpu l (length k.tasks) played) ∙ there_after f a.cpu k p e in
      let counts : n + suc (length ls) ≡ n + 1 + length ls = omega arith in
      let gives : s + 64 * suc (length ls) ≡ s + 64 + 64 * length ls = omega arith in
      rw (counts, gives)
      (walks_in_band_lines ls (n + 1) (s + 64) woken (f p) there left
      (slack a old (n + 1) (n + 1) (s + length k.tasks) (s + 64) woken (λ h. omega arith) (λ few. omega (arith, (walk_sizes a old n s k w).few few.tasks))
      (wakes_below a old (n + 1) s l (length k.tasks) played
      (counted a old n s k _ 1 (moves 1 f k (λ are q d. let same : p ≡ q = (let two : Some p ≡ Some q = sym e ∙ d in cc) in rw (← same) (move are))) w))))
