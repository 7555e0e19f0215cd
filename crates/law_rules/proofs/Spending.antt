-- What out-of-band plays leave, beside their own pipe, and how many stamps they give.
use Rattle.std.proofs.Common.{◌≡◌, ℕ, zero, suc, ◌+◌, ◌≤◌, Bool, true, false, Option, Some, None, length, refl, ◌∙◌, arith}
use Rattle.std.specs.Prelude.{slice_get, bit_or, nat_lt, nat_le, not, ◌&&◌, ◌==◌, ◌^◌, if◌then◌else◌}
use Rattle.evm_model.proofs.Lists.{length-change}
use Rattle.evm_model.specs.Actions.{act}
use Rattle.evm_model.specs.Deadlines.{next_due, end_wait_for, end_wait_in, end_wait_of, end_wait, end_next, end_rounds, end_waits}
use Rattle.evm_model.specs.Events.{bound, reacquire_from, reacquire_of, reacquire}
use Rattle.evm_model.specs.Flags.{post_to, post_known, post}
use Rattle.evm_model.specs.Mutexes.{owner, held_by}
use Rattle.evm_model.specs.Notices.{asks_for, notify}
use Rattle.evm_model.specs.Ranks.{is_oob_ready, may_run_oob}
use Rattle.evm_model.specs.Semaphores.{sem_put_to, sem_put_known, sem_put}
use Rattle.evm_model.specs.Settle.{spend}
use Rattle.evm_model.specs.State.{Parts, on_flags, on_mutex, on_timer, on_watch}
use Rattle.evm_model.specs.Tasks.{restamp, set_state, set_slice, spend_slice, spend_task, is_round_robin}
use Rattle.evm_model.specs.Timers.{is_due_timer, expired, taken, expire_to, expire_known, expire, expire_below, expire_timers}
use Rattle.evm_model.specs.Waits.{first_waiter, begin_wait, wake}
use Rattle.evm_model.specs.Watch.{watch, overrun, watch_was}
use Rattle.evm_model.specs.declared.action.Action.{Action}
use Rattle.evm_model.specs.declared.action.Action.TheVariants.{Nothing, Puts, Posts}
use Rattle.evm_model.specs.declared.call.Outcome.{Outcome}
use Rattle.evm_model.specs.declared.limits.TheConstants.{FLAG_BITS, SLICE, SEMAPHORE_COUNT_LIMIT}
use Rattle.evm_model.specs.declared.notice.NoticeKind.TheVariants.{Overran}
use Rattle.evm_model.specs.declared.task.Task.{Task}
use Rattle.evm_model.specs.declared.task.TaskState.{TaskState}
use Rattle.evm_model.specs.declared.task.TaskState.TheVariants.{InReady, Waits}
use Rattle.evm_model.specs.declared.task.Wait.{Wait}
use Rattle.evm_model.specs.declared.task.Wait.TheVariants.{Sleep, Event, Semaphore, Flags, Timer as For}
use Rattle.evm_model.specs.declared.timer.Timer.{Timer}

-- pipes, processors, the number of tasks, the clock; no more stamps are given than this
pub record Gives (n : ℕ) (k x : Parts) : Type 0 where
  pub pipes : x.pipes ≡ k.pipes
  pub processors : x.processors ≡ k.processors
  pub tasks : length x.tasks ≡ length k.tasks
  pub ticks : x.ticks ≡ k.ticks
  pub least : k.stamps ≤ x.stamps
  pub most : x.stamps ≤ k.stamps + n

-- what a tick of a slice leaves
abbrev pub Spends : Parts → Parts → Type 0
Spends k x = Gives 1 k x

pub gives-none : (n : ℕ) (k : Parts) → Gives n k k
gives-none n k = record { pipes = refl; processors = refl; tasks = refl; ticks = refl; least = omega arith; most = omega arith }

pub gives-then : (n m : ℕ) (x y z : Parts) → Gives n x y → Gives m y z → Gives (n + m) x z
gives-then n m x y z p q = record {
  pipes = q.pipes ∙ p.pipes;
  processors = q.processors ∙ p.processors;
  tasks = q.tasks ∙ p.tasks;
  ticks = q.ticks ∙ p.ticks;
  least = omega (arith, p.least, q.least);
  most = omega (arith, p.most, q.most);
}

gives-if : (n : ℕ) (b : Bool) (k x y : Parts) → Gives n k x → Gives n k y → Gives n k (if b then x else y)
gives-if n true k x y p q = p
gives-if n false k x y p q = q

-- ---- a task wakes, or waits
wake-gives : (t value : ℕ) (k : Parts) → Gives 1 k (wake t value k)
unfolding wake restamp
wake-gives t value k = record { pipes = refl; processors = refl; tasks = length-change _ _ t ∙ length-change _ k.tasks t; ticks = refl; least = omega arith; most = omega arith }

wait-gives : (t : ℕ) (wait : Wait) (deadline : ℕ) (k : Parts) → Gives 1 k (begin_wait t wait deadline k)
unfolding begin_wait restamp
wait-gives t wait deadline k = record { pipes = refl; processors = refl; tasks = length-change _ _ t ∙ length-change _ k.tasks t; ticks = refl; least = omega arith; most = omega arith }

-- its mutex, its flag group or its timer changes too
mutex_wake-gives : (t m value : ℕ) (k : Parts) → Gives 1 k (wake t value (on_mutex m (held_by t 1) k))
unfolding wake restamp
mutex_wake-gives t m value k = record { pipes = refl; processors = refl; tasks = length-change _ _ t ∙ length-change _ k.tasks t; ticks = refl; least = omega arith; most = omega arith }

flags_wake-gives : (t f value : ℕ) (k : Parts) → Gives 1 k (wake t value (on_flags f (λ old. 0) k))
unfolding wake restamp
flags_wake-gives t f value k = record { pipes = refl; processors = refl; tasks = length-change _ _ t ∙ length-change _ k.tasks t; ticks = refl; least = omega arith; most = omega arith }

timer_wake-gives : (t n value : ℕ) (timer : Timer) (k : Parts) → Gives 1 k (wake t value (on_timer n (λ old. timer) k))
unfolding wake restamp
timer_wake-gives t n value timer k = record { pipes = refl; processors = refl; tasks = length-change _ _ t ∙ length-change _ k.tasks t; ticks = refl; least = omega arith; most = omega arith }

-- ---- deadlines
from-gives : (o : Option ℕ) (t m answer : ℕ) (k : Parts) → Gives 1 k (reacquire_from o t m answer k)
from-gives None t m answer k = mutex_wake-gives t m answer k
from-gives (Some u) t m answer k = wait-gives t _ 0 k

reacquire_of-gives : (o : Option ℕ) (t answer : ℕ) (k : Parts) → Gives 1 k (reacquire_of o t answer k)
reacquire_of-gives None t answer k = gives-none 1 k
reacquire_of-gives (Some m) t answer k = from-gives (owner k.mutexes m) t m answer k

pub reacquire-gives : (e t answer : ℕ) (k : Parts) → Gives 1 k (reacquire e t answer k)
unfolding reacquire
reacquire-gives e t answer k = reacquire_of-gives (bound e k) t answer k

for-gives : (wait : Wait) (t : ℕ) (k : Parts) → Gives 1 k (end_wait_for wait t k)
for-gives Sleep t k = wake-gives t 0 k
for-gives (Event e) t k = reacquire-gives e t _ k
for-gives wait t k = wake-gives t _ k

in-gives : (state : TaskState) (t : ℕ) (k : Parts) → Gives 1 k (end_wait_in state t k)
in-gives (Waits wait) t k = for-gives wait t k
in-gives state t k = gives-none 1 k

of-gives : (o : Option Task) (t : ℕ) (k : Parts) → Gives 1 k (end_wait_of o t k)
of-gives None t k = gives-none 1 k
of-gives (Some task) t k = in-gives task.state t k

pub end_wait-gives : (t : ℕ) (k : Parts) → Gives 1 k (end_wait t k)
unfolding end_wait
end_wait-gives t k = of-gives (slice_get k.tasks t) t k

next-gives : (o : Option ℕ) (k : Parts) → Gives 1 k (end_next o k)
next-gives None k = gives-none 1 k
next-gives (Some t) k = end_wait-gives t k

rounds-gives : (c n : ℕ) (k : Parts) → Gives n k (end_rounds c n k)
unfolding end_rounds
rounds-gives c zero k = gives-none 0 k
rounds-gives c (suc n) k =
    let more : suc n ≡ n + 1 = omega arith in
    rw more (gives-then n 1 k (end_rounds c n k) _ (rounds-gives c n k) (next-gives (next_due c (end_rounds c n k)) (end_rounds c n k)))

pub end_waits-gives : (c : ℕ) (k : Parts) → Gives (length k.tasks) k (end_waits c k)
unfolding end_waits
end_waits-gives c k = rounds-gives c (length k.tasks) k

-- ---- timers
expire_to-gives : (o : Option ℕ) (n : ℕ) (timer : Timer) (k : Parts) → Gives 1 k (expire_to o n timer k)
expire_to-gives None n timer k = record { pipes = refl; processors = refl; tasks = refl; ticks = refl; least = omega arith; most = omega arith }
expire_to-gives (Some t) n timer k = timer_wake-gives t n timer.expiries (taken timer) k

known-gives : (o : Option Timer) (c n : ℕ) (k : Parts) → Gives 1 k (expire_known o c n k)
known-gives None c n k = gives-none 1 k
known-gives (Some timer) c n k = gives-if 1 (is_due_timer c k.ticks timer) k _ k (expire_to-gives (first_waiter (For n) k) n (expired k.ticks timer) k) (gives-none 1 k)

expire-gives : (c n : ℕ) (k : Parts) → Gives 1 k (expire c n k)
unfolding expire
expire-gives c n k = known-gives (slice_get k.timers n) c n k

below-gives : (c n : ℕ) (k : Parts) → Gives n k (expire_below c n k)
unfolding expire_below
below-gives c zero k = gives-none 0 k
below-gives c (suc n) k =
    let more : suc n ≡ n + 1 = omega arith in
    rw more (gives-then n 1 k (expire_below c n k) _ (below-gives c n k) (expire-gives c n (expire_below c n k)))

pub expire_timers-gives : (c : ℕ) (k : Parts) → Gives (length k.timers) k (expire_timers c k)
unfolding expire_timers
expire_timers-gives c k = below-gives c (length k.timers) k

-- ---- actions of lines
more-gives : (b : Bool) (k : Parts) (x y : Parts × Outcome) → Gives 1 k x.0 → Gives 1 k y.0 → Gives 1 k (if◌then◌else◌ {A = Parts × Outcome} b x y).0
more-gives true k x y p q = p
more-gives false k x y p q = q

put_to-gives : (o : Option ℕ) (s count : ℕ) (k : Parts) → Gives 1 k (sem_put_to o s count k).0
put_to-gives None s count k = more-gives (nat_le SEMAPHORE_COUNT_LIMIT count) k _ _ (gives-none 1 k) (record { pipes = refl; processors = refl; tasks = refl; ticks = refl; least = omega arith; most = omega arith })
put_to-gives (Some t) s count k = wake-gives t 0 k

put_known-gives : (o : Option ℕ) (s : ℕ) (k : Parts) → Gives 1 k (sem_put_known o s k).0
put_known-gives None s k = gives-none 1 k
put_known-gives (Some count) s k = put_to-gives (first_waiter (Semaphore s) k) s count k

pub sem_put-gives : (s : ℕ) (k : Parts) → Gives 1 k (sem_put s k).0
unfolding sem_put
sem_put-gives s k = put_known-gives (slice_get k.semaphores s) s k

post_to-gives : (o : Option ℕ) (f word : ℕ) (k : Parts) → Gives 1 k (post_to o f word k)
post_to-gives None f word k = record { pipes = refl; processors = refl; tasks = refl; ticks = refl; least = omega arith; most = omega arith }
post_to-gives (Some t) f word k = flags_wake-gives t f word k

post_known-gives : (o : Option ℕ) (f bits : ℕ) (k : Parts) → Gives 1 k (post_known o f bits k)
post_known-gives None f bits k = gives-none 1 k
post_known-gives (Some word) f bits k = post_to-gives (first_waiter (Flags f) k) f (bit_or word bits) k

pub post-gives : (f bits : ℕ) (k : Parts) → Gives 1 k (post f bits k)
unfolding post
post-gives f bits k = post_known-gives (slice_get k.flags f) f bits k

pub act-gives : (action : Action) (l : ℕ) (k : Parts) → Gives 1 k (act action l k)
unfolding act
act-gives Nothing l k = gives-none 1 k
act-gives (Puts s) l k = sem_put-gives s k
act-gives (Posts f) l k = gives-if 1 (nat_lt l FLAG_BITS) k _ k (post-gives f (2 ^ l) k) (gives-none 1 k)

-- ---- a tick of a slice
slice-spends : (t slice : ℕ) (k : Parts) → Spends k (set_slice t slice k)
unfolding set_slice
slice-spends t slice k = record { pipes = refl; processors = refl; tasks = length-change _ k.tasks t; ticks = refl; least = omega arith; most = omega arith }

fresh-spends : (t : ℕ) (k : Parts) → Spends k (restamp t (set_slice t SLICE k))
unfolding restamp set_slice
fresh-spends t k = record { pipes = refl; processors = refl; tasks = length-change _ _ t ∙ length-change _ k.tasks t; ticks = refl; least = omega arith; most = omega arith }

slice_left-spends : (t slice : ℕ) (k : Parts) → Spends k (spend_slice t slice k)
unfolding spend_slice
slice_left-spends t slice k = gives-if 1 (nat_le slice 1) k _ _ (fresh-spends t k) (slice-spends t _ k)

task-spends : (o : Option Task) (t : ℕ) (k : Parts) → Spends k (spend_task o t k)
task-spends None t k = gives-none 1 k
task-spends (Some task) t k = gives-if 1 (is_oob_ready task.state && is_round_robin task.class) k _ k (slice_left-spends t task.slice k) (gives-none 1 k)

pub of-spends : (was : Option ℕ) (k : Parts) → Spends k (spend was k)
unfolding spend
of-spends None k = gives-none 1 k
of-spends (Some t) k = task-spends (slice_get k.tasks t) t k

-- ---- the watchdog
overrun-gives : (c t : ℕ) (k : Parts) → Gives 1 k (overrun c t k)
unfolding overrun notify restamp set_state
overrun-gives c t k =
    let gone : Parts = restamp t (set_state t InReady (on_watch c (λ n. 0) k)) in
    let whole : Gives 1 k gone = record { pipes = refl; processors = refl; tasks = length-change _ _ t ∙ length-change _ k.tasks t; ticks = refl; least = omega arith; most = omega arith } in
    gives-if 1 (asks_for Overran (slice_get gone.tasks t)) k _ gone
    (record { pipes = whole.pipes; processors = whole.processors; tasks = whole.tasks; ticks = whole.ticks; least = whole.least; most = whole.most }) whole

pub watch-gives : (was : Option ℕ) (c : ℕ) (k : Parts) → Gives 1 k (watch_was was c k)
unfolding watch_was
watch-gives None c k = gives-none 1 k
watch-gives (Some t) c k =
    gives-if 1 (not (k.profile.watchdog == 0) && may_run_oob c k.tasks t) k _ k
    (gives-if 1 (nat_le k.profile.watchdog (watch c k + 1)) k _ _ (overrun-gives c t k)
    (record { pipes = refl; processors = refl; tasks = refl; ticks = refl; least = omega arith; most = omega arith })) (gives-none 1 k)
