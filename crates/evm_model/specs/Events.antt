-- What each call on an event does to the parts, and what comes of it. All tasks that wait for an event named one mutex.
use Rattle.std.specs.Prelude.{ℕ, zero, suc, [], ◌∷◌, ◌++◌, Option, Some, None, Bool, false, not, ◌==◌, ◌&&◌, nat_le, if◌then◌else◌, slice_get, length}
use Rattle.evm_model.specs.Boosts.{is_number}
use Rattle.evm_model.specs.Lists.{change}
use Rattle.evm_model.specs.Mutexes.{owner, owns_any, freed, held_by}
use Rattle.evm_model.specs.Passing.{hand_over}
use Rattle.evm_model.specs.Stages.{refused, is_stalled, wait_refusal}
use Rattle.evm_model.specs.State.{Parts, on_event, on_mutex}
use Rattle.evm_model.specs.Waits.{first_waiter, begin_wait, wake}
use Rattle.evm_model.specs.declared.call.Outcome.{Outcome}
use Rattle.evm_model.specs.declared.call.Outcome.TheVariants.{Returns, Blocks}
use Rattle.evm_model.specs.declared.errno.Errno.{Errno}
use Rattle.evm_model.specs.declared.errno.Errno.TheVariants.{NotPermitted, NoNumber, Invalid}
use Rattle.evm_model.specs.declared.limits.TheConstants.{EVENT_LIMIT}
use Rattle.evm_model.specs.declared.mutex.Mutex.{Mutex}
use Rattle.evm_model.specs.declared.stage.Stage.TheVariants.{OutOfBand}
use Rattle.evm_model.specs.declared.task.Wait.TheVariants.{Event, Reacquire}

-- ---- 11: a new event
unfoldable pub add_event : Parts → Parts
add_event p = record p { events = p.events ++ None ∷ [] }

-- its number is answered
unfoldable pub new_event : Parts → Parts × Outcome
new_event p = if nat_le EVENT_LIMIT (length p.events) then refused NoNumber p else (add_event p, Returns (length p.events))

-- ---- a task waits for an event no more
-- it owns the mutex and wakes; or another task owns it, and it waits for it, without a deadline, and keeps the answer
abbrev pub reacquire_from : Option ℕ → ℕ → ℕ → ℕ → Parts → Parts
reacquire_from None t m answer p = wake t answer (on_mutex m (held_by t 1) p)
reacquire_from (Some u) t m answer p = begin_wait t (Reacquire m answer) 0 p

abbrev pub reacquire_of : Option ℕ → ℕ → ℕ → Parts → Parts
reacquire_of None t answer p = p
reacquire_of (Some m) t answer p = reacquire_from (owner p.mutexes m) t m answer p

abbrev pub bound_of : Option (Option ℕ) → Option ℕ
bound_of None = None
bound_of (Some mutex) = mutex

-- the mutex of the tasks that wait for event e
abbrev pub bound : ℕ → Parts → Option ℕ
bound e p = bound_of (slice_get p.events e)

-- task t, which waits for event e, reacquires its mutex, and its call is answered then
unfoldable pub reacquire : ℕ → ℕ → ℕ → Parts → Parts
reacquire e t answer p = reacquire_of (bound e p) t answer p

-- ---- 42: a wait for an event
abbrev pub is_other : Option ℕ → Option ℕ → ℕ → Bool
is_other None mutex m = false
is_other (Some waiter) mutex m = not (is_number mutex m)

-- whether tasks wait for event e with another mutex than m
abbrev pub has_other : ℕ → ℕ → Parts → Bool
has_other e m p = is_other (first_waiter (Event e) p) (bound e p) m

-- the task owns this mutex, which it locked once, and no other
abbrev pub holds_alone : ℕ → ℕ → Mutex → Parts → Bool
holds_alone t m mutex p = is_number mutex.owner t && (mutex.count == 1 && not (owns_any t (change freed p.mutexes m)))

abbrev pub holding_refusal : ℕ → ℕ → Mutex → Parts → Option Errno
holding_refusal t m mutex p = if holds_alone t m mutex p then None else Some NotPermitted

-- the mutex passes on, and the task waits
unfoldable pub begin_event_wait : ℕ → ℕ → ℕ → ℕ → Parts → Parts
begin_event_wait t e m deadline p = begin_wait t (Event e) deadline (hand_over m (on_event e (λ _. Some m) p))

abbrev pub event_wait_unless : Option Errno → ℕ → ℕ → ℕ → ℕ → Parts → Parts × Outcome
event_wait_unless (Some error) t e m deadline p = refused error p
event_wait_unless None t e m deadline p = (begin_event_wait t e m deadline p, Blocks)

abbrev pub event_wait_with : Option Mutex → ℕ → ℕ → ℕ → ℕ → ℕ → Parts → Parts × Outcome
event_wait_with None c t e m deadline p = refused Invalid p
event_wait_with (Some mutex) c t e m deadline p =
    if has_other e m p then refused Invalid p
    else event_wait_unless (wait_refusal (is_stalled OutOfBand c p) (holding_refusal t m mutex p) p.ticks deadline) t e m deadline p

abbrev pub event_wait_known : Option (Option ℕ) → ℕ → ℕ → ℕ → ℕ → ℕ → Parts → Parts × Outcome
event_wait_known None c t e m deadline p = refused Invalid p
event_wait_known (Some mutex) c t e m deadline p = event_wait_with (slice_get p.mutexes m) c t e m deadline p

-- 42: the task gives mutex m back and waits for event e
unfoldable pub event_wait : ℕ → ℕ → ℕ → ℕ → ℕ → Parts → Parts × Outcome
event_wait c t e m deadline p = event_wait_known (slice_get p.events e) c t e m deadline p

-- ---- 43 and 44: a signal
abbrev pub signal_to : Option ℕ → ℕ → Parts → Parts
signal_to None e p = p
signal_to (Some t) e p = reacquire e t 0 p

-- the first that waits for event e reacquires its mutex, if one does
unfoldable pub signal_first : ℕ → Parts → Parts
signal_first e p = signal_to (first_waiter (Event e) p) e p

-- .. again and again
unfoldable pub signal_rounds : ℕ → ℕ → Parts → Parts
signal_rounds e zero p = p
signal_rounds e (suc n) p = signal_first e (signal_rounds e n p)

abbrev pub signal_known : Option (Option ℕ) → ℕ → ℕ → Parts → Parts × Outcome
signal_known None e rounds p = refused Invalid p
signal_known (Some mutex) e rounds p = (signal_rounds e rounds p, Returns 0)

-- 43: the first that waits waits no more
unfoldable pub signal : ℕ → Parts → Parts × Outcome
signal e p = signal_known (slice_get p.events e) e 1 p

-- 44: all that wait wait no more, one by one
unfoldable pub broadcast : ℕ → Parts → Parts × Outcome
broadcast e p = signal_known (slice_get p.events e) e (length p.tasks) p
