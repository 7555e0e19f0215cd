-- What each call on a timer does to the parts, and what comes of it; and how timers expire.
use Rattle.std.specs.Prelude.{ℕ, zero, suc, ◌+◌, ◌-◌, ◌*◌, ◌/◌, [], ◌∷◌, ◌++◌, Option, Some, None, Bool, not, ◌==◌, ◌&&◌, nat_lt, nat_le, if◌then◌else◌, slice_get, length}
use Rattle.evm_model.specs.Stages.{refused, is_stalled, wait_refusal, wait_unless}
use Rattle.evm_model.specs.State.{Parts, on_timer}
use Rattle.evm_model.specs.Waits.{first_waiter, wake}
use Rattle.evm_model.specs.declared.call.Outcome.{Outcome}
use Rattle.evm_model.specs.declared.call.Outcome.TheVariants.{Returns}
use Rattle.evm_model.specs.declared.errno.Errno.TheVariants.{NoNumber, TryAgain, Invalid}
use Rattle.evm_model.specs.declared.limits.TheConstants.{TIMER_LIMIT, TIMER_SPAN_LIMIT}
use Rattle.evm_model.specs.declared.stage.Stage.TheVariants.{OutOfBand}
use Rattle.evm_model.specs.declared.task.Wait.TheVariants.{Timer as For}
use Rattle.evm_model.specs.declared.timer.Timer.{Timer}

-- ---- 13: a new timer
-- one that is off
abbrev pub idle_timer : Timer
idle_timer = record { cpu = 0; due = 0; period = 0; expiries = 0 }

unfoldable pub add_timer : Parts → Parts
add_timer p = record p { timers = p.timers ++ idle_timer ∷ [] }

-- its number is answered
unfoldable pub new_timer : Parts → Parts × Outcome
new_timer p = if nat_le TIMER_LIMIT (length p.timers) then refused NoNumber p else (add_timer p, Returns (length p.timers))

-- ---- 48: a timer is set
-- one of processor c that expires first at this tick, or never if that is 0
abbrev pub set_timer : ℕ → ℕ → ℕ → Timer
set_timer c first period = record { cpu = c; due = first; period = period; expiries = 0 }

abbrev pub timer_set_known : Option Timer → ℕ → ℕ → ℕ → ℕ → Parts → Parts × Outcome
timer_set_known None c n first period p = refused Invalid p
timer_set_known (Some timer) c n first period p =
    if nat_lt TIMER_SPAN_LIMIT first then refused Invalid p
    else (if nat_lt TIMER_SPAN_LIMIT period then refused Invalid p else (on_timer n (λ _. set_timer c first period) p, Returns 0))

-- 48: timer n expires first at this tick, then every period
unfoldable pub timer_set : ℕ → ℕ → ℕ → ℕ → Parts → Parts × Outcome
timer_set c n first period p = timer_set_known (slice_get p.timers n) c n first period p

-- ---- 49: expiries are taken
abbrev pub taken : Timer → Timer
taken timer = record timer { expiries = 0 }

abbrev pub timer_wait_known : Option Timer → ℕ → ℕ → ℕ → Parts → Parts × Outcome
timer_wait_known None c t n p = refused Invalid p
timer_wait_known (Some timer) c t n p =
    if nat_lt 0 timer.expiries then (on_timer n taken p, Returns timer.expiries)
    else (if timer.due == 0 then refused TryAgain p
    else wait_unless (wait_refusal (is_stalled OutOfBand c p) None p.ticks 0) t (For n) 0 p)

-- 49: the task takes the expiries of timer n, or waits for one; not for a timer that is off
unfoldable pub timer_wait : ℕ → ℕ → ℕ → Parts → Parts × Outcome
timer_wait c t n p = timer_wait_known (slice_get p.timers n) c t n p

-- ---- timers expire
abbrev pub is_due_timer : ℕ → ℕ → Timer → Bool
is_due_timer c now timer = not (timer.due == 0) && (nat_le timer.due now && timer.cpu == c)

-- how often a timer has expired up to now since it was due
abbrev pub missed : ℕ → Timer → ℕ
missed now timer = if timer.period == 0 then 1 else 1 + (now - timer.due) / timer.period

-- it is due again a period after the last of these, or off
abbrev pub due_after : ℕ → Timer → ℕ
due_after now timer = if timer.period == 0 then 0 else timer.due + missed now timer * timer.period

unfoldable pub expired : ℕ → Timer → Timer
expired now timer = record timer { due = due_after now timer; expiries = timer.expiries + missed now timer }

-- the first task that waits for the timer wakes with all its expiries; if there is none, they are kept
abbrev pub expire_to : Option ℕ → ℕ → Timer → Parts → Parts
expire_to None n timer p = on_timer n (λ _. timer) p
expire_to (Some t) n timer p = wake t timer.expiries (on_timer n (λ _. taken timer) p)

abbrev pub expire_known : Option Timer → ℕ → ℕ → Parts → Parts
expire_known None c n p = p
expire_known (Some timer) c n p =
    if is_due_timer c p.ticks timer then expire_to (first_waiter (For n) p) n (expired p.ticks timer) p else p

-- timer n expires if it is c's and due
unfoldable pub expire : ℕ → ℕ → Parts → Parts
expire c n p = expire_known (slice_get p.timers n) c n p

-- of the timers below a number those of c that are due have expired, by number
unfoldable pub expire_below : ℕ → ℕ → Parts → Parts
expire_below c zero p = p
expire_below c (suc n) p = expire c n (expire_below c n p)

-- the timers of c that are due expire
unfoldable pub expire_timers : ℕ → Parts → Parts
expire_timers c p = expire_below c (length p.timers) p
