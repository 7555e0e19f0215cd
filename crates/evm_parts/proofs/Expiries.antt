-- One more timer that expires, and that nothing follows where none is due.
use Rattle.std.proofs.Common.{◌≡◌, ℕ, zero, suc, ◌+◌, ◌<◌, Option, Some, None, false, refl, add-one, arith}
use Rattle.std.specs.Prelude.{◌==◌, ◌&&◌, not, nat_le, slice_get}
use Rattle.std.proofs.lemmas.Bool.Decides.{nat_tests}
use Rattle.evm_model.specs.State.{Parts}
use Rattle.evm_model.specs.Tasks.{restamp}
use Rattle.evm_model.specs.Timers.{expire, expire_below, expire_known}
use Rattle.evm_model.specs.Waits.{wake}
use Rattle.evm_model.specs.declared.timer.Timer.{Timer}
use Rattle.evm_tick.specs.Spans.{IsQuiet}

pub expire-none : (c : ℕ) (k : Parts) → expire_below c 0 k ≡ k
unfolding expire_below
expire-none c k = refl

pub expire-more : (c n : ℕ) (k : Parts) → expire_below c (n + 1) k ≡ expire c n (expire_below c n k)
unfolding expire_below
expire-more c n k = rw add-one refl

due-test : (due now cpu c : ℕ) → ((due ≡ 0 → ⊥) → now < due) → (not (due == 0) && (nat_le due now && cpu == c)) ≡ false
due-test due now cpu c late = grind (arith, nat_tests)

quiet-known : (c n : ℕ) (k : Parts) (o : Option Timer) → ((timer : Timer) → o ≡ Some timer → (timer.due ≡ 0 → ⊥) → k.ticks < timer.due) → expire_known o c n k ≡ k
quiet-known c n k None quiet = refl
quiet-known c n k (Some timer) quiet = rw (due-test timer.due k.ticks timer.cpu c (quiet timer refl)) refl

quiet-one : (c n : ℕ) (k : Parts) → IsQuiet k.ticks k.timers → expire c n k ≡ k
unfolding expire
quiet-one c n k quiet = quiet-known c n k (slice_get k.timers n) (quiet.each n)

pub expire-quiet : (c n : ℕ) (k : Parts) → IsQuiet k.ticks k.timers → expire_below c n k ≡ k
unfolding expire_below
expire-quiet c zero k quiet = refl
expire-quiet c (suc n) k quiet = rw (expire-quiet c n k quiet) (quiet-one c n k quiet)

-- a task that wakes leaves the clock
pub wake-ticks : (t value : ℕ) (k : Parts) → (wake t value k).ticks ≡ k.ticks
unfolding wake restamp
wake-ticks t value k = refl

pub ruleset expiries = (expire-none, expire-more, expire-quiet)
