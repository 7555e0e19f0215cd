-- What each call on a semaphore does to the parts, and what comes of it. A semaphore is its count.
use Rattle.std.specs.Prelude.{ℕ, ◌+◌, ◌-◌, [], ◌∷◌, ◌++◌, Option, Some, None, ◌==◌, nat_lt, nat_le, if◌then◌else◌, slice_get, length}
use Rattle.evm_model.specs.Stages.{refused, is_stalled, wait_refusal, wait_unless}
use Rattle.evm_model.specs.State.{Parts, on_semaphore}
use Rattle.evm_model.specs.Waits.{first_waiter, wake}
use Rattle.evm_model.specs.declared.call.Outcome.{Outcome}
use Rattle.evm_model.specs.declared.call.Outcome.TheVariants.{Returns}
use Rattle.evm_model.specs.declared.errno.Errno.TheVariants.{NoNumber, TryAgain, Invalid}
use Rattle.evm_model.specs.declared.limits.TheConstants.{SEMAPHORE_LIMIT, SEMAPHORE_COUNT_LIMIT}
use Rattle.evm_model.specs.declared.stage.Stage.TheVariants.{OutOfBand}
use Rattle.evm_model.specs.declared.task.Wait.TheVariants.{Semaphore}

-- ---- 10: a new semaphore
unfoldable pub add_semaphore : ℕ → Parts → Parts
add_semaphore count p = record p { semaphores = p.semaphores ++ count ∷ [] }

-- its number is answered
unfoldable pub new_semaphore : ℕ → Parts → Parts × Outcome
new_semaphore count p =
    if nat_lt SEMAPHORE_COUNT_LIMIT count then refused Invalid p
    else (if nat_le SEMAPHORE_LIMIT (length p.semaphores) then refused NoNumber p
    else (add_semaphore count p, Returns (length p.semaphores)))

-- ---- 39 and 40: one is taken
abbrev pub sem_get_known : Option ℕ → ℕ → ℕ → ℕ → ℕ → Parts → Parts × Outcome
sem_get_known None c t s deadline p = refused Invalid p
sem_get_known (Some count) c t s deadline p =
    if count == 0 then wait_unless (wait_refusal (is_stalled OutOfBand c p) None p.ticks deadline) t (Semaphore s) deadline p
    else (on_semaphore s (λ n. n - 1) p, Returns 0)

-- 39: the task takes one, or waits for one
unfoldable pub sem_get : ℕ → ℕ → ℕ → ℕ → Parts → Parts × Outcome
sem_get c t s deadline p = sem_get_known (slice_get p.semaphores s) c t s deadline p

abbrev pub sem_try_get_known : Option ℕ → ℕ → Parts → Parts × Outcome
sem_try_get_known None s p = refused Invalid p
sem_try_get_known (Some count) s p = if count == 0 then refused TryAgain p else (on_semaphore s (λ n. n - 1) p, Returns 0)

-- 40: the task takes one, if it need not wait for it
unfoldable pub sem_try_get : ℕ → Parts → Parts × Outcome
sem_try_get s p = sem_try_get_known (slice_get p.semaphores s) s p

-- ---- 41: one is put
-- the first that waits wakes; if there is none, the count is one more
abbrev pub sem_put_to : Option ℕ → ℕ → ℕ → Parts → Parts × Outcome
sem_put_to None s count p = if nat_le SEMAPHORE_COUNT_LIMIT count then refused Invalid p else (on_semaphore s (λ n. n + 1) p, Returns 0)
sem_put_to (Some t) s count p = (wake t 0 p, Returns 0)

abbrev pub sem_put_known : Option ℕ → ℕ → Parts → Parts × Outcome
sem_put_known None s p = refused Invalid p
sem_put_known (Some count) s p = sem_put_to (first_waiter (Semaphore s) p) s count p

unfoldable pub sem_put : ℕ → Parts → Parts × Outcome
sem_put s p = sem_put_known (slice_get p.semaphores s) s p
