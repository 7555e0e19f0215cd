-- Each call on a semaphore leaves the state good but for what its processor settles.
use Rattle.std.proofs.Common.{ℕ, List, Option, Some, None, length, refl}
use Rattle.std.specs.Prelude.{slice_get, nat_lt, nat_le, ◌==◌}
use Rattle.evm_model.specs.Good.{IsOwn}
use Rattle.evm_model.specs.Semaphores.{add_semaphore, new_semaphore, sem_get_known, sem_get, sem_try_get_known, sem_try_get, sem_put}
use Rattle.evm_model.specs.State.{Parts}
use Rattle.evm_model.specs.declared.call.Outcome.{Outcome}
use Rattle.evm_model.specs.declared.limits.TheConstants.{SEMAPHORE_LIMIT, SEMAPHORE_COUNT_LIMIT}
use Rattle.evm_model.specs.declared.task.Wait.TheVariants.{Semaphore}
use Rattle.law_rules.proofs.Done.{IsDone, either, others-done, rests-done, stirs-done}
use Rattle.law_rules.proofs.Firsts.{IsOobOwn}
use Rattle.law_rules.proofs.Handling.{sem_put-stirs}
use Rattle.law_rules.proofs.Settling.{GoodBut}

module _ (c t : ℕ) (k : Parts) (g : GoodBut c k) (o : IsOwn c t k.tasks) where
  same : (outcome : Outcome) → IsDone c t (k, outcome)
  same outcome = record { but = g; own = λ v n. o }

  changed : (semaphores : List ℕ) (outcome : Outcome) → IsDone c t (record k { semaphores = semaphores }, outcome)
  changed semaphores outcome = others-done c t k semaphores k.flags k.timers k.actions k.console outcome g o

  pub new_semaphore-done : (count : ℕ) → IsDone c t (new_semaphore count k)
  unfolding new_semaphore add_semaphore
  new_semaphore-done count = either c t (nat_lt SEMAPHORE_COUNT_LIMIT count) _ _ (λ e. same _) (λ e. either c t (nat_le SEMAPHORE_LIMIT (length k.semaphores)) _ _ (λ e. same _) (λ e. changed _ _))

  known-done : (x : Option ℕ) (s deadline : ℕ) → IsOobOwn c t k.tasks → IsDone c t (sem_get_known x c t s deadline k)
  known-done None s deadline w = same _
  known-done (Some count) s deadline w = either c t (count == 0) _ _ (λ e. rests-done c t k g o w (Semaphore s) deadline refl refl) (λ e. changed _ _)

  pub sem_get-done : (s deadline : ℕ) → IsOobOwn c t k.tasks → IsDone c t (sem_get c t s deadline k)
  unfolding sem_get
  sem_get-done s deadline w = known-done (slice_get k.semaphores s) s deadline w

  try_known-done : (x : Option ℕ) (s : ℕ) → IsDone c t (sem_try_get_known x s k)
  try_known-done None s = same _
  try_known-done (Some count) s = either c t (count == 0) _ _ (λ e. same _) (λ e. changed _ _)

  pub sem_try_get-done : (s : ℕ) → IsDone c t (sem_try_get s k)
  unfolding sem_try_get
  sem_try_get-done s = try_known-done (slice_get k.semaphores s) s

  pub sem_put-done : (s : ℕ) → IsDone c t (sem_put s k)
  sem_put-done s = stirs-done c t k (sem_put s k).0 (sem_put s k).1 (sem_put-stirs s k g.shape) g o
