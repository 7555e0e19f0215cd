-- A call on a mutex that is refused changes nothing.
use Rattle.std.proofs.Common.{◌≡◌, ℕ, Bool, true, false, Option, Some, None, refl}
use Rattle.std.specs.Prelude.{◌==◌, if◌then◌else◌}
use Rattle.evm_model.specs.Boosts.{is_number}
use Rattle.evm_model.specs.Locks.{cycle_refusal, lock_again, lock_other, lock_owned, lock_known, try_owned, try_known, unlock_known}
use Rattle.evm_model.specs.Notices.{is_refused}
use Rattle.evm_model.specs.Stages.{is_stalled, wait_refusal, wait_unless}
use Rattle.evm_model.specs.State.{Parts}
use Rattle.evm_model.specs.declared.call.Outcome.{Outcome}
use Rattle.evm_model.specs.declared.errno.Errno.{Errno}
use Rattle.evm_model.specs.declared.errno.Errno.TheVariants.{NotPermitted, Deadlock}
use Rattle.evm_model.specs.declared.mutex.Mutex.{Mutex}
use Rattle.evm_model.specs.declared.stage.Stage.TheVariants.{OutOfBand}
use Rattle.evm_model.specs.declared.task.Wait.{Wait}
use Rattle.evm_model.specs.declared.task.Wait.TheVariants.{Lock}

-- the parts are the same where this is the error
abbrev pub RestsAt : Errno → Parts → Parts × Outcome → Type 0
RestsAt e k done = is_refused e done.1 ≡ true → done.0 ≡ k

either_rests : (e : Errno) (k : Parts) (b : Bool) (x y : Parts × Outcome) → RestsAt e k x → RestsAt e k y → RestsAt e k (if b then x else y)
either_rests e k true x y p q = p
either_rests e k false x y p q = q

waits_rests : (o : Option Errno) (t : ℕ) (wait : Wait) (deadline : ℕ) (k : Parts) → RestsAt Deadlock k (wait_unless o t wait deadline k)
waits_rests (Some error) t wait deadline k h = refl
waits_rests None t wait deadline k h = cc

module _ (t m : ℕ) (k : Parts) where
  again_rests : (mutex : Mutex) → RestsAt Deadlock k (lock_again t m mutex k)
  unfolding lock_again
  again_rests mutex = either_rests Deadlock k mutex.recursive _ _ (λ h. cc) (λ h. refl)

  other_rests : (c u deadline : ℕ) → RestsAt Deadlock k (lock_other c t m u deadline k)
  unfolding lock_other
  other_rests c u deadline = waits_rests (wait_refusal (is_stalled OutOfBand c k) (cycle_refusal t u k) k.ticks deadline) t (Lock m) deadline k

  owned_rests : (o : Option ℕ) (c deadline : ℕ) (mutex : Mutex) → RestsAt Deadlock k (lock_owned o c t m deadline mutex k)
  owned_rests None c deadline mutex = λ h. cc
  owned_rests (Some u) c deadline mutex = either_rests Deadlock k (u == t) _ _ (again_rests mutex) (other_rests c u deadline)

  pub lock_rests : (o : Option Mutex) (c deadline : ℕ) → RestsAt Deadlock k (lock_known o c t m deadline k)
  lock_rests None c deadline = λ h. refl
  lock_rests (Some mutex) c deadline = owned_rests mutex.owner c deadline mutex

  try_owned_rests : (o : Option ℕ) (mutex : Mutex) → RestsAt Deadlock k (try_owned o t m mutex k)
  try_owned_rests None mutex = λ h. cc
  try_owned_rests (Some u) mutex = either_rests Deadlock k (u == t) _ _ (again_rests mutex) (λ h. refl)

  pub try_rests : (o : Option Mutex) → RestsAt Deadlock k (try_known o t m k)
  try_rests None = λ h. refl
  try_rests (Some mutex) = try_owned_rests mutex.owner mutex

  pub unlock_rests : (o : Option Mutex) → RestsAt NotPermitted k (unlock_known o t m k)
  unlock_rests None = λ h. refl
  unlock_rests (Some mutex) = either_rests NotPermitted k (is_number mutex.owner t) _ _ (λ h. cc) (λ h. refl)
