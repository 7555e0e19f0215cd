-- What a call leaves.
use Rattle.std.proofs.Common.{◌≡◌, ℕ, List, Bool, true, false, Option, Some, None, refl}
use Rattle.std.specs.Prelude.{if◌then◌else◌}
use Rattle.evm_model.specs.Good.{IsOwn, event_of}
use Rattle.evm_model.specs.Mutexes.{lock_of}
use Rattle.evm_model.specs.Stages.{is_stalled, wait_refusal, wait_unless}
use Rattle.evm_model.specs.State.{Parts}
use Rattle.evm_model.specs.Waits.{begin_wait}
use Rattle.evm_model.specs.declared.action.Action.{Action}
use Rattle.evm_model.specs.declared.call.Outcome.{Outcome}
use Rattle.evm_model.specs.declared.call.Outcome.TheVariants.{Returns}
use Rattle.evm_model.specs.declared.errno.Errno.{Errno}
use Rattle.evm_model.specs.declared.stage.Stage.TheVariants.{OutOfBand, InBand}
use Rattle.evm_model.specs.declared.task.TaskState.TheVariants.{Waits}
use Rattle.evm_model.specs.declared.task.Wait.{Wait}
use Rattle.evm_model.specs.declared.timer.Timer.{Timer}
use Rattle.law_rules.proofs.Acting.{IsFree, IsOpen, but-rests, but-stirs}
use Rattle.law_rules.proofs.Firsts.{IsOobOwn}
use Rattle.law_rules.proofs.Settling.{GoodBut}
use Rattle.law_rules.proofs.Stirring.{Stirs, stirs-others}
use Rattle.law_rules.proofs.Waking.{alike-own}

-- what a call leaves: all good but for settling, and where it is answered the task is the processor's own
pub record IsDone (c t : ℕ) (done : Parts × Outcome) : Type 0 where
  pub but : GoodBut c done.0
  pub own : (value : ℕ) → done.1 ≡ Returns value → IsOwn c t done.0.tasks

pub either : (c t : ℕ) (b : Bool) (x y : Parts × Outcome) → (b ≡ true → IsDone c t x) → (b ≡ false → IsDone c t y) → IsDone c t (if b then x else y)
either c t true x y p q = p refl
either c t false x y p q = q refl

pub not-stalled : (c : ℕ) (k : Parts) → is_stalled InBand c k ≡ false → IsFree c k
not-stalled c k e = record { free = λ pipe h. rw h at e }

pub not-closed : (c : ℕ) (k : Parts) → is_stalled OutOfBand c k ≡ false → IsOpen c k
not-closed c k e = record { open_there = λ pipe h. rw h at e }

-- a call that may wait
pub may-wait : (stalled : Bool) (own : Option Errno) (now deadline : ℕ) → wait_refusal stalled own now deadline ≡ None → (stalled ≡ false) × (own ≡ None)
may-wait true own now deadline e = cc
may-wait false None now deadline e = (refl, refl)
may-wait false (Some x) now deadline e = cc

pub unless-done : (c t : ℕ) (k : Parts) → GoodBut c k → IsOwn c t k.tasks → (x : Option Errno) (wait : Wait) (deadline : ℕ) → (x ≡ None → GoodBut c (begin_wait t wait deadline k)) → IsDone c t (wait_unless x t wait deadline k)
unless-done c t k g o (Some e) wait deadline h = record { but = g; own = λ v n. o }
unless-done c t k g o None wait deadline h = record { but = h refl; own = λ v n. cc }

-- it waits for what no mutex is, and no event
pub rests-done : (c t : ℕ) (k : Parts) → GoodBut c k → IsOwn c t k.tasks → IsOobOwn c t k.tasks → (wait : Wait) (deadline : ℕ) → lock_of (Waits wait) ≡ None → event_of (Waits wait) ≡ None
    → IsDone c t (wait_unless (wait_refusal (is_stalled OutOfBand c k) None k.ticks deadline) t wait deadline k)
rests-done c t k g o w wait deadline lock event =
    unless-done c t k g o (wait_refusal (is_stalled OutOfBand c k) None k.ticks deadline) wait deadline (λ e.
    but-rests c t deadline wait k lock event (not-closed c k (may-wait (is_stalled OutOfBand c k) None k.ticks deadline e).0) w g)

-- tasks that waited woke, or wait for something else
pub stirs-done : (c t : ℕ) (k x : Parts) (outcome : Outcome) → Stirs k x → GoodBut c k → IsOwn c t k.tasks → IsDone c t (x, outcome)
stirs-done c t k x outcome p g o = record { but = but-stirs c k x p g; own = λ v n. alike-own c t k.tasks x.tasks (p.alike c) o }

-- nothing changes but what no rule looks at
pub others-done : (c t : ℕ) (k : Parts) (semaphores flags : List ℕ) (timers : List Timer) (actions : List Action) (console : List ℕ) (outcome : Outcome) → GoodBut c k → IsOwn c t k.tasks
    → IsDone c t (record k { semaphores = semaphores; flags = flags; timers = timers; actions = actions; console = console }, outcome)
others-done c t k semaphores flags timers actions console outcome g o = stirs-done c t k _ outcome (stirs-others k semaphores flags timers actions console g.shape) g o
