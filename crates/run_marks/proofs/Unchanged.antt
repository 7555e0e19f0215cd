-- What stays as it is has no mark.
use Rattle.std.proofs.Common.{◌≡◌, ℕ, [], ◌++◌, Bool, true, false, Option, Some, None, refl, eq-eqb}
use Rattle.std.specs.Prelude.{◌==◌, ◌&&◌, not, nat_le}
use Rattle.evm_model.specs.declared.stage.Stage.{Stage}
use Rattle.evm_model.specs.declared.stage.Stage.TheVariants.{OutOfBand, InBand}
use Rattle.evm_model.specs.declared.task.Task.{Task}
use Rattle.evm_model.specs.declared.task.TaskState.{TaskState}
use Rattle.evm_model.specs.declared.task.TaskState.TheVariants as states
use Rattle.evm_model.specs.declared.task.Wait.{Wait}
use Rattle.evm_model.specs.declared.task.Wait.TheVariants as waits
use Rattle.run_marks.specs.Marks.{change_marks, deadline_marks, end_marks, equal_waits, migrates_marks, moves_marks, same_stage, task_stage, wait_of, waits_marks, woken_marks}

same_number : (n : ℕ) → (n == n) ≡ true
same_number n = eq-eqb n n refl

same_wait : (w : Wait) → equal_waits w w ≡ true
same_wait (waits.Line l) = same_number l
same_wait (waits.Lock m) = same_number m
same_wait (waits.Reacquire m x) = rw (same_number m, same_number x) refl
same_wait (waits.Semaphore s) = same_number s
same_wait (waits.Event e) = same_number e
same_wait (waits.Flags f) = same_number f
same_wait waits.Sleep = refl
same_wait (waits.Timer n) = same_number n

no_wake : (t : ℕ) (w : Option Wait) → woken_marks t w w ≡ []
no_wake t None = refl
no_wake t (Some w) = rw (same_wait w) refl

no_wait : (t : ℕ) (w : Option Wait) → waits_marks t w w ≡ []
no_wait t None = refl
no_wait t (Some w) = rw (same_wait w) refl

never : (a b : Bool) → (a && (b && false)) ≡ false
never true true = refl
never true false = refl
never false b = refl

no_deadline : (t ticks d : ℕ) → deadline_marks t ticks d d ≡ []
no_deadline t ticks d = rw (same_number d, never (not (d == 0)) (nat_le d ticks)) refl

no_migration : (t c : ℕ) → migrates_marks t c c ≡ []
no_migration t c = rw (same_number c) refl

no_move : (t : ℕ) (o : Option Stage) → moves_marks t o o ≡ []
no_move t None = refl
no_move t (Some OutOfBand) = refl
no_move t (Some InBand) = refl

no_end : (t : ℕ) (s : TaskState) → end_marks t s s ≡ []
no_end t states.InReady = refl
no_end t states.OobReady = refl
no_end t (states.Waits w) = refl
no_end t states.Exit = refl
no_end t (states.Faulted f) = refl

-- a task of the same processor, deadline and state
pub no_change : (t ticks : ℕ) (before after : Task) → before.cpu ≡ after.cpu → before.deadline ≡ after.deadline → before.state ≡ after.state → change_marks t ticks before after ≡ []
no_change t ticks before after cpu deadline state =
    rw (cpu, deadline, state, no_wake t (wait_of after.state), no_deadline t ticks after.deadline, no_migration t after.cpu, no_move t (task_stage after.state), no_wait t (wait_of after.state), no_end t after.state) refl
