-- Why a task woke, in the words of the law.
use Rattle.std.proofs.Common.{◌≡◌, ℕ, ◌<◌, ◌≤◌, List, false, Some, length, refl, ap, ◌∙◌, arith}
use Rattle.std.specs.Prelude.{slice_get}
use Rattle.evm_model.specs.Good.{event_of, event_of_task}
use Rattle.evm_model.specs.Mutexes.{owner_of, owns_any, held_by}
use Rattle.evm_model.specs.State.{Parts}
use Rattle.evm_model.specs.Waits.{ready_on, stage_of_wait}
use Rattle.evm_model.specs.declared.stage.Stage.TheVariants.{OutOfBand}
use Rattle.evm_model.specs.declared.mutex.Mutex.{Mutex}
use Rattle.evm_model.specs.declared.task.Task.{Task}
use Rattle.evm_model.specs.declared.task.TaskState.{TaskState}
use Rattle.evm_model.specs.declared.task.TaskState.TheVariants.{Waits}
use Rattle.evm_model.specs.declared.task.Wait.{Wait}
use Rattle.evm_model.specs.declared.task.Wait.TheVariants.{Line, Lock, Reacquire, Semaphore, Event as OfEvent, Flags, Sleep, Timer as OfTimer}
use Rattle.evm_model.proofs.Lists.{slice_get-within}
use Rattle.law_rules.proofs.Walk.{Actor, Cause, played, passed, passed_back, regained, timed_out, put, put_by, posted, posted_by, expired_for, Ends, signalled, late, IsLate, is_event, late_answer, Makes}
use Rattle.law_runs.specs.Changes.{WasLate, late_answer as late_after, is_event_wait, EventEnds, by_signal, by_time, HasMutex, WokenBy, by_line, by_owner, by_owner_back, by_event, by_deadline, by_put, by_line_put, by_post, by_line_post, by_timer}
use Rattle.law_runs.proofs.Fares.{owner_oob, returns}
use Rattle.law_runs.proofs.Named.{AreNamed}

-- what a walk has kept so far
pub record SoFar (old k : Parts) : Type 0 where
  pub later : old.stamps ≤ k.stamps
  pub ticks : k.ticks ≡ old.ticks
  pub profile : k.profile ≡ old.profile
  pub named : AreNamed (length old.mutexes) k.events k.tasks
  pub mutexes : length old.mutexes ≤ length k.mutexes

module _ (a : Actor) (old : Parts) where
  late_by : (x : Task) (k : Parts) → k.ticks ≡ old.ticks → IsLate a x k → WasLate a.cpu old.ticks x
  late_by x k clock h = record { set = h.set; come = rw (← clock) h.come; home = h.home }

  pub ends_by : (e answer : ℕ) (x : Task) (k : Parts) → k.ticks ≡ old.ticks → Ends a old e x k answer → EventEnds (Makes a old) a.cpu old.ticks e x answer
  ends_by e _ x k clock (signalled y call is) = by_signal y call is
  ends_by e _ x k clock (late h) = by_time (late_by x k clock h)

  answers_alike : (wait : Wait) → late_answer wait ≡ late_after wait
  answers_alike Sleep = refl
  answers_alike (Line l) = refl
  answers_alike (Lock m) = refl
  answers_alike (Reacquire m answer) = refl
  answers_alike (Semaphore s) = refl
  answers_alike (OfEvent e) = refl
  answers_alike (Flags g) = refl
  answers_alike (OfTimer n) = refl

  plain_alike : (wait : Wait) → is_event wait ≡ false → is_event_wait wait ≡ false
  plain_alike (OfEvent e) h = cc
  plain_alike Sleep h = refl
  plain_alike (Line l) h = refl
  plain_alike (Lock m) h = refl
  plain_alike (Reacquire m answer) h = refl
  plain_alike (Semaphore s) h = refl
  plain_alike (Flags g) h = refl
  plain_alike (OfTimer n) h = refl

  has_given : (u m : ℕ) (mutex : Mutex) (k : Parts) (x : Task) → slice_get k.mutexes m ≡ Some mutex → mutex.owner ≡ Some u → mutex.count ≡ 1 → HasMutex u m (ready_on OutOfBand (returns (owns_any u k.mutexes) x)) k.mutexes
  has_given u m mutex k x there its once = record { mutex = mutex; there = there; owns = its; once = once; oob = owner_oob m u k.mutexes x (ap owner_of there ∙ its) }

  pub woken_by : (u : ℕ) (k : Parts) (x : Task) (value : ℕ) (wait : Wait) → SoFar old k → slice_get k.tasks u ≡ Some x → x.state ≡ Waits wait → Cause a old u x k wait value
      → WokenBy a.task (Makes a old) a.cpu u x (ready_on (stage_of_wait wait) (returns (owns_any u k.mutexes) x)) old k wait value
  woken_by u k x _ _ far there on (played l home) = by_line l home
  woken_by u k x _ _ far there on (passed m p) = by_owner m p.giver p.acts p.had (has_given u m (held_by u 1 p.mutex) k x p.its refl refl)
  woken_by u k x _ _ far there on (passed_back m answer p) = by_owner_back m answer p.giver p.acts p.had (has_given u m (held_by u 1 p.mutex) k x p.its refl refl)
  woken_by u k x _ _ far there on (regained e m answer its owned why) =
      let small : m < length k.mutexes = omega (arith, far.mutexes, far.named.below u e m (ap event_of_task there ∙ ap event_of on) its) in
      let mutex = slice_get-within k.mutexes m small in
      let has = owned mutex.0 mutex.1 in
      by_event e m answer its (has_given u m mutex.0 k x mutex.1 has.0 has.1) (ends_by e answer x k far.ticks why)
  woken_by u k x _ _ far there on (timed_out wait plain h) = rw (answers_alike wait) (by_deadline wait (plain_alike wait plain) (late_by x k far.ticks h))
  woken_by u k x _ _ far there on (put caller call) = by_put caller call
  woken_by u k x _ _ far there on (put_by l s is) = by_line_put l s is
  woken_by u k x _ _ far there on (posted caller word call is) = by_post caller word call is
  woken_by u k x _ _ far there on (posted_by l g word is) = by_line_post l g word is
  woken_by u k x _ _ far there on (expired_for n timer due now) = rw far.ticks (by_timer n timer (rw far.ticks at due) (rw far.ticks at now))

  -- of what was there only mutexes, flag groups and the clock are spoken of
  pub asked_by : (u : ℕ) (wait : Wait) (value : ℕ) (x : Task) (state : TaskState) (k : Parts) (asked : List Task) → WokenBy a.task (Makes a old) a.cpu u x state old k wait value
      → WokenBy a.task (Makes a old) a.cpu u x state (record old { tasks = asked }) k wait value
  asked_by u _ _ x state k asked (by_line l home) = by_line l home
  asked_by u _ _ x state k asked (by_owner m giver own had has) = by_owner m giver own had has
  asked_by u _ _ x state k asked (by_owner_back m answer giver own had has) = by_owner_back m answer giver own had has
  asked_by u _ _ x state k asked (by_event e m answer named has ends) = by_event e m answer named has ends
  asked_by u _ _ x state k asked (by_deadline wait plain h) = by_deadline wait plain h
  asked_by u _ _ x state k asked (by_put y call) = by_put y call
  asked_by u _ _ x state k asked (by_line_put l s is) = by_line_put l s is
  asked_by u _ _ x state k asked (by_post y word call is) = by_post y word call is
  asked_by u _ _ x state k asked (by_line_post l g word is) = by_line_post l g word is
  asked_by u _ _ x state k asked (by_timer n timer due now) = by_timer n timer due now
