-- Each call leaves the state good but for what its processor settles.
use Rattle.std.proofs.Common.{◌≡◌, ℕ, ◌<◌, ◌%◌, Bool, true, false, not, ◌&&◌, Option, Some, None, length, refl, ap, sym, ◌∙◌, ◌⊎◌, inl, inr, arith}
use Rattle.std.specs.Prelude.{slice_get, option_map, is_none, nat_lt, nat_le, ◌==◌, if◌then◌else◌}
use Rattle.std.proofs.lemmas.Bool.Decides.{nat_tests}
use Rattle.evm_exec.specs.Registers.{register_of}
use Rattle.evm_exec.specs.declared.hart.Hart.{Hart}
use Rattle.evm_model.proofs.Lists.{change-here, slice_get-below, slice_get-within}
use Rattle.evm_model.specs.Calls.{call_of, call_stage, perform, is_weak_oob, return_weak, answered, finish_call, ask_oob, call_on, call_known, call_of_hart, call}
use Rattle.evm_model.specs.Good.{Good, IsOwn, IsSettled}
use Rattle.evm_model.specs.Harts.{A7, argument, answer, advance}
use Rattle.evm_model.specs.InBandCalls.{exit, putc, yield_now, is_bad_entry, spawn, wait_line_unless, wait_line, attach_as, attach_task, detach}
use Rattle.evm_model.specs.Instructions.{fault}
use Rattle.evm_model.specs.Lists.{change}
use Rattle.evm_model.specs.Mutexes.{owns_any}
use Rattle.evm_model.specs.OobCalls.{moved, move_task, migrate, stall, switch_oob, switch_in_band, is_scheduled_task, schedule_as, set_sched, set_mode, yield_oob, clock, state_bits}
use Rattle.evm_model.specs.Pipes.{Pipe}
use Rattle.evm_model.specs.Policies.{policy_of}
use Rattle.evm_model.specs.Profiles.{line_count, offered}
use Rattle.evm_model.specs.Settle.{current, is_oob}
use Rattle.evm_model.specs.Stages.{refused, is_stalled, is_attached, may_promote, wait_refusal}
use Rattle.evm_model.specs.State.{Parts, on_hart}
use Rattle.evm_model.specs.Ranks.{is_oob_ready}
use Rattle.evm_model.specs.Waits.{begin_wait, ready_on}
use Rattle.evm_model.specs.Tasks.{is_weak, restamp, leave_in_band, set_policy, clear_policy, set_mode_bits}
use Rattle.evm_model.specs.declared.call.Call.{Call}
use Rattle.evm_model.specs.declared.call.Call.TheVariants.{Exit, Putc, Yield, Spawn, Stall, Unstall, WaitLine, Attach, Detach, NewMutex, NewSemaphore, NewEvent, NewFlags, NewTimer, SetLine, SwitchOob, SwitchInBand, SetSched, SetMode, Lock as Lock_call, TryLock, Unlock, SemGet, SemTryGet, SemPut, EventWait, Signal, Broadcast, FlagsWait, FlagsPost, SleepUntil, TimerSet, TimerWait, YieldOob, StallOob, UnstallOob, Clock, StateBits, Migrate}
use Rattle.evm_model.specs.declared.call.Outcome.{Outcome}
use Rattle.evm_model.specs.declared.call.Outcome.TheVariants.{Returns, Blocks, Exits}
use Rattle.evm_model.specs.declared.errno.Errno.{Errno}
use Rattle.evm_model.specs.declared.errno.Errno.TheVariants.{NotPermitted, NoSuchCall}
use Rattle.evm_model.specs.declared.fault.Fault.{Fault}
use Rattle.evm_model.specs.declared.limits.TheConstants.{TASK_LIMIT, MODE_LIMIT}
use Rattle.evm_model.specs.declared.processor.Processor.{Processor}
use Rattle.evm_model.specs.declared.notice.NoticeKind.TheVariants.{DemotedByCall, DemotedByFault}
use Rattle.evm_model.specs.declared.stage.Stage.{Stage}
use Rattle.evm_model.specs.declared.stage.Stage.TheVariants.{OutOfBand, InBand}
use Rattle.evm_model.specs.declared.task.Class.{Class}
use Rattle.evm_model.specs.declared.task.Task.{Task}
use Rattle.evm_model.specs.declared.task.Wait.TheVariants.{Line}
use Rattle.law_rules.proofs.Notices.{notify-but}
use Rattle.law_rules.proofs.Acting.{IsOpen, HasInBand, HasHeld, but-hart, but-unstall, but-stalled, but-unstall_oob, but-stalled_oob, but-leave, but-restamp, but-task, but-add, but-move, leave-own, add-own, restamp-free, restamp-own, task-own, demote-but, demote-own, wait_line-but, promote-but}
use Rattle.law_rules.proofs.Actions.{set_line-done}
use Rattle.law_rules.proofs.Aligned.{next-aligned}
use Rattle.law_rules.proofs.Deadlines.{sleep_until-done}
use Rattle.law_rules.proofs.Done.{IsDone, either, may-wait, not-closed, not-stalled, others-done}
use Rattle.law_rules.proofs.Events.{new_event-done, event_wait-done, signal-done, broadcast-done}
use Rattle.law_rules.proofs.Firsts.{IsOobOwn, both, eqb-is}
use Rattle.law_rules.proofs.Flags.{new_flags-done, flags_wait-done, flags_post-done}
use Rattle.law_rules.proofs.Locking.{new_mutex-done, lock-done, try_lock-done, unlock-done}
use Rattle.law_rules.proofs.Passing.{end-but}
use Rattle.law_rules.proofs.Semaphores.{new_semaphore-done, sem_get-done, sem_try_get-done, sem_put-done}
use Rattle.law_rules.proofs.Settling.{GoodBut, good_but, is_open, oob_own}
use Rattle.law_rules.proofs.Timers.{new_timer-done, timer_set-done, timer_wait-done}

-- what a spawn that isn't refused was tested for
if_false : (a b : Bool) → (if a then true else b) ≡ false → (a ≡ false) × (b ≡ false)
if_false true b e = cc
if_false false b e = (refl, e)

not_false : (b : Bool) → not b ≡ false → b ≡ true
not_false true e = refl
not_false false e = cc

not_true : (b : Bool) → not b ≡ true → b ≡ false
not_true true e = cc
not_true false e = refl

entry-aligned : (ram entry : ℕ) → is_bad_entry ram entry ≡ false → entry % 4 ≡ 0
entry-aligned ram entry e = eqb-is (entry % 4) 0 (not_false (entry % 4 == 0) (if_false (not (entry % 4 == 0)) _ e).0)

some-there : (o : Option Processor) → is_none o ≡ false → (p : Processor) × (o ≡ Some p)
some-there None e = cc
some-there (Some p) e = (p, refl)

cpu-there : (cpu : ℕ) (k : Parts) → is_none (slice_get k.processors cpu) ≡ false → cpu < length k.processors
cpu-there cpu k e = let p = some-there (slice_get k.processors cpu) e in slice_get-below k.processors cpu p.0 p.1

room-for : (k : Parts) → nat_le TASK_LIMIT (length k.tasks) ≡ false → length k.tasks < TASK_LIMIT
room-for k e = grind (arith, nat_tests)

-- ---- each call
module _ (c t : ℕ) (k : Parts) (g : GoodBut c k) (o : IsOwn c t k.tasks) where
  same : (outcome : Outcome) → IsDone c t (k, outcome)
  same outcome = record { but = g; own = λ v n. o }

  exit-done : IsOpen c k → IsDone c t (exit c t k)
  unfolding exit
  exit-done f = record { but = end-but c t _ k refl refl f g o; own = λ v n. cc }

  putc-done : (byte : ℕ) → IsDone c t (putc byte k)
  unfolding putc
  putc-done byte = others-done c t k k.semaphores k.flags k.timers k.actions _ _ g o

  yield-done : IsDone c t (yield_now c t k)
  unfolding yield_now
  yield-done = either c t (is_stalled InBand c k) _ _ (λ e. same _) (λ e. record {
    but = but-leave c (restamp t k) (restamp-free c t k (not-stalled c k e)) (but-restamp c t k g);
    own = λ v n. leave-own c c t (restamp t k) (restamp-own c t t k o);
  })

  spawn-done : (entry value cpu : ℕ) → IsDone c t (spawn entry value cpu k)
  unfolding spawn
  spawn-done entry value cpu =
      either c t (is_bad_entry k.profile.ram entry) _ _ (λ e. same _) (λ entry_ok.
      either c t (is_none (slice_get k.processors cpu)) _ _ (λ e. same _) (λ cpu_ok.
      either c t (nat_le TASK_LIMIT (length k.tasks)) _ _ (λ e. same _) (λ room. record {
        but = but-add c entry value cpu k (entry-aligned k.profile.ram entry entry_ok) (cpu-there cpu k cpu_ok) (room-for k room) g;
        own = λ v n. add-own entry value cpu c t k o;
      })))

  line_unless-done : (x : Option Errno) (l : ℕ) → (x ≡ None → GoodBut c (leave_in_band c (begin_wait t (Line l) 0 k))) → IsDone c t (wait_line_unless x c t l k)
  line_unless-done (Some e) l h = same _
  line_unless-done None l h = record { but = h refl; own = λ v n. cc }

  wait_line-done : (l : ℕ) → IsOpen c k → IsDone c t (wait_line c t l k)
  unfolding wait_line
  wait_line-done l f =
      either c t (nat_le (line_count k.profile) l) _ _ (λ e. same _)
      (λ line. line_unless-done (wait_refusal (is_stalled InBand c k) None k.ticks 0) l (λ e. wait_line-but c t l 0 k f (not-stalled c k (may-wait (is_stalled InBand c k) None k.ticks 0 e).0) g o))

  policy-done : (u : ℕ) (class : Class) (priority : ℕ) (outcome : Outcome) → IsDone c t (set_policy u class priority k, outcome)
  unfolding set_policy
  policy-done u class priority outcome = record {
    but = but-task c u _ k (λ task. refl) (λ task. refl) (λ task. refl) (λ task. refl) g;
    own = λ v n. task-own c u t _ k (λ task. refl) (λ task. refl) o;
  }

  attach_as-done : (x : Option Class) (priority : ℕ) → IsDone c t (attach_as x t priority k)
  attach_as-done None priority = same _
  attach_as-done (Some class) priority = either c t (is_attached t k) _ _ (λ e. same _) (λ e. policy-done t class priority _)

  attach-done : (class priority : ℕ) → IsDone c t (attach_task t class priority k)
  unfolding attach_task
  attach-done class priority = attach_as-done (policy_of class priority) priority

  clear-done : (outcome : Outcome) → IsDone c t (clear_policy t k, outcome)
  unfolding clear_policy
  clear-done outcome = record {
    but = but-task c t _ k (λ task. refl) (λ task. refl) (λ task. refl) (λ task. refl) g;
    own = λ v n. task-own c t t _ k (λ task. refl) (λ task. refl) o;
  }

  detach-done : IsDone c t (detach t k)
  unfolding detach
  detach-done = either c t (not (is_attached t k)) _ _ (λ e. same _) (λ e. either c t (owns_any t k.mutexes) _ _ (λ h. same _) (λ h. clear-done _))

  stall-done : (b : Bool) → HasInBand c k → IsDone c t (stall InBand b c k)
  unfolding stall
  stall-done true h = record { but = but-stalled c k h g; own = λ v n. o }
  stall-done false h = record { but = but-unstall c k g; own = λ v n. o }

  stall_oob-done : (b : Bool) → HasHeld c k → IsDone c t (stall OutOfBand b c k)
  unfolding stall
  stall_oob-done true h = record { but = but-stalled_oob c k h g; own = λ v n. o }
  stall_oob-done false h = record { but = but-unstall_oob c k g; own = λ v n. o }

  switch_oob-done : IsDone c t (switch_oob k)
  unfolding switch_oob
  switch_oob-done = same _

  switch_in_band-done : IsDone c t (switch_in_band c t k)
  unfolding switch_in_band
  switch_in_band-done = either c t (is_stalled OutOfBand c k) _ _ (λ e. same _) (λ e. record { but = demote-but c t k g o; own = λ v n. demote-own c t k o })

  schedule_as-done : (x : Option Class) (u priority : ℕ) → IsDone c t (schedule_as x u priority k)
  schedule_as-done None u priority = same _
  schedule_as-done (Some class) u priority = policy-done u class priority _

  set_sched-done : (u class priority : ℕ) → IsDone c t (set_sched u class priority k)
  unfolding set_sched
  set_sched-done u class priority = either c t (is_scheduled_task (slice_get k.tasks u)) _ _ (λ e. schedule_as-done (policy_of class priority) u priority) (λ e. same _)

  mode-done : (bits : ℕ) (outcome : Outcome) → IsDone c t (set_mode_bits t bits k, outcome)
  unfolding set_mode_bits
  mode-done bits outcome = record {
    but = but-task c t _ k (λ task. refl) (λ task. refl) (λ task. refl) (λ task. refl) g;
    own = λ v n. task-own c t t _ k (λ task. refl) (λ task. refl) o;
  }

  set_mode-done : (bits : ℕ) → IsDone c t (set_mode t bits k)
  unfolding set_mode
  set_mode-done bits = either c t (nat_lt MODE_LIMIT bits) _ _ (λ e. same _) (λ e. mode-done bits _)

  yield_oob-done : IsDone c t (yield_oob t k)
  unfolding yield_oob
  yield_oob-done = record { but = but-restamp c t k g; own = λ v n. restamp-own c t t k o }

  clock-done : IsDone c t (clock k)
  unfolding clock
  clock-done = same _

  state_bits-done : IsDone c t (state_bits c t k)
  unfolding state_bits
  state_bits-done = same _

-- ---- a call that moves its task
-- what a call leaves: its task is the processor's own where it is answered, or isn't one that goes in-band then
record IsAnswered (c t : ℕ) (done : Parts × Outcome) : Type 0 where
  but : GoodBut c done.0
  own : (value : ℕ) → done.1 ≡ Returns value → IsOwn c t done.0.tasks ⊎ ((is_weak_oob (slice_get done.0.tasks t) && not (owns_any t done.0.mutexes)) ≡ false)

answers : (c t : ℕ) (done : Parts × Outcome) → IsDone c t done → IsAnswered c t done
answers c t done d = record { but = d.but; own = λ v n. inl (d.own v n) }

answers-if : (c t : ℕ) (b : Bool) (x y : Parts × Outcome) → (b ≡ true → IsAnswered c t x) → (b ≡ false → IsAnswered c t y) → IsAnswered c t (if b then x else y)
answers-if c t true x y p q = p refl
answers-if c t false x y p q = q refl

moved-state : (weak owns : Bool) → ((is_oob_ready (ready_on OutOfBand (weak && not owns)) && weak) && not owns) ≡ false
moved-state true true = refl
moved-state true false = refl
moved-state false true = refl
moved-state false false = refl

moved-task : (stamp d : ℕ) (owns : Bool) (o : Option Task) → (is_weak_oob (option_map (λ (task : Task). record task { stamp = stamp }) (option_map (moved d owns) o)) && not owns) ≡ false
moved-task stamp d owns None = refl
moved-task stamp d owns (Some x) = moved-state (is_weak x.class) owns

-- a weak task that owns no mutex is in-band where it goes
moved-weak : (t d : ℕ) (k : Parts) → (is_weak_oob (slice_get (move_task t d k).tasks t) && not (owns_any t (move_task t d k).mutexes)) ≡ false
unfolding move_task restamp
moved-weak t d k =
    let owns : Bool = owns_any t k.mutexes in
    let stamped : Task → Task = λ task. record task { stamp = k.stamps } in
    let there : slice_get (change stamped (change (moved d owns) k.tasks t) t) t ≡ option_map stamped (option_map (moved d owns) (slice_get k.tasks t)) =
    change-here stamped (change (moved d owns) k.tasks t) t ∙ ap (option_map stamped) (change-here (moved d owns) k.tasks t) in
    ap (λ (o : Option Task). is_weak_oob o && not owns) there ∙ moved-task k.stamps d owns (slice_get k.tasks t)

module _ (c t : ℕ) (k : Parts) (g : GoodBut c k) (o : IsOwn c t k.tasks) where
  stays : (outcome : Outcome) → IsAnswered c t (k, outcome)
  stays outcome = answers c t _ (same c t k g o outcome)

  migrate-done : (d : ℕ) → IsOobOwn c t k.tasks → IsAnswered c t (migrate c t d k)
  unfolding migrate
  migrate-done d oob =
      answers-if c t (is_none (slice_get k.processors d)) _ _ (λ e. stays _) (λ there.
      answers-if c t (d == c) _ _ (λ e. stays _) (λ e.
      answers-if c t (is_stalled OutOfBand c k) _ _ (λ e. stays _) (λ opened. record {
        but = but-move c t d k (cpu-there d k there) (not-closed c k opened) oob g;
        own = λ v n. inr (moved-weak t d k);
      })))

-- what is known of the processor of a call, by the call's stage
record IsOn (stage : Option Stage) (c t : ℕ) (k : Parts) : Type 0 where
  in_band : stage ≡ Some InBand → HasInBand c k × IsOpen c k
  oob : stage ≡ Some OutOfBand → HasHeld c k × IsOobOwn c t k.tasks

module _ (c t : ℕ) (k : Parts) (g : GoodBut c k) (o : IsOwn c t k.tasks) where
  perform-done : (call : Call) (hart : Hart) → IsOn (call_stage call) c t k → IsAnswered c t (perform call hart c t k)
  perform-done Exit hart h = answers c t _ (exit-done c t k g o (h.in_band refl).1)
  perform-done Putc hart h = answers c t _ (putc-done c t k g o (argument 0 hart))
  perform-done Yield hart h = answers c t _ (yield-done c t k g o)
  perform-done Spawn hart h = answers c t _ (spawn-done c t k g o (argument 0 hart) (argument 1 hart) (argument 2 hart))
  perform-done Stall hart h = answers c t _ (stall-done c t k g o true (h.in_band refl).0)
  perform-done Unstall hart h = answers c t _ (stall-done c t k g o false (h.in_band refl).0)
  perform-done WaitLine hart h = answers c t _ (wait_line-done c t k g o (argument 0 hart) (h.in_band refl).1)
  perform-done Attach hart h = answers c t _ (attach-done c t k g o (argument 0 hart) (argument 1 hart))
  perform-done Detach hart h = answers c t _ (detach-done c t k g o)
  perform-done NewMutex hart h = answers c t _ (new_mutex-done c t k g o (argument 0 hart) (argument 1 hart))
  perform-done NewSemaphore hart h = answers c t _ (new_semaphore-done c t k g o (argument 0 hart))
  perform-done NewEvent hart h = answers c t _ (new_event-done c t k g o)
  perform-done NewFlags hart h = answers c t _ (new_flags-done c t k g o)
  perform-done NewTimer hart h = answers c t _ (new_timer-done c t k g o)
  perform-done SetLine hart h = answers c t _ (set_line-done c t k g o (argument 0 hart) (argument 1 hart) (argument 2 hart))
  perform-done SwitchOob hart h = answers c t _ (switch_oob-done c t k g o)
  perform-done SwitchInBand hart h = answers c t _ (switch_in_band-done c t k g o)
  perform-done SetSched hart h = answers c t _ (set_sched-done c t k g o (argument 0 hart) (argument 1 hart) (argument 2 hart))
  perform-done SetMode hart h = answers c t _ (set_mode-done c t k g o (argument 0 hart))
  perform-done Lock_call hart h = answers c t _ (lock-done c t k g o (argument 0 hart) (argument 1 hart) (h.oob refl).1)
  perform-done TryLock hart h = answers c t _ (try_lock-done c t k g o (argument 0 hart))
  perform-done Unlock hart h = answers c t _ (unlock-done c t k g o (argument 0 hart))
  perform-done SemGet hart h = answers c t _ (sem_get-done c t k g o (argument 0 hart) (argument 1 hart) (h.oob refl).1)
  perform-done SemTryGet hart h = answers c t _ (sem_try_get-done c t k g o (argument 0 hart))
  perform-done SemPut hart h = answers c t _ (sem_put-done c t k g o (argument 0 hart))
  perform-done EventWait hart h = answers c t _ (event_wait-done c t k g o (argument 0 hart) (argument 1 hart) (argument 2 hart) (h.oob refl).1)
  perform-done Signal hart h = answers c t _ (signal-done c t k g o (argument 0 hart))
  perform-done Broadcast hart h = answers c t _ (broadcast-done c t k g o (argument 0 hart))
  perform-done FlagsWait hart h = answers c t _ (flags_wait-done c t k g o (argument 0 hart) (argument 1 hart) (h.oob refl).1)
  perform-done FlagsPost hart h = answers c t _ (flags_post-done c t k g o (argument 0 hart) (argument 1 hart))
  perform-done SleepUntil hart h = answers c t _ (sleep_until-done c t k g o (argument 0 hart) (h.oob refl).1)
  perform-done TimerSet hart h = answers c t _ (timer_set-done c t k g o (argument 0 hart) (argument 1 hart) (argument 2 hart))
  perform-done TimerWait hart h = answers c t _ (timer_wait-done c t k g o (argument 0 hart) (h.oob refl).1)
  perform-done YieldOob hart h = answers c t _ (yield_oob-done c t k g o)
  perform-done StallOob hart h = answers c t _ (stall_oob-done c t k g o true (h.oob refl).0)
  perform-done UnstallOob hart h = answers c t _ (stall_oob-done c t k g o false (h.oob refl).0)
  perform-done Clock hart h = answers c t _ (clock-done c t k g o)
  perform-done StateBits hart h = answers c t _ (state_bits-done c t k g o)
  perform-done Migrate hart h = migrate-done c t k g o (argument 0 hart) (h.oob refl).1

-- ---- a call is answered
but-if : (c : ℕ) (b : Bool) (x y : Parts) → (b ≡ true → GoodBut c x) → (b ≡ false → GoodBut c y) → GoodBut c (if b then x else y)
but-if c true x y p q = p refl
but-if c false x y p q = q refl

return-but : (c t : ℕ) (k : Parts) → GoodBut c k → IsOwn c t k.tasks ⊎ ((is_weak_oob (slice_get k.tasks t) && not (owns_any t k.mutexes)) ≡ false) → GoodBut c (return_weak c t k)
unfolding return_weak
return-but c t k g o =
    but-if c (is_weak_oob (slice_get k.tasks t) && not (owns_any t k.mutexes)) _ k
    (λ e. elim o [
      | inl own ↦ demote-but c t k g own
      | inr not_weak ↦ let no : true ≡ false = sym e ∙ not_weak in cc
    ])
    (λ e. g)

answer-but : (outcome : Outcome) (c t : ℕ) (k : Parts) → GoodBut c k → ((value : ℕ) → outcome ≡ Returns value → IsOwn c t k.tasks ⊎ ((is_weak_oob (slice_get k.tasks t) && not (owns_any t k.mutexes)) ≡ false)) → GoodBut c (answered outcome c t k)
answer-but (Returns value) c t k g o = return-but c t (on_hart t (answer value) k) (but-hart c t (answer value) k (λ hart. next-aligned hart.pc) g) (o value refl)
answer-but Blocks c t k g o = but-hart c t advance k (λ hart. next-aligned hart.pc) g
answer-but Exits c t k g o = g

finish_call-but : (c t : ℕ) (done : Parts × Outcome) → IsAnswered c t done → GoodBut c (finish_call c t done)
finish_call-but c t done d = answer-but done.1 c t done.0 d.but d.own

-- ---- what the processor of an ECALL is
-- c runs task t
record Runs (c t : ℕ) (k : Parts) : Type 0 where
  good : Good k
  own : IsOwn c t k.tasks
  current : current c k ≡ Some t

-- the rules of a processor that is there
settled-there : (c t : ℕ) (k : Parts) → Runs c t k → (p : Processor) → slice_get k.processors c ≡ Some p → (pipe : Pipe) × (slice_get k.pipes c ≡ Some pipe) × IsSettled c pipe p k.mutexes k.tasks
settled-there c t k r p h =
    let pipe = slice_get-within k.pipes c (omega (arith, r.good.pipes_count, slice_get-below k.processors c p h)) in
    (pipe.0, pipe.1, r.good.settled c pipe.0 p pipe.1 h)

-- the current task, where it is in-band, is the in-band current one
has-in_band : (c t : ℕ) (k : Parts) → Runs c t k → is_oob (Some t) k.tasks ≡ false → HasInBand c k
has-in_band c t k r e = record {
  there = λ p h none.
      let now : p.current ≡ Some t = rw h at r.current in
      let s = settled-there c t k r p h in
      let same : p.current ≡ p.in_band_task = s.2.runs_in_band (rw now e) in
      let no : Some t ≡ None = sym now ∙ same ∙ none in cc;
}

-- and out-of-band isn't stalled
has-open : (c t : ℕ) (k : Parts) → Runs c t k → is_oob (Some t) k.tasks ≡ false → IsOpen c k
has-open c t k r e = record {
  open_there = λ pipe h.
      let p = slice_get-within k.processors c (omega (arith, r.good.pipes_count, slice_get-below k.pipes c pipe h)) in
      let now : p.0.current ≡ Some t = rw p.1 at r.current in
      let s : IsSettled c pipe p.0 k.mutexes k.tasks = r.good.settled c pipe p.0 h p.1 in
      is_open pipe.oob.stalled (is_oob p.0.current k.tasks) s.oob_staller (rw now e);
}

has-held : (c t : ℕ) (k : Parts) → Runs c t k → is_oob (Some t) k.tasks ≡ true → HasHeld c k
has-held c t k r e = record { held = λ p h. record { number = t; runs = rw h at r.current; own = oob_own c t k.tasks r.own e } }

-- ---- the ECALL
done-but : (call : Call) (hart : Hart) (c t : ℕ) (k : Parts) → Runs c t k → IsOn (call_stage call) c t k → GoodBut c (finish_call c t (perform call hart c t k))
done-but call hart c t k r h = finish_call-but c t (perform call hart c t k) (perform-done c t k (good_but c k r.good) r.own call hart h)

refused-but : (e : Errno) (c t : ℕ) (k : Parts) → Runs c t k → GoodBut c (finish_call c t (refused e k))
refused-but e c t k r = finish_call-but c t (refused e k) (stays c t k (good_but c k r.good) r.own _)

ask-but : (c t : ℕ) (k : Parts) → Runs c t k → is_oob (Some t) k.tasks ≡ false → GoodBut c (ask_oob c t k)
unfolding ask_oob
ask-but c t k r e =
    but-if c (may_promote c t k) _ _
    (λ m.
    let free : is_stalled InBand c k ≡ false = not_true (is_stalled InBand c k) (both (is_attached t k) (not (is_stalled InBand c k)) m).1 in
    promote-but c t k (has-open c t k r e) (not-stalled c k free) (good_but c k r.good) r.own)
    (λ m. refused-but NotPermitted c t k r)

on_in_band : (stage : Option Stage) (c t : ℕ) (k : Parts) → stage ≡ Some InBand → Runs c t k → is_oob (Some t) k.tasks ≡ false → IsOn stage c t k
on_in_band stage c t k s r e = record { in_band = λ h. (has-in_band c t k r e, has-open c t k r e); oob = λ h. let no : Some InBand ≡ Some OutOfBand = sym s ∙ h in cc }

on_oob : (stage : Option Stage) (c t : ℕ) (k : Parts) → stage ≡ Some OutOfBand → Runs c t k → is_oob (Some t) k.tasks ≡ true → IsOn stage c t k
on_oob stage c t k s r e = record { in_band = λ h. let no : Some OutOfBand ≡ Some InBand = sym s ∙ h in cc; oob = λ h. (has-held c t k r e, oob_own c t k.tasks r.own e) }

on_either : (stage : Option Stage) (c t : ℕ) (k : Parts) → stage ≡ None → IsOn stage c t k
on_either stage c t k s = record { in_band = λ h. let no : None ≡ Some InBand = sym s ∙ h in cc; oob = λ h. let no : None ≡ Some OutOfBand = sym s ∙ h in cc }

on-but : (stage : Option Stage) (call : Call) (hart : Hart) (c t : ℕ) (k : Parts) → call_stage call ≡ stage → Runs c t k → GoodBut c (call_on stage call hart c t k)
on-but None call hart c t k s r = done-but call hart c t k r (on_either (call_stage call) c t k s)
on-but (Some InBand) call hart c t k s r =
    but-if c (is_oob (Some t) k.tasks) _ _ (λ e. notify-but c t DemotedByCall _ (demote-but c t k (good_but c k r.good) r.own))
    (λ e. done-but call hart c t k r (on_in_band (call_stage call) c t k s r e))
on-but (Some OutOfBand) call hart c t k s r =
    but-if c (is_oob (Some t) k.tasks) _ _ (λ e. done-but call hart c t k r (on_oob (call_stage call) c t k s r e))
    (λ e. ask-but c t k r e)

known-but : (x : Option Call) (hart : Hart) (c t : ℕ) (k : Parts) → Runs c t k → GoodBut c (call_known x hart c t k)
known-but None hart c t k r = refused-but NoSuchCall c t k r
known-but (Some call) hart c t k r = on-but (call_stage call) call hart c t k refl r

hart-but : (x : Option Hart) (c t : ℕ) (k : Parts) → Runs c t k → GoodBut c (call_of_hart x c t k)
hart-but None c t k r = good_but c k r.good
hart-but (Some hart) c t k r = known-but (offered k.profile (call_of (register_of hart.regs A7))) hart c t k r

pub call-but : (c t : ℕ) (k : Parts) → Good k → IsOwn c t k.tasks → current c k ≡ Some t → GoodBut c (call c t k)
unfolding call
call-but c t k g o r = hart-but (slice_get k.harts t) c t k (record { good = g; own = o; current = r })

-- ---- a fault
pub fault-but : (c t : ℕ) (f : Fault) (k : Parts) → Good k → IsOwn c t k.tasks → current c k ≡ Some t → GoodBut c (fault c t f k)
fault-but c t f k g o r =
    let runs : Runs c t k = record { good = g; own = o; current = r } in
    but-if c (is_oob (Some t) k.tasks) _ _ (λ e. notify-but c t DemotedByFault _ (demote-but c t k (good_but c k g) o)) (λ e. end-but c t _ k refl refl (has-open c t k runs e) (good_but c k g) o)
