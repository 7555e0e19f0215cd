-- A task that waits after what it does has a fresh stamp, and no deadline where it waits for a line or a timer.
use Rattle.std.proofs.Common.{◌≡◌, ℕ, ◌≤◌, List, Bool, true, false, not, ◌&&◌, Option, Some, None, refl, ap, sym, ◌∙◌, arith}
use Rattle.std.specs.Prelude.{slice_get, is_none, nat_le, nat_lt, ◌==◌, if◌then◌else◌}
use Rattle.evm_exec.specs.Does.{does}
use Rattle.evm_exec.specs.Memory.{loaded_value, width_of_load}
use Rattle.evm_exec.specs.Registers.{register_of}
use Rattle.evm_exec.specs.declared.hart.Hart.{Hart}
use Rattle.evm_exec.specs.declared.outcome.Effect.{Effect}
use Rattle.evm_exec.specs.declared.outcome.Effect.TheVariants.{Next, Load, Store, Call as Ecall, Break, Misaligned}
use Rattle.evm_isa.specs.Decoded.{decoded}
use Rattle.evm_isa.specs.declared.inst.Inst.{Inst}
use Rattle.evm_isa.specs.declared.inst.LoadOp.{LoadOp}
use Rattle.evm_model.specs.Calls.{answered, ask_oob, call_known, call_of, call_on, call_stage, call, is_weak_oob, perform, return_weak}
use Rattle.evm_model.specs.Deadlines.{sleep_until}
use Rattle.evm_model.specs.Devices.{Accessed, raise_line}
use Rattle.evm_model.specs.Events.{begin_event_wait, event_wait_known, event_wait_unless, event_wait_with, event_wait, has_other, holding_refusal}
use Rattle.evm_model.specs.Flags.{flags_wait_known, flags_wait}
use Rattle.evm_model.specs.Good.{is_ready, is_waiting}
use Rattle.evm_model.specs.Harts.{A7, advance, answer, argument, set_pc, set_register}
use Rattle.evm_model.specs.InBandCalls.{exit, wait_line_unless, wait_line}
use Rattle.evm_model.specs.Instructions.{fault, stop, finish_load, finish_store, finish, execute_inst, execute_word, execute}
use Rattle.evm_model.specs.Locks.{cycle_refusal, lock_again, lock_known, lock_other, lock_owned, lock, take_mutex}
use Rattle.evm_model.specs.Memory.{fetch, read, write}
use Rattle.evm_model.specs.Mutexes.{owns_any}
use Rattle.evm_model.specs.Notices.{asks_for, is_refused, notify}
use Rattle.evm_model.specs.OobCalls.{migrate, move_task, moved, switch_in_band}
use Rattle.evm_model.specs.Passing.{end_task, hand_over, hand_over_to}
use Rattle.evm_model.specs.Profiles.{line_count, offered}
use Rattle.evm_model.specs.Semaphores.{sem_get_known, sem_get}
use Rattle.evm_model.specs.Settle.{is_oob}
use Rattle.evm_model.specs.Stages.{is_stalled, may_promote, refused, wait_refusal, wait_unless}
use Rattle.evm_model.specs.State.{Board, Parts, on_event, on_hart}
use Rattle.evm_model.specs.Tasks.{demote, leave_in_band, promote, restamp, set_state, is_weak}
use Rattle.evm_model.specs.Timers.{timer_wait_known, timer_wait}
use Rattle.evm_model.specs.Waits.{begin_wait, first_waiter, ready_on, wake}
use Rattle.evm_model.specs.declared.call.Call.{Call}
use Rattle.evm_model.specs.declared.call.Call.TheVariants.{Exit as Ends, WaitLine, SwitchInBand, Lock, SemGet, EventWait, FlagsWait, SleepUntil, TimerWait, Migrate}
use Rattle.evm_model.specs.declared.call.Outcome.{Outcome}
use Rattle.evm_model.specs.declared.call.Outcome.TheVariants.{Returns, Blocks, Exits}
use Rattle.evm_model.specs.declared.errno.Errno.{Errno}
use Rattle.evm_model.specs.declared.errno.Errno.TheVariants.{Deadlock, NoSuchCall, NotPermitted}
use Rattle.evm_model.specs.declared.fault.Fault.{Fault}
use Rattle.evm_model.specs.declared.limits.TheConstants.{MIGRATION_PROFILE}
use Rattle.evm_model.specs.declared.mutex.Mutex.{Mutex}
use Rattle.evm_model.specs.declared.notice.NoticeKind.{NoticeKind}
use Rattle.evm_model.specs.declared.notice.NoticeKind.TheVariants.{DemotedByCall, DemotedByFault, Deadlock as Unending}
use Rattle.evm_model.specs.declared.stage.Stage.{Stage}
use Rattle.evm_model.specs.declared.stage.Stage.TheVariants.{InBand, OutOfBand}
use Rattle.evm_model.specs.declared.task.Task.{Task}
use Rattle.evm_model.specs.declared.task.TaskState.{TaskState}
use Rattle.evm_model.specs.declared.task.TaskState.TheVariants.{InReady, OobReady, Exit, Faulted, Waits}
use Rattle.evm_model.specs.declared.task.Wait.{Wait}
use Rattle.evm_model.specs.declared.task.Wait.TheVariants.{Line, Lock as For_lock, Semaphore, Event, Flags, Sleep, Timer}
use Rattle.evm_model.specs.declared.timer.Timer.{Timer as TimerOf}
use Rattle.law_runs.specs.Own.{may_change}
use Rattle.law_runs.proofs.Own.{callers_leave}
use Rattle.law_runs.proofs.Silent.{call_is}
use Rattle.claims_machine.proofs.Lasting.{changed, changed_twice}

-- a wait for a line or a timer
abbrev pub endless : TaskState → Bool
endless (Waits (Line l)) = true
endless (Waits (Timer n)) = true
endless _ = false

-- a task that waits has a stamp from the least on, and no deadline where it waits for a line or a timer
abbrev pub IsBegun : ℕ → Task → Type 0
IsBegun least task = is_waiting task.state ≡ true → (least ≤ task.stamp) × (endless task.state ≡ true → task.deadline ≡ 0)

pub ready_begun : (least : ℕ) (task : Task) → is_waiting task.state ≡ false → IsBegun least task
ready_begun least task e w = let no : true ≡ false = sym w ∙ e in cc

not_waiting : (state : TaskState) → is_ready state ≡ true → is_waiting state ≡ false
not_waiting InReady e = refl
not_waiting OobReady e = refl
not_waiting _ e = cc

module _ (least t : ℕ) where
  abbrev pub Begun : Parts → Type 0
  Begun x = (after : Task) → slice_get x.tasks t ≡ Some after → IsBegun least after

  as_before : (k x : Parts) → x.tasks ≡ k.tasks → Begun k → Begun x
  as_before k x same b after there = b after (ap (λ (tasks : List Task). slice_get tasks t) (sym same) ∙ there)

  either : (b : Bool) (x y : Parts) → Begun x → Begun y → Begun (if b then x else y)
  either true x y p q = p
  either false x y p q = q

  either_of : (b : Bool) (x y : Parts × Outcome) → Begun x.0 → Begun y.0 → Begun (if b then x else y).0
  either_of true x y p q = p
  either_of false x y p q = q

  -- ---- what makes it ready, or ends it
  sets : (state : TaskState) (x : Parts) → is_waiting state ≡ false → Begun (set_state t state x)
  unfolding set_state
  sets state x e after there = let was = changed (λ (y : Task). record y { state = state }) x.tasks t after there in ready_begun least after (ap (λ (y : Task). is_waiting y.state) was.2 ∙ e)

  turns : (state : TaskState) (x : Parts) → is_waiting state ≡ false → Begun (restamp t (set_state t state x))
  unfolding restamp set_state
  turns state x e after there =
      let was = changed_twice (λ (y : Task). record y { state = state }) (λ (y : Task). record y { stamp = x.stamps }) x.tasks t after there in ready_begun least after (ap (λ (y : Task). is_waiting y.state) was.2 ∙ e)

  demotes : (c : ℕ) (x : Parts) → Begun (demote c t x)
  unfolding demote
  demotes c x = turns InReady _ refl

  promotes : (c : ℕ) (x : Parts) → Begun (promote c t x)
  unfolding promote leave_in_band
  promotes c x = turns OobReady x refl

  on_stage : (returns : Bool) → is_waiting (ready_on OutOfBand returns) ≡ false
  on_stage true = refl
  on_stage false = refl

  moves : (d : ℕ) (x : Parts) → Begun (move_task t d x)
  unfolding move_task restamp
  moves d x after there =
      let was = changed_twice (moved d (owns_any t x.mutexes)) (λ (y : Task). record y { stamp = x.stamps }) x.tasks t after there in
      ready_begun least after (ap (λ (y : Task). is_waiting y.state) was.2 ∙ on_stage (is_weak was.0.class && not (owns_any t x.mutexes)))

  ends : (c : ℕ) (state : TaskState) (x : Parts) → is_waiting state ≡ false → Begun (end_task c t state x)
  unfolding end_task
  ends c state x e = sets state _ e

  noted : (kind : NoticeKind) (x : Parts) → Begun x → Begun (notify kind t x)
  unfolding notify
  noted kind x b = either (asks_for kind (slice_get x.tasks t)) _ x b b

  -- ---- it waits
  waits : (wait : Wait) (deadline : ℕ) (x : Parts) → least ≤ x.stamps → (endless (Waits wait) ≡ true → deadline ≡ 0) → Begun (begin_wait t wait deadline x)
  unfolding begin_wait restamp
  waits wait deadline x low none after there =
      let was = changed_twice (λ (y : Task). record y { state = Waits wait; deadline = deadline }) (λ (y : Task). record y { stamp = x.stamps }) x.tasks t after there in rw was.2 (λ w. (low, none))

  -- ---- a call is finished
  returns : (c : ℕ) (x : Parts) → Begun x → Begun (return_weak c t x)
  unfolding return_weak
  returns c x b = either (is_weak_oob (slice_get x.tasks t) && not (owns_any t x.mutexes)) _ x (demotes c x) b

  finishes : (o : Outcome) (c : ℕ) (x : Parts) → Begun x → Begun (answered o c t x)
  finishes (Returns value) c x b = returns c (on_hart t (answer value) x) b
  finishes Blocks c x b = b
  finishes Exits c x b = b

  -- ---- the calls that change the state of their task
  module _ (c : ℕ) (k : Parts) (low : least ≤ k.stamps) (rests : Begun k) where
    unless : (o : Option Errno) (wait : Wait) (deadline : ℕ) → (endless (Waits wait) ≡ true → deadline ≡ 0) → Begun (wait_unless o t wait deadline k).0
    unless (Some e) wait deadline none = rests
    unless None wait deadline none = waits wait deadline k low none

    line_unless : (o : Option Errno) (l : ℕ) → Begun (wait_line_unless o c t l k).0
    unfolding leave_in_band
    line_unless (Some e) l = rests
    line_unless None l = waits (Line l) 0 k low (λ e. refl)

    lines : (l : ℕ) → Begun (wait_line c t l k).0
    unfolding wait_line
    lines l = either_of (nat_le (line_count k.profile) l) _ _ rests (line_unless (wait_refusal (is_stalled InBand c k) None k.ticks 0) l)

    in_band : Begun (switch_in_band c t k).0
    unfolding switch_in_band
    in_band = either_of (is_stalled OutOfBand c k) _ _ rests (demotes c k)

    again : (m : ℕ) (mutex : Mutex) → Begun (lock_again t m mutex k).0
    unfolding lock_again
    again m mutex = either_of mutex.recursive _ _ rests rests

    other : (m u deadline : ℕ) → Begun (lock_other c t m u deadline k).0
    unfolding lock_other
    other m u deadline = unless (wait_refusal (is_stalled OutOfBand c k) (cycle_refusal t u k) k.ticks deadline) (For_lock m) deadline (λ e. cc)

    owned : (o : Option ℕ) (m deadline : ℕ) (mutex : Mutex) → Begun (lock_owned o c t m deadline mutex k).0
    unfolding take_mutex
    owned None m deadline mutex = rests
    owned (Some u) m deadline mutex = either_of (u == t) _ _ (again m mutex) (other m u deadline)

    known : (o : Option Mutex) (m deadline : ℕ) → Begun (lock_known o c t m deadline k).0
    known None m deadline = rests
    known (Some mutex) m deadline = owned mutex.owner m deadline mutex

    refused_noted : (b : Bool) (kind : NoticeKind) (done : Parts × Outcome) → Begun done.0 → Begun (if b then (notify kind t done.0, done.1) else done).0
    refused_noted true kind done b = noted kind done.0 b
    refused_noted false kind done b = b

    locks : (m deadline : ℕ) → Begun (lock c t m deadline k).0
    unfolding lock
    locks m deadline = let done : Parts × Outcome = lock_known (slice_get k.mutexes m) c t m deadline k in refused_noted (is_refused Deadlock done.1) Unending done (known (slice_get k.mutexes m) m deadline)

    gets_known : (o : Option ℕ) (s deadline : ℕ) → Begun (sem_get_known o c t s deadline k).0
    gets_known None s deadline = rests
    gets_known (Some count) s deadline = either_of (count == 0) _ _ (unless (wait_refusal (is_stalled OutOfBand c k) None k.ticks deadline) (Semaphore s) deadline (λ e. cc)) rests

    gets : (s deadline : ℕ) → Begun (sem_get c t s deadline k).0
    unfolding sem_get
    gets s deadline = gets_known (slice_get k.semaphores s) s deadline

    takes_known : (o : Option ℕ) (f deadline : ℕ) → Begun (flags_wait_known o c t f deadline k).0
    takes_known None f deadline = rests
    takes_known (Some word) f deadline = either_of (word == 0) _ _ (unless (wait_refusal (is_stalled OutOfBand c k) None k.ticks deadline) (Flags f) deadline (λ e. cc)) rests

    takes : (f deadline : ℕ) → Begun (flags_wait c t f deadline k).0
    unfolding flags_wait
    takes f deadline = takes_known (slice_get k.flags f) f deadline

    sleeps : (until : ℕ) → Begun (sleep_until c t until k).0
    unfolding sleep_until
    sleeps until = either_of (nat_le until k.ticks) _ _ rests (unless (wait_refusal (is_stalled OutOfBand c k) None k.ticks until) Sleep until (λ e. cc))

    timer_known : (o : Option TimerOf) (n : ℕ) → Begun (timer_wait_known o c t n k).0
    timer_known None n = rests
    timer_known (Some timer) n =
        either_of (nat_lt 0 timer.expiries) _ _ rests (either_of (timer.due == 0) _ _ rests (unless (wait_refusal (is_stalled OutOfBand c k) None k.ticks 0) (Timer n) 0 (λ e. refl)))

    timers : (n : ℕ) → Begun (timer_wait c t n k).0
    unfolding timer_wait
    timers n = timer_known (slice_get k.timers n) n

    -- a mutex that passes on takes no stamp back
    passes_to : (o : Option ℕ) (m : ℕ) (x : Parts) → least ≤ x.stamps → least ≤ (hand_over_to o m x).stamps
    unfolding wake restamp
    passes_to None m x few = few
    passes_to (Some u) m x few = omega (arith, few)

    event_begins : (e m deadline : ℕ) → Begun (begin_event_wait t e m deadline k)
    unfolding begin_event_wait hand_over
    event_begins e m deadline =
        let named : Parts = on_event e (λ _. Some m) k in
        waits (Event e) deadline (hand_over_to (first_waiter (For_lock m) named) m named) (passes_to (first_waiter (For_lock m) named) m named low) (λ no. cc)

    event_unless : (o : Option Errno) (e m deadline : ℕ) → Begun (event_wait_unless o t e m deadline k).0
    event_unless (Some error) e m deadline = rests
    event_unless None e m deadline = event_begins e m deadline

    event_with : (o : Option Mutex) (e m deadline : ℕ) → Begun (event_wait_with o c t e m deadline k).0
    event_with None e m deadline = rests
    event_with (Some mutex) e m deadline = either_of (has_other e m k) _ _ rests (event_unless (wait_refusal (is_stalled OutOfBand c k) (holding_refusal t m mutex k) k.ticks deadline) e m deadline)

    event_known : (o : Option (Option ℕ)) (e m deadline : ℕ) → Begun (event_wait_known o c t e m deadline k).0
    event_known None e m deadline = rests
    event_known (Some mutex) e m deadline = event_with (slice_get k.mutexes m) e m deadline

    events : (e m deadline : ℕ) → Begun (event_wait c t e m deadline k).0
    unfolding event_wait
    events e m deadline = event_known (slice_get k.events e) e m deadline

    migrates : (d : ℕ) → Begun (migrate c t d k).0
    unfolding migrate
    migrates d = either_of (is_none (slice_get k.processors d)) _ _ rests (either_of (d == c) _ _ rests (either_of (is_stalled OutOfBand c k) _ _ rests (moves d k)))

    exits : Begun (exit c t k).0
    unfolding exit
    exits = ends c Exit k refl

    -- ---- an ECALL
    asks : Begun (ask_oob c t k)
    unfolding ask_oob
    asks = either (may_promote c t k) _ _ (promotes c k) (finishes (refused NotPermitted k).1 c k rests)

    on : (o : Option Stage) (made : Call) (x : Hart) → Begun (perform made x c t k).0 → Begun (call_on o made x c t k)
    on None made x b = finishes (perform made x c t k).1 c (perform made x c t k).0 b
    on (Some InBand) made x b = either (is_oob (Some t) k.tasks) _ _ (noted DemotedByCall (demote c t k) (demotes c k)) (finishes (perform made x c t k).1 c (perform made x c t k).0 b)
    on (Some OutOfBand) made x b = either (is_oob (Some t) k.tasks) _ _ (finishes (perform made x c t k).1 c (perform made x c t k).0 b) asks

    faults : (f : Fault) → Begun (fault c t f k)
    faults f = either (is_oob (Some t) k.tasks) _ _ (noted DemotedByFault (demote c t k) (demotes c k)) (ends c (Faulted f) k refl)

-- ---- of a task that is ready
module _ (c t : ℕ) (k : Parts) (task : Task) (there : slice_get k.tasks t ≡ Some task) (ready : is_ready task.state ≡ true) where
  pub rests : Begun k.stamps t k
  rests after at = let same : task ≡ after = cc in ready_begun k.stamps after (not_waiting after.state (ap (λ (y : Task). is_ready y.state) (sym same) ∙ ready))

  module _ (x : Hart) (has : slice_get k.harts t ≡ Some x) where
    low : k.stamps ≤ k.stamps
    low = omega arith

    -- a call that leaves the state, or the stage
    quiet : (may_change (call_of (register_of x.regs A7))).state ≡ false → Begun k.stamps t (call c t k)
    quiet none after at =
        let left = callers_leave c t k task x there ready has in
        let its = left.there in
        let same : left.after ≡ after = cc in
        ready_begun k.stamps after (not_waiting after.state (ap (λ (y : Task). is_ready y.state) (sym same) ∙ left.leaves.state none))

    acts : (made : Call) → offered k.profile (call_of (register_of x.regs A7)) ≡ Some made → Begun k.stamps t (perform made x c t k).0 → Begun k.stamps t (call c t k)
    acts made found b = rw (call_is c t (register_of x.regs A7) made x k has refl found) (on k.stamps t c k low rests (call_stage made) made x b)

    lacks : (b : Bool) → Begun k.stamps t (call_known (if b then None else Some Migrate) x c t k)
    lacks true = finishes k.stamps t (refused NoSuchCall k).1 c k rests
    lacks false = on k.stamps t c k low rests (call_stage Migrate) Migrate x (migrates k.stamps t c k low rests (argument 0 x))

    called : (o : Option Call) → call_of (register_of x.regs A7) ≡ o → Begun k.stamps t (call c t k)
    unfolding call
    called (Some Ends) e = acts Ends (ap (offered k.profile) e) (exits k.stamps t c k low rests)
    called (Some WaitLine) e = acts WaitLine (ap (offered k.profile) e) (lines k.stamps t c k low rests (argument 0 x))
    called (Some SwitchInBand) e = acts SwitchInBand (ap (offered k.profile) e) (in_band k.stamps t c k low rests)
    called (Some Lock) e = acts Lock (ap (offered k.profile) e) (locks k.stamps t c k low rests (argument 0 x) (argument 1 x))
    called (Some SemGet) e = acts SemGet (ap (offered k.profile) e) (gets k.stamps t c k low rests (argument 0 x) (argument 1 x))
    called (Some EventWait) e = acts EventWait (ap (offered k.profile) e) (events k.stamps t c k low rests (argument 0 x) (argument 1 x) (argument 2 x))
    called (Some FlagsWait) e = acts FlagsWait (ap (offered k.profile) e) (takes k.stamps t c k low rests (argument 0 x) (argument 1 x))
    called (Some SleepUntil) e = acts SleepUntil (ap (offered k.profile) e) (sleeps k.stamps t c k low rests (argument 0 x))
    called (Some TimerWait) e = acts TimerWait (ap (offered k.profile) e) (timers k.stamps t c k low rests (argument 0 x))
    called (Some Migrate) e = rw (has, e) (lacks (nat_lt k.profile.version MIGRATION_PROFILE))
    called (Some made) e = quiet (ap (λ (o : Option Call). (may_change o).state) e)
    called None e = quiet (ap (λ (o : Option Call). (may_change o).state) e)

-- ---- an instruction
module _ (c t : ℕ) (b : Board) (task : Task) (there : slice_get b.parts.tasks t ≡ Some task) (ready : is_ready task.state ≡ true) (x : Hart) (has : slice_get b.parts.harts t ≡ Some x) where
  faulted : (f : Fault) → Begun b.parts.stamps t (fault c t f b.parts)
  faulted f = faults b.parts.stamps t c b.parts (omega arith) (rests c t b.parts task there ready) f

  line_stays : (o : Option ℕ) (k : Parts) → (raise_line o k).tasks ≡ k.tasks
  line_stays None k = refl
  line_stays (Some l) k = refl

  stays : (k : Parts) → k.tasks ≡ b.parts.tasks → Begun b.parts.stamps t k
  stays k same = as_before b.parts.stamps t b.parts k same (rests c t b.parts task there ready)

  loads : (o : Option Accessed) (op : LoadOp) (rd : ℕ) → Begun b.parts.stamps t (finish_load o op rd c t b).parts
  loads None op rd = faulted _
  loads (Some access) op rd = let went : Parts = on_hart t (λ hart. advance (set_register rd (loaded_value op access.number) hart)) b.parts in stays (raise_line access.line went) (line_stays access.line went)

  stores : (o : Option Accessed) → Begun b.parts.stamps t (finish_store o c t b).parts
  stores None = faulted _
  stores (Some access) = let went : Parts = on_hart t advance b.parts in stays (raise_line access.line went) (line_stays access.line went)

  effects : (effect : Effect) → Begun b.parts.stamps t (finish effect c t b).parts
  unfolding finish stop
  effects (Next rd value pc) = stays (on_hart t (λ hart. set_pc pc (set_register rd value hart)) b.parts) refl
  effects (Load op rd address) = loads (read address (width_of_load op) b.memory) op rd
  effects (Store width address value) = stores (write address width value b.memory)
  effects Ecall = called c t b.parts task there ready x has (call_of (register_of x.regs A7)) refl
  effects Break = stays (stop c (on_hart t advance b.parts)) refl
  effects Misaligned = faulted _

  insts : (o : Option Inst) → Begun b.parts.stamps t (execute_inst o x c t b).parts
  insts None = faulted _
  insts (Some inst) = effects (does inst x.regs x.pc)

  words : (o : Option ℕ) → Begun b.parts.stamps t (execute_word o x c t b).parts
  words None = faulted _
  words (Some word) = insts (decoded word)

  pub executed_begun : Begun b.parts.stamps t (execute x c t b).parts
  unfolding execute
  executed_begun = words (fetch x.pc b.memory)
