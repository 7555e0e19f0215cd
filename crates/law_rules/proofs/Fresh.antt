-- An instruction that makes a notice leaves nothing for the watchdog to see in the same step: its task is gone from out-of-band,
-- or no line waits to be played.
use Rattle.std.proofs.Common.{◌≡◌, ℕ, List, [], Bool, true, false, Option, Some, None, ◌⊎◌, inl, inr, refl, ap, sym, ◌∙◌}
use Rattle.std.specs.Prelude.{slice_get, option_map, nat_le, not, ◌==◌, ◌&&◌, if◌then◌else◌}
use Rattle.evm_isa.specs.Decoded.{decoded}
use Rattle.evm_isa.specs.declared.inst.Inst.{Inst}
use Rattle.evm_isa.specs.declared.inst.LoadOp.{LoadOp}
use Rattle.evm_exec.specs.Does.{does}
use Rattle.evm_exec.specs.Memory.{width_of_load}
use Rattle.evm_exec.specs.Registers.{register_of}
use Rattle.evm_exec.specs.declared.hart.Hart.{Hart}
use Rattle.evm_exec.specs.declared.outcome.Effect.{Effect}
use Rattle.evm_exec.specs.declared.outcome.Effect.TheVariants.{Next, Load, Store, Call as Calls, Break, Misaligned}
use Rattle.evm_model.specs.Boosts.{is_number}
use Rattle.evm_model.specs.Calls.{call_number, call_of, call_stage, perform, is_weak_oob, return_weak, answered, finish_call, ask_oob, call_on, call_known, call_of_hart, call}
use Rattle.evm_model.specs.Devices.{Accessed, raise_line}
use Rattle.evm_model.specs.Harts.{A7, argument, answer}
use Rattle.evm_model.specs.Instructions.{fault, stop, finish, finish_load, finish_store, execute, execute_inst, execute_word}
use Rattle.evm_model.specs.Locks.{cycle_refusal, take_mutex, lock_again, lock_other, lock_owned, lock_known, lock, try_owned, try_known, try_lock, unlock_once, unlock_known, unlock}
use Rattle.evm_model.specs.Memory.{fetch, read, write}
use Rattle.evm_model.specs.Mutexes.{owns_any}
use Rattle.evm_model.specs.Notices.{asks_for, notify, is_refused, notify_refused}
use Rattle.evm_model.specs.Passing.{hand_over_to, hand_over, end_task}
use Rattle.evm_model.specs.Pipes.{Pipe}
use Rattle.evm_model.specs.Profiles.{offered}
use Rattle.evm_model.specs.Settle.{is_oob}
use Rattle.evm_model.specs.Stages.{refused, is_stalled, may_promote, wait_refusal, wait_unless}
use Rattle.evm_model.specs.State.{Board, Parts, on_hart}
use Rattle.evm_model.specs.Tasks.{restamp, set_state, leave_in_band, demote, promote}
use Rattle.evm_model.specs.Waits.{first_waiter, begin_wait, wake}
use Rattle.evm_model.specs.declared.call.Call.{Call}
use Rattle.evm_model.specs.declared.call.Call.TheVariants.{Exit as Ends, Lock as Locks, TryLock as Tries, Unlock as Unlocks}
use Rattle.evm_model.specs.declared.call.Outcome.{Outcome}
use Rattle.evm_model.specs.declared.call.Outcome.TheVariants.{Returns, Blocks, Exits}
use Rattle.evm_model.specs.declared.errno.Errno.{Errno}
use Rattle.evm_model.specs.declared.errno.Errno.TheVariants.{NotPermitted, NoSuchCall, Deadlock as Errno_deadlock}
use Rattle.evm_model.specs.declared.fault.Fault.{Fault}
use Rattle.evm_model.specs.declared.mutex.Mutex.{Mutex}
use Rattle.evm_model.specs.declared.notice.NoticeKind.{NoticeKind}
use Rattle.evm_model.specs.declared.notice.NoticeKind.TheVariants.{DemotedByCall, DemotedByFault, Deadlock, NotOwner}
use Rattle.evm_model.specs.declared.stage.Stage.{Stage}
use Rattle.evm_model.specs.declared.stage.Stage.TheVariants.{OutOfBand, InBand}
use Rattle.evm_model.specs.declared.task.Task.{Task}
use Rattle.evm_model.specs.declared.task.TaskState.{TaskState}
use Rattle.evm_model.specs.declared.task.TaskState.TheVariants.{InReady, Exit, Faulted}
use Rattle.evm_model.specs.declared.task.Wait.{Wait}
use Rattle.evm_model.specs.declared.task.Wait.TheVariants.{Lock as Awaits}
use Rattle.evm_model.specs.State.{Notices}
use Rattle.evm_model.proofs.Lists.{change-here}
use Rattle.law_rules.proofs.Calls.{offered-is, has_number, Caller, performs}
use Rattle.law_rules.proofs.NoticeWalks.{NotesOne, none, one, alarm, walk_notes}
use Rattle.law_rules.proofs.PlayingWalks.{is_gone_state, is_gone, IsFresh, unnoted, gone, unplayed}
use Rattle.law_rules.proofs.Unchanged.{lock_rests, try_rests, unlock_rests}
use Rattle.law_rules.proofs.Walk.{Actor, ArePipes, IsCalm, Makes, Noted, by_in_band, by_fault, by_deadlock, by_unlock, unchanged, start}

-- ---- a task that was demoted or has ended
set-gone : (state : TaskState) (o : Option Task) → is_gone_state state ≡ true → is_gone (option_map (λ (x : Task). record x { state = state }) o) ≡ true
set-gone state None e = refl
set-gone state (Some x) e = e

stamp-gone : (stamp : ℕ) (o : Option Task) → is_gone (option_map (λ (x : Task). record x { stamp = stamp }) o) ≡ is_gone o
stamp-gone stamp None = refl
stamp-gone stamp (Some x) = refl

demoted-gone : (c t : ℕ) (k : Parts) → is_gone (slice_get (demote c t k).tasks t) ≡ true
unfolding demote restamp set_state
demoted-gone c t k =
    ap is_gone (change-here (λ (x : Task). record x { stamp = k.stamps }) _ t) ∙ stamp-gone k.stamps _
    ∙ ap is_gone (change-here (λ (x : Task). record x { state = InReady }) k.tasks t) ∙ set-gone InReady (slice_get k.tasks t) refl

noted-tasks : (b : Bool) (x y : Parts) → x.tasks ≡ y.tasks → (if b then x else y).tasks ≡ y.tasks
noted-tasks true x y e = e
noted-tasks false x y e = refl

notify-tasks : (kind : NoticeKind) (t : ℕ) (k : Parts) → (notify kind t k).tasks ≡ k.tasks
unfolding notify
notify-tasks kind t k = noted-tasks (asks_for kind (slice_get k.tasks t)) _ k refl

noted-pipes : (b : Bool) (x y : Parts) → x.pipes ≡ y.pipes → (if b then x else y).pipes ≡ y.pipes
noted-pipes true x y e = e
noted-pipes false x y e = refl

notify-pipes : (kind : NoticeKind) (t : ℕ) (k : Parts) → (notify kind t k).pipes ≡ k.pipes
unfolding notify
notify-pipes kind t k = noted-pipes (asks_for kind (slice_get k.tasks t)) _ k refl

ended-gone : (c t : ℕ) (state : TaskState) (k : Parts) → is_gone_state state ≡ true → is_gone (slice_get (end_task c t state k).tasks t) ≡ true
unfolding end_task set_state
ended-gone c t state k e = ap is_gone (change-here (λ (x : Task). record x { state = state }) _ t) ∙ set-gone state _ e

-- ---- the parts that an instruction leaves, by what was before it
module _ (c t : ℕ) (k : Parts) where
  fresh-gone : (new : Parts) → is_gone (slice_get new.tasks t) ≡ true → IsFresh c (Some t) k new
  fresh-gone new e = gone (λ u is. let same : t ≡ u = cc in ap (λ n. is_gone (slice_get new.tasks n)) (sym same) ∙ e)

  fresh_if : (b : Bool) (x y : Parts) → (b ≡ true → IsFresh c (Some t) k x) → (b ≡ false → IsFresh c (Some t) k y) → IsFresh c (Some t) k (if b then x else y)
  fresh_if true x y p q = p refl
  fresh_if false x y p q = q refl

  fresh-demoted : (kind : NoticeKind) (x : Parts) → IsFresh c (Some t) k (notify kind t (demote c t x))
  fresh-demoted kind x = fresh-gone _ (ap (λ (tasks : List Task). is_gone (slice_get tasks t)) (notify-tasks kind t (demote c t x)) ∙ demoted-gone c t x)

-- ---- each call is that of its number
numbered-own : (call : Call) → call_of (call_number call) ≡ Some call
numbered-own Ends = refl
numbered-own _ = refl

-- ---- an ECALL
module _ (c t : ℕ) (k : Parts) (calm : IsCalm c k) where
  -- no notice, or the same pipes
  abbrev Stays : Parts → Type 0
  Stays x = (x.notices ≡ k.notices) ⊎ (x.pipes ≡ k.pipes)

  stays-fresh : (x : Parts) → Stays x → IsFresh c (Some t) k x
  stays-fresh x (inl e) = unnoted e
  stays-fresh x (inr e) = unplayed (λ p there free. calm.played p (ap (λ (pipes : List Pipe). slice_get pipes c) (sym e) ∙ there) free)

  returns-fresh : (x : Parts) → Stays x → IsFresh c (Some t) k (return_weak c t x)
  unfolding return_weak
  returns-fresh x s = fresh_if c t k (is_weak_oob (slice_get x.tasks t) && not (owns_any t x.mutexes)) (demote c t x) x (λ e. fresh-gone c t k _ (demoted-gone c t x)) (λ e. stays-fresh x s)

  answers-fresh : (outcome : Outcome) (x : Parts) → Stays x → IsFresh c (Some t) k (answered outcome c t x)
  answers-fresh (Returns value) x s = returns-fresh (on_hart t (answer value) x) s
  answers-fresh Blocks x s = stays-fresh _ s
  answers-fresh Exits x s = stays-fresh x s

  -- ---- the calls that leave a notice and their task out-of-band
  pair-notices : (b : Bool) (x y : Parts × Outcome) → x.0.notices ≡ k.notices → y.0.notices ≡ k.notices → (if b then x else y).0.notices ≡ k.notices
  pair-notices true x y p q = p
  pair-notices false x y p q = q

  wait-notices : (o : Option Errno) (wait : Wait) (deadline : ℕ) → (wait_unless o t wait deadline k).0.notices ≡ k.notices
  unfolding begin_wait restamp
  wait-notices (Some e) wait deadline = refl
  wait-notices None wait deadline = refl

  again-notices : (m : ℕ) (mutex : Mutex) → (lock_again t m mutex k).0.notices ≡ k.notices
  unfolding lock_again
  again-notices m mutex = pair-notices mutex.recursive _ _ refl refl

  owned-notices : (o : Option ℕ) (m deadline : ℕ) (mutex : Mutex) → (lock_owned o c t m deadline mutex k).0.notices ≡ k.notices
  unfolding take_mutex lock_other
  owned-notices None m deadline mutex = refl
  owned-notices (Some u) m deadline mutex =
      pair-notices (u == t) _ _ (again-notices m mutex) (wait-notices (wait_refusal (is_stalled OutOfBand c k) (cycle_refusal t u k) k.ticks deadline) (Awaits m) deadline)

  lock-notices : (o : Option Mutex) (m deadline : ℕ) → (lock_known o c t m deadline k).0.notices ≡ k.notices
  lock-notices None m deadline = refl
  lock-notices (Some mutex) m deadline = owned-notices mutex.owner m deadline mutex

  tried-notices : (o : Option ℕ) (m : ℕ) (mutex : Mutex) → (try_owned o t m mutex k).0.notices ≡ k.notices
  unfolding take_mutex
  tried-notices None m mutex = refl
  tried-notices (Some u) m mutex = pair-notices (u == t) _ _ (again-notices m mutex) refl

  try-notices : (o : Option Mutex) (m : ℕ) → (try_known o t m k).0.notices ≡ k.notices
  try-notices None m = refl
  try-notices (Some mutex) m = tried-notices mutex.owner m mutex

  handed-notices : (o : Option ℕ) (m : ℕ) → (hand_over_to o m k).notices ≡ k.notices
  unfolding wake restamp
  handed-notices None m = refl
  handed-notices (Some u) m = refl

  one-notices : (b : Bool) (x y : Parts) → x.notices ≡ k.notices → y.notices ≡ k.notices → (if b then x else y).notices ≡ k.notices
  one-notices true x y p q = p
  one-notices false x y p q = q

  once-notices : (m : ℕ) (mutex : Mutex) → (unlock_once t m mutex k).notices ≡ k.notices
  unfolding unlock_once hand_over
  once-notices m mutex = one-notices (nat_le mutex.count 1) _ _ (handed-notices (first_waiter (Awaits m) k) m) refl

  unlock-notices : (o : Option Mutex) (m : ℕ) → (unlock_known o t m k).0.notices ≡ k.notices
  unlock-notices None m = refl
  unlock-notices (Some mutex) m = pair-notices (is_number mutex.owner t) _ _ (once-notices m mutex) refl

  -- one that is refused so changes nothing else
  stays_if : (b : Bool) (kind : NoticeKind) (done : Parts × Outcome) → (b ≡ true → done.0 ≡ k) → done.0.notices ≡ k.notices → Stays (if b then (notify kind t done.0, done.1) else done).0
  stays_if true kind done rests n = inr (notify-pipes kind t done.0 ∙ ap (λ (x : Parts). x.pipes) (rests refl))
  stays_if false kind done rests n = inl n

  refused-stays : (e : Errno) (kind : NoticeKind) (done : Parts × Outcome) → (is_refused e done.1 ≡ true → done.0 ≡ k) → done.0.notices ≡ k.notices → Stays (notify_refused e kind t done).0
  refused-stays e kind done rests n = stays_if (is_refused e done.1) kind done rests n

  lock-stays : (m deadline : ℕ) → Stays (lock c t m deadline k).0
  unfolding lock
  lock-stays m deadline =
      refused-stays Errno_deadlock Deadlock (lock_known (slice_get k.mutexes m) c t m deadline k) (lock_rests t m k (slice_get k.mutexes m) c deadline) (lock-notices (slice_get k.mutexes m) m deadline)

  try-stays : (m : ℕ) → Stays (try_lock t m k).0
  unfolding try_lock
  try-stays m = refused-stays Errno_deadlock Deadlock (try_known (slice_get k.mutexes m) t m k) (try_rests t m k (slice_get k.mutexes m)) (try-notices (slice_get k.mutexes m) m)

  unlock-stays : (m : ℕ) → Stays (unlock t m k).0
  unfolding unlock
  unlock-stays m = refused-stays NotPermitted NotOwner (unlock_known (slice_get k.mutexes m) t m k) (unlock_rests t m k (slice_get k.mutexes m)) (unlock-notices (slice_get k.mutexes m) m)

  -- ---- no other call leaves a notice
  abbrev caller : Actor
  caller = record { cpu = c; task = Some t; may = λ d l. true; chooses = false; calls = true; faults = false }

  module _ (call : Call) (x : Hart) (g : Caller caller call x t k) (quiet : call_stage call ≡ Some InBand → is_oob (Some t) k.tasks ≡ false) where
    asked : (n : ℕ) (y : Hart) → Makes caller k n y → register_of x.regs A7 ≡ n
    asked n y made =
        let task : t ≡ made.task = (let two : Some t ≡ Some made.task = made.acts in cc) in
        let one : Some x ≡ Some y = sym g.has ∙ ap (λ u. slice_get k.harts u) task ∙ made.has in
        let same : x ≡ y = cc in
        ap (λ (z : Hart). register_of z.regs A7) same ∙ made.asks

    is_call : (n : ℕ) (y : Hart) (other : Call) → call_of n ≡ Some other → Makes caller k n y → call ≡ other
    is_call n y other is made = let two : Some call ≡ Some other = sym g.number ∙ ap call_of (asked n y made) ∙ is in cc

    same-call : (other : Call) → call ≡ other → Stays (perform other x c t k).0 → Stays (perform call x c t k).0
    same-call other same s = rw same s

    reason : (u : ℕ) (kind : NoticeKind) → u ≡ t → Noted caller k u kind → Stays (perform call x c t k).0
    reason u _ own (by_in_band other y made stage on) =
        let same : call ≡ other = is_call (call_number other) y other (numbered-own other) made in
        let off : is_oob (Some t) k.tasks ≡ false = quiet (ap call_stage same ∙ stage) in
        let runs : is_oob (Some t) k.tasks ≡ true = ap (λ n. is_oob (Some n) k.tasks) (sym own) ∙ on in
        cc
    reason u _ own (by_fault faults on) = cc
    reason u _ own (by_deadlock y (inl made)) = same-call Locks (is_call 36 y Locks refl made) (lock-stays (argument 0 x) (argument 1 x))
    reason u _ own (by_deadlock y (inr made)) = same-call Tries (is_call 37 y Tries refl made) (try-stays (argument 0 x))
    reason u _ own (by_unlock y made) = same-call Unlocks (is_call 38 y Unlocks refl made) (unlock-stays (argument 0 x))

    by_walk : (n : Notices) → n ≡ (perform call x c t k).0.notices → NotesOne caller k n → Stays (perform call x c t k).0
    by_walk _ e none = inl (sym e)
    by_walk _ e (one notice is) = reason notice.task notice.kind (let two : Some t ≡ Some notice.task = is.acts in cc) is.why
    by_walk _ e (alarm notice is) = let no : false ≡ true = is.chooses in cc

    performs-stays : Stays (perform call x c t k).0
    performs-stays = by_walk (perform call x c t k).0.notices refl (walk_notes caller k (λ chooses. calm) 1 64 (perform call x c t k).0 (performs caller k k t refl (unchanged k) start call x g))

    performs-fresh : IsFresh c (Some t) k (finish_call c t (perform call x c t k))
    performs-fresh = answers-fresh (perform call x c t k).1 (perform call x c t k).0 performs-stays

  promoted-notices : (promote c t k).notices ≡ k.notices
  unfolding promote leave_in_band restamp set_state
  promoted-notices = refl

  asks-fresh : IsFresh c (Some t) k (ask_oob c t k)
  unfolding ask_oob
  asks-fresh = fresh_if c t k (may_promote c t k) (promote c t k) (finish_call c t (refused NotPermitted k)) (λ e. unnoted promoted-notices) (λ e. answers-fresh (refused NotPermitted k).1 k (inl refl))

  on-fresh : (o : Option Stage) (call : Call) (x : Hart) → call_stage call ≡ o → slice_get k.harts t ≡ Some x → call_of (register_of x.regs A7) ≡ Some call → IsFresh c (Some t) k (call_on o call x c t k)
  on-fresh None call x stage has number = performs-fresh call x (record { calls = refl; has = has; number = number; on = λ oob. cc }) (λ in_band. cc)
  on-fresh (Some InBand) call x stage has number =
      fresh_if c t k (is_oob (Some t) k.tasks) _ _ (λ on. fresh-demoted c t k DemotedByCall k)
      (λ off. performs-fresh call x (record { calls = refl; has = has; number = number; on = λ oob. cc }) (λ in_band. off))
  on-fresh (Some OutOfBand) call x stage has number =
      fresh_if c t k (is_oob (Some t) k.tasks) _ _
      (λ on. performs-fresh call x (record { calls = refl; has = has; number = number; on = λ oob. on }) (λ in_band. cc))
      (λ off. asks-fresh)

  known-fresh : (o : Option Call) (x : Hart) → slice_get k.harts t ≡ Some x → ((call : Call) → o ≡ Some call → call_of (register_of x.regs A7) ≡ Some call) → IsFresh c (Some t) k (call_known o x c t k)
  known-fresh None x has number = answers-fresh (refused NoSuchCall k).1 k (inl refl)
  known-fresh (Some call) x has number = on-fresh (call_stage call) call x refl has (number call refl)

  hart-fresh : (o : Option Hart) → slice_get k.harts t ≡ o → IsFresh c (Some t) k (call_of_hart o c t k)
  hart-fresh None has = unnoted refl
  hart-fresh (Some x) has = known-fresh (offered k.profile (call_of (register_of x.regs A7))) x has (λ call e. offered-is k.profile (call_of (register_of x.regs A7)) call e)

  call-fresh : IsFresh c (Some t) k (call c t k)
  unfolding call
  call-fresh = hart-fresh (slice_get k.harts t) refl

-- ---- an instruction
raised-notices : (o : Option ℕ) (k : Parts) → (raise_line o k).notices ≡ k.notices
raised-notices None k = refl
raised-notices (Some l) k = refl

module _ (c t : ℕ) (b : Board) (calm : IsCalm c b.parts) where
  fault-fresh : (f : Fault) → IsFresh c (Some t) b.parts (fault c t f b.parts)
  fault-fresh f =
      fresh_if c t b.parts (is_oob (Some t) b.parts.tasks) _ _ (λ on. fresh-demoted c t b.parts DemotedByFault b.parts)
      (λ off. fresh-gone c t b.parts _ (ended-gone c t (Faulted f) b.parts refl))

  load-fresh : (o : Option Accessed) (op : LoadOp) (rd : ℕ) → IsFresh c (Some t) b.parts (finish_load o op rd c t b).parts
  load-fresh None op rd = fault-fresh _
  load-fresh (Some access) op rd = unnoted (raised-notices access.line _)

  store-fresh : (o : Option Accessed) → IsFresh c (Some t) b.parts (finish_store o c t b).parts
  store-fresh None = fault-fresh _
  store-fresh (Some access) = unnoted (raised-notices access.line _)

  effect-fresh : (effect : Effect) → IsFresh c (Some t) b.parts (finish effect c t b).parts
  unfolding finish stop
  effect-fresh (Next rd value pc) = unnoted refl
  effect-fresh (Load op rd address) = load-fresh (read address (width_of_load op) b.memory) op rd
  effect-fresh (Store width address value) = store-fresh (write address width value b.memory)
  effect-fresh Calls = call-fresh c t b.parts calm
  effect-fresh Break = unnoted refl
  effect-fresh Misaligned = fault-fresh _

  inst-fresh : (o : Option Inst) (x : Hart) → IsFresh c (Some t) b.parts (execute_inst o x c t b).parts
  inst-fresh None x = fault-fresh _
  inst-fresh (Some inst) x = effect-fresh (does inst x.regs x.pc)

  word-fresh : (o : Option ℕ) (x : Hart) → IsFresh c (Some t) b.parts (execute_word o x c t b).parts
  word-fresh None x = fault-fresh _
  word-fresh (Some word) x = inst-fresh (decoded word) x

  pub execute-fresh : (x : Hart) → IsFresh c (Some t) b.parts (execute x c t b).parts
  unfolding execute
  execute-fresh x = word-fresh (fetch x.pc b.memory) x
