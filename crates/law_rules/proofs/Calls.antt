-- One lemma a call: the call is a walk.
use Rattle.std.proofs.Common.{◌≡◌, ℕ, ◌+◌, ◌%◌, ◌<◌, ◌≤◌, List, [], ◌∷◌, Bool, true, false, Option, Some, None, length, inl, inr, refl, ap, sym, ◌∙◌, arith}
use Rattle.std.specs.Prelude.{slice_get, is_none, nat_lt, nat_le, not, ◌&&◌, ◌==◌, if◌then◌else◌}
use Rattle.std.proofs.lemmas.Bool.Decides.{nat_tests, eqb_tells}
use Rattle.evm_exec.specs.Registers.{register_of}
use Rattle.evm_exec.specs.declared.hart.Hart.{Hart}
use Rattle.evm_model.specs.Bounds.{PER_CALL}
use Rattle.evm_model.specs.Calls.{call_number, numbered, all_calls, call_of, call_stage, perform, is_weak_oob, return_weak, answered, finish_call, ask_oob, call_on, call_known, call_of_hart, call}
use Rattle.evm_model.specs.Harts.{A0, A7, argument, advance, answer}
use Rattle.evm_model.specs.InBandCalls.{exit, putc, yield_now, is_bad_entry, add_task, spawn, wait_line_unless, wait_line, attach_as, attach_task, detach}
use Rattle.evm_model.specs.Mutexes.{owns_any}
use Rattle.evm_model.specs.Notices.{notify}
use Rattle.evm_model.specs.OobCalls.{stall, switch_oob, switch_in_band, is_scheduled_task, schedule_as, set_sched, set_mode, yield_oob, clock, state_bits, migrate_to, migrate}
use Rattle.evm_model.specs.Policies.{policy_of}
use Rattle.evm_model.specs.Profiles.{line_count, offered}
use Rattle.evm_model.specs.Ranks.{is_oob_ready}
use Rattle.evm_model.specs.Settle.{is_oob}
use Rattle.evm_model.specs.Stages.{refused, is_stalled, is_attached, may_promote, wait_refusal}
use Rattle.evm_model.specs.declared.profile.Profile.{Profile}
use Rattle.evm_model.specs.State.{Parts, on_hart, no_mode}
use Rattle.evm_model.specs.Tasks.{restamp, demote, set_policy, clear_policy, set_mode_bits, is_weak}
use Rattle.evm_model.specs.declared.call.Call.{Call}
use Rattle.evm_model.specs.declared.call.Call.TheVariants.{Exit as Ends, Putc, Yield, Spawn, Stall, Unstall, WaitLine, Attach, Detach, NewMutex, NewSemaphore, NewEvent, NewFlags, NewTimer, SetLine, SwitchOob, SwitchInBand, SetSched, SetMode, Lock, TryLock, Unlock, SemGet, SemTryGet, SemPut, EventWait, Signal, Broadcast, FlagsWait, FlagsPost, SleepUntil, TimerSet, TimerWait, YieldOob, StallOob, UnstallOob, Clock, StateBits, Migrate}
use Rattle.evm_model.specs.declared.call.Outcome.{Outcome}
use Rattle.evm_model.specs.declared.call.Outcome.TheVariants.{Returns, Blocks, Exits}
use Rattle.evm_model.specs.declared.errno.Errno.{Errno}
use Rattle.evm_model.specs.declared.errno.Errno.TheVariants.{NotPermitted, NoSuchCall}
use Rattle.evm_model.specs.declared.limits.TheConstants.{SLICE, TASK_LIMIT, MIGRATION_PROFILE, MODE_LIMIT}
use Rattle.evm_model.specs.declared.notice.NoticeKind.TheVariants.{DemotedByCall}
use Rattle.evm_model.specs.declared.stage.Stage.{Stage}
use Rattle.evm_model.specs.declared.stage.Stage.TheVariants.{OutOfBand, InBand}
use Rattle.evm_model.specs.declared.task.Class.{Class}
use Rattle.evm_model.specs.declared.task.Class.TheVariants.{Unattached}
use Rattle.evm_model.specs.declared.task.Task.{Task}
use Rattle.evm_model.specs.declared.task.TaskState.TheVariants.{Exit}
use Rattle.evm_model.specs.declared.task.Wait.TheVariants.{Line}
use Rattle.evm_model.proofs.Lists.{slice_get-below}
use Rattle.law_rules.proofs.ActionWalks.{sets_line}
use Rattle.law_rules.proofs.DeadlineWalks.{sleeps}
use Rattle.law_rules.proofs.EventWalks.{makes_event, waits_event, signals, broadcasts}
use Rattle.law_rules.proofs.FlagWalks.{makes_flags, waits_flags, posts_flags}
use Rattle.law_rules.proofs.LockWalks.{either, up, same, was_there, makes_mutex, locks, tries, unlocks}
use Rattle.law_rules.proofs.NoticeWalks.{notifies_demoted}
use Rattle.law_rules.proofs.PassingWalks.{ends}
use Rattle.law_rules.proofs.SemaphoreWalks.{makes_semaphore, gets, tries_get, puts_one}
use Rattle.law_rules.proofs.Sizes.{walk_sizes}
use Rattle.law_rules.proofs.Tasks.{stalls_stage, leaves, begins_wait, demotes, promotes}
use Rattle.law_rules.proofs.TimerWalks.{makes_timer, sets, waits_timer}
use Rattle.law_rules.proofs.Walk.{Actor, IsOldTask, Untouched, Makes, Noted, by_in_band, hart, task, stamps, migrates, schedules, adds, types, Walk, quietly, stamped, slack, walk_if}

-- ---- a call that was found has its number
if_numbered : (b : Bool) (n : ℕ) (call first : Call) (calls : List Call) → (n == call_number first) ≡ b → (if b then Some first else numbered n calls) ≡ Some call
    → (numbered n calls ≡ Some call → n ≡ call_number call) → n ≡ call_number call
if_numbered true n call first calls e h rest =
    let same : first ≡ call = cc in
    elim (eqb_tells n (call_number first)) [
      | inl g ↦ g.1 ∙ ap call_number same
      | inr g ↦ let no : true ≡ false = sym e ∙ g.0 in cc
    ]
if_numbered false n call first calls e h rest = rest h

pub has_number : (n : ℕ) (call : Call) (calls : List Call) → numbered n calls ≡ Some call → n ≡ call_number call
has_number n call [] h = cc
has_number n call (first ∷ calls) h = if_numbered (n == call_number first) n call first calls refl h (has_number n call calls)

-- one that the profile has is the call of the number
pub offered-is : (profile : Profile) (o : Option Call) (call : Call) → offered profile o ≡ Some call → o ≡ Some call
offered-is profile None call e = e
offered-is profile (Some Migrate) call e = from (nat_lt profile.version MIGRATION_PROFILE) e
  where
    from : (b : Bool) → (if b then None else Some Migrate) ≡ Some call → Some Migrate ≡ Some call
    from true e = cc
    from false e = e
offered-is profile (Some _) call e = e

-- the caller has this hart; a call of the out-of-band kernel is made there
pub record Caller (a : Actor) (call : Call) (x : Hart) (t : ℕ) (k : Parts) : Type 0 where
  pub calls : a.calls ≡ true
  pub has : slice_get k.harts t ≡ Some x
  pub number : call_of (register_of x.regs A7) ≡ Some call
  pub on : call_stage call ≡ Some OutOfBand → is_oob (Some t) k.tasks ≡ true

is_weak_there : (o : Option Task) → is_weak_oob o ≡ true → (x : Task) × (o ≡ Some x) × (is_oob_ready x.state ≡ true)
is_weak_there None e = cc
is_weak_there (Some x) e = (x, refl, both (is_oob_ready x.state) (is_weak x.class) e)
  where
    both : (p q : Bool) → (p && q) ≡ true → p ≡ true
    both true q h = refl
    both false q h = h

weak_oob : (t : ℕ) (k : Parts) → is_weak_oob (slice_get k.tasks t) ≡ true → is_oob (Some t) k.tasks ≡ true
weak_oob t k e = let w = is_weak_there (slice_get k.tasks t) e in rw w.1 w.2

first_of : (b c : Bool) → (b && c) ≡ true → b ≡ true
first_of true c h = refl
first_of false c h = h

module _ (a : Actor) (old k : Parts) (t : ℕ) (own : a.task ≡ Some t) (fresh : Untouched old k) (w : Walk a old 0 0 k) where
  none : Walk a old 1 64 k
  none = same a old k t own fresh w

  at_most : (n s : ℕ) (x : Parts) → n ≤ 1 → s ≤ 64 → Walk a old n s x → Walk a old 1 64 x
  at_most n s x h g v = up a old k t own fresh w n s x h g v

  old_task : IsOldTask old k t
  old_task = was_there a old k t own fresh w

  one_stamp : Walk a old 0 1 (restamp t k)
  one_stamp = stamped a old 0 0 k _ (stamps t k own old_task) w

  -- ---- of the in-band kernel
  exits : Walk a old 1 64 (exit a.cpu t k).0
  unfolding exit
  exits = slack a old 0 1 (0 + length k.mutexes) 64 _ (λ p. omega arith) (λ few. omega (arith, few.mutexes, ap length fresh.mutexes)) (ends a old 0 t own 0 Exit k refl fresh.mutexes fresh.tasks w)

  puts : (byte : ℕ) → Walk a old 1 64 (putc byte k).0
  unfolding putc
  puts byte = at_most 0 0 _ (omega arith) (omega arith) (quietly a old 0 0 k _ (types t (byte % 256) k own fresh) w)

  yields : Walk a old 1 64 (yield_now a.cpu t k).0
  unfolding yield_now
  yields = either a old (is_stalled InBand a.cpu k) _ _ (λ e. none) (λ e. at_most 0 1 _ (omega arith) (omega arith) (leaves a old 0 1 (restamp t k) one_stamp))

  spawns : (entry value cpu : ℕ) → Walk a old 1 64 (spawn entry value cpu k).0
  unfolding spawn add_task
  spawns entry value cpu =
      either a old (is_bad_entry k.profile.ram entry) _ _ (λ e. none) (λ e.
      either a old (is_none (slice_get k.processors cpu)) _ _ (λ e. none) (λ e.
      either a old (nat_le TASK_LIMIT (length k.tasks)) _ _ (λ e. none) (λ e.
      let room : length k.tasks < TASK_LIMIT = grind (arith, nat_tests) in at_most 0 1 _ (omega arith) (omega arith) (stamped a old 0 0 k _ (adds t entry value cpu k own fresh room) w))))

  waits_line_unless : (o : Option Errno) (l : ℕ) → Walk a old 1 64 (wait_line_unless o a.cpu t l k).0
  waits_line_unless (Some e) l = none
  waits_line_unless None l = at_most 0 1 _ (omega arith) (omega arith) (leaves a old 0 1 _ (begins_wait a old 0 0 t k own old_task w (Line l) 0 refl))

  waits_line : (l : ℕ) → Walk a old 1 64 (wait_line a.cpu t l k).0
  unfolding wait_line
  waits_line l = either a old (nat_le (line_count k.profile) l) _ _ (λ e. none) (λ e. waits_line_unless (wait_refusal (is_stalled InBand a.cpu k) None k.ticks 0) l)

  attaches_as : (o : Option Class) (priority : ℕ) → Walk a old 1 64 (attach_as o t priority k).0
  unfolding set_policy
  attaches_as None priority = none
  attaches_as (Some class) priority =
      either a old (is_attached t k) _ _ (λ e. none)
      (λ e. at_most 0 0 _ (omega arith) (omega arith) (quietly a old 0 0 k _ (task t (λ x. record x { class = class; priority = priority; slice = SLICE }) k own (λ x. (refl, refl)) (λ x. inr refl) old_task) w))

  attaches : (class priority : ℕ) → Walk a old 1 64 (attach_task t class priority k).0
  unfolding attach_task
  attaches class priority = attaches_as (policy_of class priority) priority

  clears : Walk a old 1 64 (clear_policy t k)
  unfolding clear_policy
  clears = at_most 0 0 _ (omega arith) (omega arith) (quietly a old 0 0 k _ (task t (λ x. record x { class = Unattached; priority = 0; mode = no_mode }) k own (λ x. (refl, refl)) (λ x. inr refl) old_task) w)

  detaches : Walk a old 1 64 (detach t k).0
  unfolding detach
  detaches = either a old (not (is_attached t k)) _ _ (λ e. none) (λ e. either a old (owns_any t k.mutexes) _ _ (λ e. none) (λ e. clears))

  -- ---- of the out-of-band kernel, and of either
  stalls : (stage : Stage) (stalled : Bool) → Walk a old 1 64 (stall stage stalled a.cpu k).0
  unfolding stall
  stalls stage stalled = at_most 0 0 _ (omega arith) (omega arith) (stalls_stage a old 0 0 k w stage stalled)

  switches_oob : Walk a old 1 64 (switch_oob k).0
  unfolding switch_oob
  switches_oob = none

  switches_in_band : Walk a old 1 64 (switch_in_band a.cpu t k).0
  unfolding switch_in_band
  switches_in_band = either a old (is_stalled OutOfBand a.cpu k) _ _ (λ e. none) (λ e. at_most 0 1 _ (omega arith) (omega arith) (demotes a old 0 0 t k own old_task w))

  sets_mode : (bits : ℕ) → Walk a old 1 64 (set_mode t bits k).0
  unfolding set_mode set_mode_bits
  sets_mode bits =
      either a old (nat_lt MODE_LIMIT bits) _ _ (λ e. none)
      (λ e. at_most 0 0 _ (omega arith) (omega arith) (quietly a old 0 0 k _ (task t (λ x. record x { mode = record { bits = bits } }) k own (λ x. (refl, refl)) (λ x. inr refl) old_task) w))

  yields_oob : Walk a old 1 64 (yield_oob t k).0
  unfolding yield_oob
  yields_oob = at_most 0 1 _ (omega arith) (omega arith) one_stamp

  tells_clock : Walk a old 1 64 (clock k).0
  unfolding clock
  tells_clock = none

  tells_bits : Walk a old 1 64 (state_bits a.cpu t k).0
  unfolding state_bits
  tells_bits = none

  made : (call : Call) (x : Hart) → Caller a call x t k → Makes a old (call_number call) x
  made call x g = record { task = t; acts = own; calls = g.calls; has = ap (λ xs. slice_get xs t) (sym fresh.harts) ∙ g.has; asks = has_number (register_of x.regs A7) call all_calls g.number }

  -- another task has another class
  schedules_as : (o : Option Class) (x : Hart) → Caller a SetSched x t k → is_scheduled_task (slice_get k.tasks (argument 0 x)) ≡ true → policy_of (argument 1 x) (argument 2 x) ≡ o
      → Walk a old 1 64 (schedule_as o (argument 0 x) (argument 2 x) k).0
  unfolding made
  schedules_as None x g live policy = none
  schedules_as (Some class) x g live policy =
      at_most 0 0 _ (omega arith) (omega arith)
      (quietly a old 0 0 k _ (schedules (argument 0 x) (argument 2 x) class k fresh (record {
        hart = x;
        makes = made SetSched x g;
        on = ap (is_oob (Some t)) (sym fresh.tasks) ∙ g.on refl;
        names = refl;
        asks = refl;
        live = ap (λ xs. is_scheduled_task (slice_get xs (argument 0 x))) (sym fresh.tasks) ∙ live;
        policy = policy;
      })) w)

  sets_sched : (x : Hart) → Caller a SetSched x t k → Walk a old 1 64 (set_sched (argument 0 x) (argument 1 x) (argument 2 x) k).0
  unfolding set_sched
  sets_sched x g =
      either a old (is_scheduled_task (slice_get k.tasks (argument 0 x))) _ _ (λ live. schedules_as (policy_of (argument 1 x) (argument 2 x)) x g live refl) (λ e. none)

  -- its own processor is another
  moves_on : (x : Hart) → Caller a Migrate x t k → is_none (slice_get k.processors (argument 0 x)) ≡ false → Walk a old 1 64 (migrate_to a.cpu t (argument 0 x) k).0
  moves_on x g there =
      either a old (argument 0 x == a.cpu) _ _ (λ e. none) (λ e.
      either a old (is_stalled OutOfBand a.cpu k) _ _ (λ e. none)
      (λ e. at_most 0 1 _ (omega arith) (omega arith)
      (stamped a old 0 0 k _ (migrates t (argument 0 x) x k own (made Migrate x g) refl (is_there x there) (ap (is_oob (Some t)) (sym fresh.tasks) ∙ g.on refl) fresh) w)))
    where
      some_there : {X : Type 0} (o : Option X) → is_none o ≡ false → (y : X) × (o ≡ Some y)
      some_there None e = cc
      some_there (Some y) e = (y, refl)

      is_there : (x : Hart) → is_none (slice_get k.processors (argument 0 x)) ≡ false → argument 0 x < length old.processors
      is_there x e =
          let some = some_there (slice_get k.processors (argument 0 x)) e in
          let below : argument 0 x < length k.processors = slice_get-below k.processors (argument 0 x) some.0 some.1 in
          omega (arith, below, (walk_sizes a old 0 0 k w).processors)

  goes_on : (x : Hart) → Caller a Migrate x t k → Walk a old 1 64 (migrate a.cpu t (argument 0 x) k).0
  unfolding migrate
  goes_on x g = either a old (is_none (slice_get k.processors (argument 0 x))) _ _ (λ e. none) (λ e. moves_on x g e)

  -- ---- the ECALL
  pub performs : (call : Call) (x : Hart) → Caller a call x t k → Walk a old 1 64 (perform call x a.cpu t k).0
  performs Ends x g = exits
  performs Putc x g = puts (argument 0 x)
  performs Yield x g = yields
  performs Spawn x g = spawns (argument 0 x) (argument 1 x) (argument 2 x)
  performs Stall x g = stalls InBand true
  performs Unstall x g = stalls InBand false
  performs WaitLine x g = waits_line (argument 0 x)
  performs Attach x g = attaches (argument 0 x) (argument 1 x)
  performs Detach x g = detaches
  performs NewMutex x g = makes_mutex a old k t own fresh w (argument 0 x) (argument 1 x)
  performs NewSemaphore x g = makes_semaphore a old k t own fresh w (argument 0 x)
  performs NewEvent x g = makes_event a old k t own fresh w
  performs NewFlags x g = makes_flags a old k t own fresh w
  performs NewTimer x g = makes_timer a old k t own fresh w
  performs SetLine x g = sets_line a old k t own fresh w x (made SetLine x g)
  performs SwitchOob x g = switches_oob
  performs SwitchInBand x g = switches_in_band
  performs SetSched x g = sets_sched x g
  performs SetMode x g = sets_mode (argument 0 x)
  performs Lock x g = locks a old k t own fresh w x (made Lock x g) (argument 0 x) (argument 1 x)
  performs TryLock x g = tries a old k t own fresh w x (made TryLock x g) (argument 0 x)
  performs Unlock x g = unlocks a old k t own fresh w x (made Unlock x g) (argument 0 x)
  performs SemGet x g = gets a old k t own fresh w x (made SemGet x g)
  performs SemTryGet x g = tries_get a old k t own fresh w x (made SemTryGet x g)
  performs SemPut x g = puts_one a old k t own fresh w x (made SemPut x g)
  performs EventWait x g = waits_event a old k t own fresh w x (made EventWait x g)
  performs Signal x g = signals a old k t own fresh w x (made Signal x g)
  performs Broadcast x g = broadcasts a old k t own fresh w x (made Broadcast x g)
  performs FlagsWait x g = waits_flags a old k t own fresh w x (made FlagsWait x g)
  performs FlagsPost x g = posts_flags a old k t own fresh w x (made FlagsPost x g)
  performs SleepUntil x g = sleeps a old k t own fresh w (argument 0 x)
  performs TimerSet x g = sets a old k t own fresh w x (made TimerSet x g)
  performs TimerWait x g = waits_timer a old k t own fresh w x (made TimerWait x g)
  performs YieldOob x g = yields_oob
  performs StallOob x g = stalls OutOfBand true
  performs UnstallOob x g = stalls OutOfBand false
  performs Clock x g = tells_clock
  performs StateBits x g = tells_bits
  performs Migrate x g = goes_on x g

  returns_weak : (x : Parts) → Walk a old 1 64 x → Walk a old 1 65 (return_weak a.cpu t x)
  unfolding return_weak
  returns_weak x v =
      walk_if a old 1 65 (is_weak_oob (slice_get x.tasks t) && not (owns_any t x.mutexes)) _ x
      (λ e. demotes a old 1 64 t x own (inr (weak_oob t x (first_of (is_weak_oob (slice_get x.tasks t)) (not (owns_any t x.mutexes)) e))) v)
      (λ e. slack a old 1 1 64 65 x (λ p. omega arith) (λ p. omega arith) v)

  module _ (below : t < length old.harts) where
    answers : (outcome : Outcome) (x : Parts) → Walk a old 1 64 x → Walk a old 1 65 (answered outcome a.cpu t x)
    answers (Returns value) x v = returns_weak (on_hart t (answer value) x) (quietly a old 1 64 x _ (hart t A0 value (answer value) x own (λ h. refl) (inl below)) v)
    answers Blocks x v = slack a old 1 1 64 65 _ (λ p. omega arith) (λ p. omega arith) (quietly a old 1 64 x _ (hart t 0 0 advance x own (λ h. refl) (inl below)) v)
    answers Exits x v = slack a old 1 1 64 65 x (λ p. omega arith) (λ p. omega arith) v

    finishes_call : (done : Parts × Outcome) → Walk a old 1 64 done.0 → Walk a old 1 65 (finish_call a.cpu t done)
    finishes_call done v = answers done.1 done.0 v

    demoted : (call : Call) (x : Hart) → Caller a call x t k → call_stage call ≡ Some InBand → is_oob (Some t) k.tasks ≡ true → Walk a old 1 65 (notify DemotedByCall t (demote a.cpu t k))
    demoted call x g stage on =
        let why : Noted a old t DemotedByCall = by_in_band call x (made call x g) stage (ap (is_oob (Some t)) (sym fresh.tasks) ∙ on) in
        notifies_demoted a old 1 65 t DemotedByCall k own why fresh (slack a old 0 1 1 65 _ (λ p. omega arith) (λ p. omega arith) (demotes a old 0 0 t k own old_task w))

    asks_oob : Walk a old 1 65 (ask_oob a.cpu t k)
    unfolding ask_oob
    asks_oob =
        walk_if a old 1 65 (may_promote a.cpu t k) _ _
        (λ e. slack a old 0 1 1 65 _ (λ p. omega arith) (λ p. omega arith) (promotes a old 0 0 t k own old_task w))
        (λ e. finishes_call (refused NotPermitted k) none)

    calls_on : (o : Option Stage) (call : Call) (x : Hart) → call_stage call ≡ o → a.calls ≡ true → slice_get k.harts t ≡ Some x → call_of (register_of x.regs A7) ≡ Some call
        → Walk a old 1 65 (call_on o call x a.cpu t k)
    calls_on None call x stage may has number = finishes_call (perform call x a.cpu t k) (performs call x (record { calls = may; has = has; number = number; on = λ oob. cc }))
    calls_on (Some InBand) call x stage may has number =
        walk_if a old 1 65 (is_oob (Some t) k.tasks) _ _ (λ on. demoted call x (record { calls = may; has = has; number = number; on = λ oob. cc }) stage on)
        (λ on. finishes_call (perform call x a.cpu t k) (performs call x (record { calls = may; has = has; number = number; on = λ oob. cc })))
    calls_on (Some OutOfBand) call x stage may has number =
        walk_if a old 1 65 (is_oob (Some t) k.tasks) _ _
        (λ on. finishes_call (perform call x a.cpu t k) (performs call x (record { calls = may; has = has; number = number; on = λ oob. on })))
        (λ on. asks_oob)

    calls_known : (o : Option Call) (x : Hart) → a.calls ≡ true → slice_get k.harts t ≡ Some x → ((call : Call) → o ≡ Some call → call_of (register_of x.regs A7) ≡ Some call) → Walk a old 1 65 (call_known o x a.cpu t k)
    calls_known None x may has number = finishes_call (refused NoSuchCall k) none
    calls_known (Some call) x may has number = calls_on (call_stage call) call x refl may has (number call refl)

  calls_hart : (o : Option Hart) → a.calls ≡ true → slice_get k.harts t ≡ o → Walk a old 1 65 (call_of_hart o a.cpu t k)
  calls_hart None may has = slack a old 0 1 0 65 k (λ p. omega arith) (λ p. omega arith) w
  calls_hart (Some x) may has = calls_known (rw (ap length (sym fresh.harts)) (slice_get-below k.harts t x has)) (offered k.profile (call_of (register_of x.regs A7))) x may has (λ call e. offered-is k.profile (call_of (register_of x.regs A7)) call e)

  pub walks_closely : a.calls ≡ true → Walk a old 1 65 (call a.cpu t k)
  unfolding call
  walks_closely may = calls_hart (slice_get k.harts t) may refl

  -- .. with room to spare
  pub walks_call : a.calls ≡ true → Walk a old 1 PER_CALL (call a.cpu t k)
  walks_call may = slack a old 1 1 65 PER_CALL _ (λ p. omega arith) (λ p. omega arith) (walks_closely may)
