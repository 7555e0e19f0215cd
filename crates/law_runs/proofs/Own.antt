-- What each call leaves alone of its own task, and what an ECALL does.
use Rattle.std.proofs.Common.{◌≡◌, ℕ, List, Bool, true, false, not, Option, Some, None, length, ◌⊎◌, inl, inr, refl, ap, sym, ◌∙◌}
use Rattle.std.specs.Prelude.{slice_get, option_map, is_none, nat_lt, nat_le, ◌&&◌, ◌==◌, if◌then◌else◌}
use Rattle.std.proofs.lemmas.Bool.{cases_eq}
use Rattle.evm_exec.specs.Registers.{register_of}
use Rattle.evm_exec.specs.declared.hart.Hart.{Hart}
use Rattle.evm_model.specs.Calls.{call_of, call_stage, perform, is_weak_oob, return_weak, answered, finish_call, ask_oob, call_on, call_known, call}
use Rattle.evm_model.specs.Errnos.{refusal_answer}
use Rattle.evm_model.specs.Good.{is_ready}
use Rattle.evm_model.specs.Harts.{A7, advance, answer, argument, spawned_hart}
use Rattle.evm_model.specs.InBandCalls.{exit, putc, yield_now, is_bad_entry, add_task, spawn, wait_line_unless, wait_line, attach_as, attach_task, detach}
use Rattle.evm_model.specs.Lists.{change}
use Rattle.evm_model.specs.Notices.{asks_for, notify}
use Rattle.evm_model.specs.Mutexes.{owns_any}
use Rattle.evm_model.specs.OobCalls.{moved, move_task, migrate, stall, switch_oob, switch_in_band, is_scheduled_task, schedule_as, set_sched, set_mode, yield_oob, clock, state_bits}
use Rattle.evm_model.specs.Passing.{hand_over_below, end_task}
use Rattle.evm_model.specs.Policies.{policy_of}
use Rattle.evm_model.specs.Profiles.{line_count, offered}
use Rattle.evm_model.specs.Ranks.{is_oob_ready}
use Rattle.evm_model.specs.Settle.{is_oob, is_oob_task}
use Rattle.evm_model.specs.Stages.{refused, is_stalled, is_attached, may_promote, wait_refusal}
use Rattle.evm_model.specs.State.{Parts, new_task, no_mode, on_hart}
use Rattle.evm_model.specs.Tasks.{restamp, set_state, leave_in_band, demote, promote, set_policy, clear_policy, set_mode_bits, is_weak}
use Rattle.evm_model.specs.Waits.{begin_wait}
use Rattle.evm_model.specs.declared.call.Call.{Call}
use Rattle.evm_model.specs.declared.call.Call.TheVariants.{Exit as Ends, Putc, Yield, Spawn, Stall, Unstall, WaitLine, Attach, Detach, NewMutex, NewSemaphore, NewEvent, NewFlags, NewTimer, SetLine, SwitchOob, SwitchInBand, SetSched, SetMode, Lock, TryLock, Unlock, SemGet, SemTryGet, SemPut, EventWait, Signal, Broadcast, FlagsWait, FlagsPost, SleepUntil, TimerSet, TimerWait, YieldOob, StallOob, UnstallOob, Clock, StateBits, Migrate}
use Rattle.evm_model.specs.declared.call.Outcome.{Outcome}
use Rattle.evm_model.specs.declared.call.Outcome.TheVariants.{Returns, Blocks, Exits}
use Rattle.evm_model.specs.declared.errno.Errno.{Errno}
use Rattle.evm_model.specs.declared.errno.Errno.TheVariants.{NotPermitted, NoSuchCall}
use Rattle.evm_model.specs.declared.limits.TheConstants.{MIGRATION_PROFILE, SLICE, TASK_LIMIT, MODE_LIMIT}
use Rattle.evm_model.specs.declared.notice.NoticeKind.{NoticeKind}
use Rattle.evm_model.specs.declared.notice.NoticeKind.TheVariants.{DemotedByCall}
use Rattle.evm_model.specs.declared.stage.Stage.{Stage}
use Rattle.evm_model.specs.declared.stage.Stage.TheVariants.{OutOfBand, InBand}
use Rattle.evm_model.specs.declared.task.Class.{Class}
use Rattle.evm_model.specs.declared.task.Class.TheVariants.{Unattached}
use Rattle.evm_model.specs.declared.task.Task.{Task}
use Rattle.evm_model.specs.declared.task.TaskState.{TaskState}
use Rattle.evm_model.specs.declared.task.TaskState.TheVariants.{InReady, OobReady, Exit}
use Rattle.evm_model.specs.declared.task.Wait.TheVariants.{Line}
use Rattle.evm_model.proofs.Lists.{change-here, change-elsewhere, slice_get-before}
use Rattle.law_runs.specs.Own.{Fields, nothing, waiting, changes, may_change, Leaves, OnlyAnswers, CallsLeave}
use Rattle.law_runs.proofs.Fares.{both}
use Rattle.law_runs.proofs.Owning.{Own, Apart, leaves_all, turned, alone, same, either, hands_over_below, waits}
use Rattle.law_runs.proofs.Own_mutexes.{makes, locks, tries, unlocks}
use Rattle.law_runs.proofs.Own_objects.{sets_up, gets, tries_get, puts, adds_flags_group, takes_word, posts, adds_a_timer, sets_a_timer, awaits_a_timer, sleeps, sets_line, adds_an_event, waits_event, signals, broadcasts}

module _ (t : ℕ) (task : Task) (k : Parts) (there : slice_get k.tasks t ≡ Some task) (ready : is_ready task.state ≡ true) where
  -- ---- of the in-band kernel
  exits : (c : ℕ) → Own (changes Ends) t task k (exit c t k).0
  unfolding exit end_task set_state leave_in_band
  exits c =
      let a : Apart t k (hand_over_below t (length k.mutexes) k) = hands_over_below t task k there ready (length k.mutexes) in
      record {
        after = record task { state = Exit };
        there = change-here (λ (y : Task). record y { state = Exit }) (hand_over_below t (length k.mutexes) k).tasks t ∙ ap (option_map (λ (y : Task). record y { state = Exit })) (a.task ∙ there);
        leaves = record { cpu = λ no. refl; class = λ no. refl; priority = λ no. refl; slice = λ no. refl; mode = λ no. refl; deadline = λ no. refl; stamp = λ no same. refl; state = λ no. cc };
        stamp = λ no. refl;
        state = λ no. cc;
        hart = λ y h. a.hart ∙ h;
      }

  one_stamp : (may : Fields) (x : Parts) → may.stamp ≡ true → x.tasks ≡ (restamp t k).tasks → x.harts ≡ k.harts → Own may t task k x
  unfolding restamp
  one_stamp may x may_stamp tasks harts =
      turned t task k there ready may (λ y. record y { stamp = k.stamps }) x (ap (λ all. slice_get all t) tasks ∙ change-here _ k.tasks t ∙ ap (option_map (λ (y : Task). record y { stamp = k.stamps })) there)
      (record { cpu = λ no. refl; class = λ no. refl; priority = λ no. refl; slice = λ no. refl; mode = λ no. refl; deadline = λ no. refl; stamp = λ no. let bad : true ≡ false = sym may_stamp ∙ no in cc; state = λ no. ready })
      (λ no. let bad : true ≡ false = sym may_stamp ∙ no in cc) (λ no. refl) harts

  yields : (c : ℕ) → Own (changes Yield) t task k (yield_now c t k).0
  unfolding yield_now leave_in_band restamp
  yields c = either t task k there ready (changes Yield) (is_stalled InBand c k) _ _ (same t task k there ready (changes Yield)) (one_stamp (changes Yield) (leave_in_band c (restamp t k)) refl refl refl)

  adds : (entry value cpu : ℕ) → Own nothing t task k (add_task entry value cpu k)
  unfolding add_task
  adds entry value cpu = record {
    after = task;
    there = slice_get-before k.tasks (new_task cpu k.stamps) t task there;
    leaves = leaves_all nothing task ready;
    stamp = λ no. refl;
    state = λ no. refl;
    hart = λ y h. slice_get-before k.harts (spawned_hart entry value) t y h;
  }

  spawns : (entry value cpu : ℕ) → Own nothing t task k (spawn entry value cpu k).0
  unfolding spawn
  spawns entry value cpu =
      either t task k there ready nothing (is_bad_entry k.profile.ram entry) _ _ (same t task k there ready nothing)
      (either t task k there ready nothing (is_none (slice_get k.processors cpu)) _ _ (same t task k there ready nothing) (either t task k there ready nothing (nat_le TASK_LIMIT (length k.tasks)) _ _ (same t task k there ready nothing) (adds entry value cpu)))

  waits_line_unless : (o : Option Errno) (c l : ℕ) → Own waiting t task k (wait_line_unless o c t l k).0
  unfolding leave_in_band begin_wait restamp
  waits_line_unless (Some e) c l = same t task k there ready waiting
  waits_line_unless None c l = waits t task k there ready (leave_in_band c (begin_wait t (Line l) 0 k)) (Line l) 0 refl refl

  waits_line : (c l : ℕ) → Own waiting t task k (wait_line c t l k).0
  unfolding wait_line
  waits_line c l = either t task k there ready waiting (nat_le (line_count k.profile) l) _ _ (same t task k there ready waiting) (waits_line_unless (wait_refusal (is_stalled InBand c k) None k.ticks 0) c l)

  policy : (may : Fields) (class : Class) (priority : ℕ) → may.policy ≡ true → may.slice ≡ true → Own may t task k (set_policy t class priority k)
  unfolding set_policy
  policy may class priority p s =
      let given : Task → Task = λ y. record y { class = class; priority = priority; slice = SLICE } in
      turned t task k there ready may given _ (change-here given k.tasks t ∙ ap (option_map given) there)
      (record {
        cpu = λ no. refl;
        class = λ no. let bad : true ≡ false = sym p ∙ no in cc;
        priority = λ no. let bad : true ≡ false = sym p ∙ no in cc;
        slice = λ no. let bad : true ≡ false = sym s ∙ no in cc;
        mode = λ no. refl;
        deadline = λ no. refl;
        stamp = λ no same. refl;
        state = λ no. ready;
      }) (λ no. refl) (λ no. refl) refl

  attaches_as : (o : Option Class) (priority : ℕ) → Own (changes Attach) t task k (attach_as o t priority k).0
  attaches_as None priority = same t task k there ready (changes Attach)
  attaches_as (Some class) priority = either t task k there ready (changes Attach) (is_attached t k) _ _ (same t task k there ready (changes Attach)) (policy (changes Attach) class priority refl refl)

  attaches : (class priority : ℕ) → Own (changes Attach) t task k (attach_task t class priority k).0
  unfolding attach_task
  attaches class priority = attaches_as (policy_of class priority) priority

  clears : Own (changes Detach) t task k (clear_policy t k)
  unfolding clear_policy
  clears =
      let cleared : Task → Task = λ y. record y { class = Unattached; priority = 0; mode = no_mode } in
      turned t task k there ready (changes Detach) cleared _ (change-here cleared k.tasks t ∙ ap (option_map cleared) there)
      (record { cpu = λ no. refl; class = λ no. cc; priority = λ no. cc; slice = λ no. refl; mode = λ no. cc; deadline = λ no. refl; stamp = λ no same. refl; state = λ no. ready }) (λ no. refl) (λ no. refl) refl

  detaches : Own (changes Detach) t task k (detach t k).0
  unfolding detach
  detaches = either t task k there ready (changes Detach) (not (is_attached t k)) _ _ (same t task k there ready (changes Detach)) (either t task k there ready (changes Detach) (owns_any t k.mutexes) _ _ (same t task k there ready (changes Detach)) clears)

  -- ---- of the out-of-band kernel, and of either t task k there ready
  stalls : (stage : Stage) (stalled : Bool) (c : ℕ) → Own nothing t task k (stall stage stalled c k).0
  unfolding stall
  stalls stage stalled c = alone t task k there ready nothing _ (record { task = refl; hart = refl })

  types : (byte : ℕ) → Own nothing t task k (putc byte k).0
  unfolding putc
  types byte = alone t task k there ready nothing _ (record { task = refl; hart = refl })

  switches_oob : Own nothing t task k (switch_oob k).0
  unfolding switch_oob
  switches_oob = same t task k there ready nothing

  demotes : (c : ℕ) → Own (changes SwitchInBand) t task k (demote c t k)
  unfolding demote restamp set_state
  demotes c =
      let there_now : Task → Task = λ y. record y { state = InReady } in
      let stamped : Task → Task = λ y. record y { stamp = k.stamps } in
      turned t task k there ready (changes SwitchInBand) (λ y. stamped (there_now y)) _ (change-here stamped (change there_now k.tasks t) t ∙ ap (option_map stamped) (change-here there_now k.tasks t ∙ ap (option_map there_now) there))
      (record { cpu = λ no. refl; class = λ no. refl; priority = λ no. refl; slice = λ no. refl; mode = λ no. refl; deadline = λ no. refl; stamp = λ no. cc; state = λ no. refl }) (λ no. cc) (λ no. cc) refl

  switches_in_band : (c : ℕ) → Own (changes SwitchInBand) t task k (switch_in_band c t k).0
  unfolding switch_in_band
  switches_in_band c = either t task k there ready (changes SwitchInBand) (is_stalled OutOfBand c k) _ _ (same t task k there ready (changes SwitchInBand)) (demotes c)

  policy_of_one : (u : ℕ) (class : Class) (priority : ℕ) → Own (changes SetSched) t task k (set_policy u class priority k)
  unfolding set_policy
  policy_of_one u class priority = elim (cases_eq u t) [
    | inl one ↦ rw one (policy (changes SetSched) class priority refl refl)
    | inr other ↦ alone t task k there ready (changes SetSched) _ (record { task = change-elsewhere _ k.tasks u t (λ e. other (sym e)); hart = refl })
  ]

  schedules_as : (o : Option Class) (u priority : ℕ) → Own (changes SetSched) t task k (schedule_as o u priority k).0
  schedules_as None u priority = same t task k there ready (changes SetSched)
  schedules_as (Some class) u priority = policy_of_one u class priority

  sets_sched : (u class priority : ℕ) → Own (changes SetSched) t task k (set_sched u class priority k).0
  unfolding set_sched
  sets_sched u class priority = either t task k there ready (changes SetSched) (is_scheduled_task (slice_get k.tasks u)) _ _ (schedules_as (policy_of class priority) u priority) (same t task k there ready (changes SetSched))

  bits : (mode : ℕ) → Own (changes SetMode) t task k (set_mode_bits t mode k)
  unfolding set_mode_bits
  bits mode =
      let given : Task → Task = λ y. record y { mode = record { bits = mode } } in
      turned t task k there ready (changes SetMode) given _ (change-here given k.tasks t ∙ ap (option_map given) there)
      (record { cpu = λ no. refl; class = λ no. refl; priority = λ no. refl; slice = λ no. refl; mode = λ no. cc; deadline = λ no. refl; stamp = λ no same. refl; state = λ no. ready }) (λ no. refl) (λ no. refl) refl

  sets_mode : (mode : ℕ) → Own (changes SetMode) t task k (set_mode t mode k).0
  unfolding set_mode
  sets_mode mode = either t task k there ready (changes SetMode) (nat_lt MODE_LIMIT mode) _ _ (same t task k there ready (changes SetMode)) (bits mode)

  yields_oob : Own (changes YieldOob) t task k (yield_oob t k).0
  unfolding yield_oob restamp
  yields_oob = one_stamp (changes YieldOob) (restamp t k) refl refl refl

  moves : (d : ℕ) → Own (changes Migrate) t task k (move_task t d k)
  unfolding move_task restamp
  moves d =
      let there_now : Task → Task = moved d (owns_any t k.mutexes) in
      let stamped : Task → Task = λ y. record y { stamp = k.stamps } in
      turned t task k there ready (changes Migrate) (λ y. stamped (there_now y)) _ (change-here stamped (change there_now k.tasks t) t ∙ ap (option_map stamped) (change-here there_now k.tasks t ∙ ap (option_map there_now) there))
      (record { cpu = λ no. cc; class = λ no. refl; priority = λ no. refl; slice = λ no. refl; mode = λ no. refl; deadline = λ no. refl; stamp = λ no. cc; state = λ no. cc }) (λ no. cc) (λ no. cc) refl

  migrates : (c d : ℕ) → Own (changes Migrate) t task k (migrate c t d k).0
  unfolding migrate
  migrates c d =
      either t task k there ready (changes Migrate) (is_none (slice_get k.processors d)) _ _ (same t task k there ready (changes Migrate))
      (either t task k there ready (changes Migrate) (d == c) _ _ (same t task k there ready (changes Migrate))
      (either t task k there ready (changes Migrate) (is_stalled OutOfBand c k) _ _ (same t task k there ready (changes Migrate)) (moves d)))

  tells_clock : Own nothing t task k (clock k).0
  unfolding clock
  tells_clock = same t task k there ready nothing

  tells_bits : (c : ℕ) → Own nothing t task k (state_bits c t k).0
  unfolding state_bits
  tells_bits c = same t task k there ready nothing

  -- ---- each call
  performs : (made : Call) (hart : Hart) (c : ℕ) → Own (changes made) t task k (perform made hart c t k).0
  performs Ends h c = exits c
  performs Putc h c = types (argument 0 h)
  performs Yield h c = yields c
  performs Spawn h c = spawns (argument 0 h) (argument 1 h) (argument 2 h)
  performs Stall h c = stalls InBand true c
  performs Unstall h c = stalls InBand false c
  performs WaitLine h c = waits_line c (argument 0 h)
  performs Attach h c = attaches (argument 0 h) (argument 1 h)
  performs Detach h c = detaches
  performs NewMutex h c = makes t task k there ready (argument 0 h) (argument 1 h)
  performs NewSemaphore h c = sets_up t task k there ready (argument 0 h)
  performs NewEvent h c = adds_an_event t task k there ready
  performs NewFlags h c = adds_flags_group t task k there ready
  performs NewTimer h c = adds_a_timer t task k there ready
  performs SetLine h c = sets_line t task k there ready (argument 0 h) (argument 1 h) (argument 2 h)
  performs SwitchOob h c = switches_oob
  performs SwitchInBand h c = switches_in_band c
  performs SetSched h c = sets_sched (argument 0 h) (argument 1 h) (argument 2 h)
  performs SetMode h c = sets_mode (argument 0 h)
  performs Lock h c = locks t task k there ready c (argument 0 h) (argument 1 h)
  performs TryLock h c = tries t task k there ready (argument 0 h)
  performs Unlock h c = unlocks t task k there ready (argument 0 h)
  performs SemGet h c = gets t task k there ready c (argument 0 h) (argument 1 h)
  performs SemTryGet h c = tries_get t task k there ready (argument 0 h)
  performs SemPut h c = puts t task k there ready (argument 0 h)
  performs EventWait h c = waits_event t task k there ready c (argument 0 h) (argument 1 h) (argument 2 h)
  performs Signal h c = signals t task k there ready (argument 0 h)
  performs Broadcast h c = broadcasts t task k there ready (argument 0 h)
  performs FlagsWait h c = takes_word t task k there ready c (argument 0 h) (argument 1 h)
  performs FlagsPost h c = posts t task k there ready (argument 0 h) (argument 1 h)
  performs SleepUntil h c = sleeps t task k there ready c (argument 0 h)
  performs TimerSet h c = sets_a_timer t task k there ready c (argument 0 h) (argument 1 h) (argument 2 h)
  performs TimerWait h c = awaits_a_timer t task k there ready c (argument 0 h)
  performs YieldOob h c = yields_oob
  performs StallOob h c = stalls OutOfBand true c
  performs UnstallOob h c = stalls OutOfBand false c
  performs Clock h c = tells_clock
  performs StateBits h c = tells_bits c
  performs Migrate h c = migrates c (argument 0 h)

-- ---- the ECALL
record After (may : Fields) (t : ℕ) (task : Task) (hart : Hart) (new : Parts) : Type 0 where
  after : Task
  left : Hart
  there : slice_get new.tasks t ≡ Some after
  has : slice_get new.harts t ≡ Some left
  leaves : Leaves may task after
  answers : OnlyAnswers hart left

oob_is : (state : TaskState) → is_oob_ready state ≡ true → state ≡ OobReady
oob_is OobReady e = refl
oob_is _ e = cc

weak_oob : (o : Option Task) (y : Task) → o ≡ Some y → is_weak_oob o ≡ true → y.state ≡ OobReady
weak_oob None y e h = cc
weak_oob (Some x) y e h = let one : x ≡ y = cc in rw (← one) (oob_is x.state (both (is_oob_ready x.state) (is_weak x.class) h).0)

-- it is at that place of a stage, with a stamp of its own
restaged : (may : Fields) (task x : Task) (state : TaskState) (stamp : ℕ) → is_ready state ≡ true → (may.stamp ≡ false → state ≡ task.state → ⊥) → Leaves may task x → Leaves may task (record x { state = state; stamp = stamp })
restaged may task x state stamp ready other l = record {
  cpu = l.cpu;
  class = l.class;
  priority = l.priority;
  slice = l.slice;
  mode = l.mode;
  deadline = l.deadline;
  stamp = λ no one. absurd (other no one);
  state = λ no. ready;
}

goes_there : (state : TaskState) (t stamp : ℕ) (x : Task) (tasks : List Task) → slice_get tasks t ≡ Some x
    → slice_get (change (λ (y : Task). record y { stamp = stamp }) (change (λ (y : Task). record y { state = state }) tasks t) t) t ≡ Some (record x { state = state; stamp = stamp })
goes_there state t stamp x tasks e =
    let there_now : Task → Task = λ y. record y { state = state } in
    let stamped : Task → Task = λ y. record y { stamp = stamp } in
    change-here stamped (change there_now tasks t) t ∙ ap (option_map stamped) (change-here there_now tasks t ∙ ap (option_map there_now) e)

module _ (c t : ℕ) (task : Task) (hart : Hart) where
  -- it goes in-band, or out-of-band
  goes_in_band : (may : Fields) (x : Parts) → (may.stamp ≡ false → InReady ≡ task.state → ⊥) → After may t task hart x → After may t task hart (demote c t x)
  unfolding demote restamp set_state
  goes_in_band may x other a = record {
    after = record a.after { state = InReady; stamp = x.stamps };
    left = a.left;
    there = goes_there InReady t x.stamps a.after x.tasks a.there;
    has = a.has;
    leaves = restaged may task a.after InReady x.stamps refl other a.leaves;
    answers = a.answers;
  }

  goes_oob : (may : Fields) (x : Parts) → (may.stamp ≡ false → OobReady ≡ task.state → ⊥) → After may t task hart x → After may t task hart (promote c t x)
  unfolding promote restamp set_state leave_in_band
  goes_oob may x other a = record {
    after = record a.after { state = OobReady; stamp = x.stamps };
    left = a.left;
    there = goes_there OobReady t x.stamps a.after x.tasks a.there;
    has = a.has;
    leaves = restaged may task a.after OobReady x.stamps refl other a.leaves;
    answers = a.answers;
  }

  either_after : (may : Fields) (b : Bool) (x y : Parts) → (b ≡ true → After may t task hart x) → (b ≡ false → After may t task hart y) → After may t task hart (if b then x else y)
  either_after may true x y p q = p refl
  either_after may false x y p q = q refl

  first_of : (a b : Bool) → (a && b) ≡ true → a ≡ true
  first_of true b h = refl
  first_of false b h = h

  returns : (may : Fields) (x : Parts) (a : After may t task hart x) → (may.stamp ≡ false → a.after.state ≡ task.state) → After may t task hart (return_weak c t x)
  unfolding return_weak
  returns may x a still =
      either_after may (is_weak_oob (slice_get x.tasks t) && not (owns_any t x.mutexes)) _ x
      (λ e. goes_in_band may x (λ no one.
      let on : a.after.state ≡ OobReady = weak_oob (slice_get x.tasks t) a.after a.there (first_of (is_weak_oob (slice_get x.tasks t)) (not (owns_any t x.mutexes)) e) in
      let bad : InReady ≡ OobReady = one ∙ sym (still no) ∙ on in cc) a) (λ e. a)

  module _ (k : Parts) (there : slice_get k.tasks t ≡ Some task) (ready : is_ready task.state ≡ true) (has : slice_get k.harts t ≡ Some hart) where
    finishes : (may : Fields) (o : Outcome) (x : Parts) → Own may t task k x → (o ≡ Exits) ⊎ (may.stamp ≡ false → may.state ≡ false) → After may t task hart (answered o c t x)
    finishes may (Returns value) x w (inl e) = cc
    finishes may (Returns value) x w (inr quiet) =
        let a : After may t task hart (on_hart t (answer value) x) =
        record { after = w.after; left = answer value hart; there = w.there; has = change-here (answer value) x.harts t ∙ ap (option_map (answer value)) (w.hart hart has); leaves = w.leaves; answers = inr (value, refl) } in
        returns may (on_hart t (answer value) x) a (λ no. w.state (quiet no))
    finishes may Blocks x w quiet = record { after = w.after; left = advance hart; there = w.there; has = change-here advance x.harts t ∙ ap (option_map advance) (w.hart hart has); leaves = w.leaves; answers = inl refl }
    finishes may Exits x w quiet = record { after = w.after; left = hart; there = w.there; has = w.hart hart has; leaves = w.leaves; answers = inl refl }

    refuses : (may : Fields) (e : Errno) → After may t task hart (finish_call c t (refused e k))
    refuses may e =
        let a : After may t task hart (on_hart t (answer (refusal_answer e)) k) =
        record { after = task; left = answer (refusal_answer e) hart; there = there; has = change-here (answer (refusal_answer e)) k.harts t ∙ ap (option_map (answer (refusal_answer e))) has; leaves = leaves_all may task ready; answers = inr (refusal_answer e, refl) } in
        returns may (on_hart t (answer (refusal_answer e)) k) a (λ no. refl)

    itself : (may : Fields) → After may t task hart k
    itself may = record { after = task; left = hart; there = there; has = has; leaves = leaves_all may task ready; answers = inl refl }

    -- a call that answers and may change the state may change the stamp
    quiet : (made : Call) → ((perform made hart c t k).1 ≡ Exits) ⊎ ((changes made).stamp ≡ false → (changes made).state ≡ false)
    unfolding exit
    quiet Ends = inl refl
    quiet WaitLine = inr (λ no. cc)
    quiet SwitchInBand = inr (λ no. cc)
    quiet Lock = inr (λ no. cc)
    quiet SemGet = inr (λ no. cc)
    quiet EventWait = inr (λ no. cc)
    quiet FlagsWait = inr (λ no. cc)
    quiet SleepUntil = inr (λ no. cc)
    quiet TimerWait = inr (λ no. cc)
    quiet Migrate = inr (λ no. cc)
    quiet _ = inr (λ no. refl)

    done : (made : Call) → After (changes made) t task hart (finish_call c t (perform made hart c t k))
    done made = finishes (changes made) (perform made hart c t k).1 (perform made hart c t k).0 (performs t task k there ready made hart c) (quiet made)

    on_oob : (b : Bool) → is_oob (Some t) k.tasks ≡ b → is_oob_ready task.state ≡ b
    on_oob b e = sym (ap is_oob_task there) ∙ e

    not_in_band : is_oob (Some t) k.tasks ≡ true → InReady ≡ task.state → ⊥
    not_in_band e one = let no : false ≡ true = ap is_oob_ready one ∙ on_oob true e in cc

    not_oob : is_oob (Some t) k.tasks ≡ false → OobReady ≡ task.state → ⊥
    not_oob e one = let no : true ≡ false = ap is_oob_ready one ∙ on_oob false e in cc

    asks : (made : Call) → is_oob (Some t) k.tasks ≡ false → After (changes made) t task hart (ask_oob c t k)
    unfolding ask_oob
    asks made e = either_after (changes made) (may_promote c t k) _ _ (λ may. goes_oob (changes made) k (λ no. not_oob e) (itself (changes made))) (λ no. refuses (changes made) NotPermitted)

    noted_after : (may : Fields) (kind : NoticeKind) (x : Parts) → After may t task hart x → After may t task hart (notify kind t x)
    unfolding notify
    noted_after may kind x a =
        either_after may (asks_for kind (slice_get x.tasks t)) _ x (λ e. record { after = a.after; left = a.left; there = a.there; has = a.has; leaves = a.leaves; answers = a.answers }) (λ e. a)

    calls_on : (o : Option Stage) (made : Call) → After (changes made) t task hart (call_on o made hart c t k)
    calls_on None made = done made
    calls_on (Some InBand) made =
        either_after (changes made) (is_oob (Some t) k.tasks) _ _ (λ e. noted_after (changes made) DemotedByCall (demote c t k) (goes_in_band (changes made) k (λ no. not_in_band e) (itself (changes made)))) (λ e. done made)
    calls_on (Some OutOfBand) made = either_after (changes made) (is_oob (Some t) k.tasks) _ _ (λ e. done made) (λ e. asks made e)

    known : (o : Option Call) → After (may_change o) t task hart (call_known o hart c t k)
    known None = refuses nothing NoSuchCall
    known (Some made) = calls_on (call_stage made) made

    -- a call that the profile lacks may change no more than it would
    offered_if : (b : Bool) → After (changes Migrate) t task hart (call_known (if b then None else Some Migrate) hart c t k)
    offered_if true = refuses (changes Migrate) NoSuchCall
    offered_if false = calls_on (call_stage Migrate) Migrate

    offers : (o : Option Call) → After (may_change o) t task hart (call_known (offered k.profile o) hart c t k)
    offers None = known None
    offers (Some Migrate) = offered_if (nat_lt k.profile.version MIGRATION_PROFILE)
    offers (Some made) = known (Some made)

    called : After (may_change (call_of (register_of hart.regs A7))) t task hart (call c t k)
    unfolding call
    called = rw has (offers (call_of (register_of hart.regs A7)))

pub callers_leave : CallsLeave
callers_leave c t k task hart there ready has =
    let a : After (may_change (call_of (register_of hart.regs A7))) t task hart (call c t k) = called c t task hart k there ready has in
    record { after = a.after; left = a.left; there = a.there; has = a.has; leaves = a.leaves; answers = a.answers }
