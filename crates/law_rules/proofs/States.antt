-- Every event keeps the whole machine good, and it begins so.
use Rattle.std.proofs.Common.{◌≡◌, ℕ, zero, suc, ◌+◌, ◌*◌, ◌<◌, ◌≤◌, ◌%◌, List, [], ◌∷◌, ◌++◌, Bool, true, false, cond, Option, Some, None, length, refl, ap, sym, ◌∙◌, inl, inr, arith, leb-false, length-append}
use Rattle.std.specs.Prelude.{slice_get, slice_set, replicate, count_by, nat_lt, ◌==◌, if◌then◌else◌, Result, Ok, Err, ◌^◌}
use Rattle.std.proofs.lemmas.List.Sums.{sum_by-append, count_by-le-length}
use Rattle.std.proofs.lemmas.List.{length-set, length-replicate}
use Rattle.std.proofs.lemmas.Bool.Decides.{nat_tests}
use Rattle.evm_dev.specs.Rows.{ticked}
use Rattle.evm_ram.specs.declared.ram.TheConstants.{BASE}
use Rattle.evm_model.specs.declared.refusal.Refusal.{Refusal}
use Rattle.evm_model.specs.declared.refusal.Refusal.TheVariants.{Full}
use Rattle.evm_exec.specs.declared.hart.Hart.{Hart}
use Rattle.evm_lines.specs.declared.TheConstants.{LINES}
use Rattle.evm_model.specs.Actions.{action_or_nothing}
use Rattle.evm_model.specs.Bounds.{COUNT_LIMIT, PER_EVENT, STAMPS_PER_EVENT, PipesUpTo, HeldUpTo}
use Rattle.evm_model.specs.Commands.{tick, set_bits, on_number, set_breakpoint, unset_breakpoint}
use Rattle.evm_model.specs.Devices.{Attached, line_if, raise_line, raise_by_ticks, tick_devices}
use Rattle.evm_model.specs.Good.{Good, GoodState, AreActions, AreDevices, AreNotices, AreEvents, AreFlags, AreLocks, AreSemaphores, AreTimers, IsOneOf, IsSettled, event_at, is_tick}
use Rattle.evm_model.specs.Harts.{set_register, set_pc, first_hart}
use Rattle.evm_model.specs.Instructions.{stop}
use Rattle.evm_model.specs.Load.{bytes_from, load_board, start_loaded}
use Rattle.evm_model.specs.Pipes.{Pipe, idle_pipe}
use Rattle.evm_model.specs.Mutexes.{lock_at, owner_for}
use Rattle.evm_model.specs.Ranks.{best, is_in_ready}
use Rattle.evm_model.specs.Refusals.{board_refusal, is_full}
use Rattle.evm_model.specs.Replay.{accept, apply, bad_boot, bad_profile, bad_watchdog, bad_cpus, bad_ram, bad_capacity, left_by, replay, start}
use Rattle.evm_model.specs.Rows.{row}
use Rattle.evm_model.specs.Settle.{current, is_oob}
use Rattle.evm_model.specs.State.{State, Parts, Board, booted, booted_parts, first_processor, first_task, profile_of}
use Rattle.evm_model.specs.Watch.{or_zero}
use Rattle.evm_model.specs.declared.action.Action.{Action}
use Rattle.evm_model.specs.declared.action.Action.TheVariants.{Nothing, Puts, Posts}
use Rattle.evm_model.specs.declared.boot.Boot.{Boot}
use Rattle.evm_model.specs.declared.event.Answer.{Answer}
use Rattle.evm_model.specs.Event.{Event}
use Rattle.evm_model.specs.declared.event.Event.TheVariants.{Step, Tick, Raise, Bell, Stop, Go, StepI, SetReg, SetPc, Poke, Break, Unbreak}
use Rattle.evm_model.specs.declared.limits.TheConstants.{DEVICE_LIMIT, PROCESSOR_LIMIT, CAPACITY_LIMIT, EVENT_LIMIT, TIMER_LIMIT}
use Rattle.evm_model.specs.declared.processor.Processor.{Processor}
use Rattle.evm_model.proofs.Lists.{slice_get-below, slice_get-replicate, slice_get-slice_set, slice_get-within}
use Rattle.law_rules.proofs.Counted.{walk_counted}
use Rattle.law_rules.proofs.Amounts.{walk_amounts, walk_flags, walk_timers, walk_few_events, walk_actions}
use Rattle.law_rules.proofs.Held.{held_more, walk_holds}
use Rattle.law_rules.proofs.NoticeWalks.{walk_notes}
use Rattle.law_rules.proofs.RowWalks.{MOVES, acting, row_walks}
use Rattle.law_rules.specs.Raising.{may_raise}
use Rattle.law_rules.proofs.Sizes.{walk_sizes, walk_most, walk_profile, walk_ticks}
use Rattle.law_rules.proofs.Walk.{Actor, AreFew, IsCalm, Walk}
use Rattle.law_rules.proofs.Bounded.{AreWithin, within-idle}
use Rattle.law_rules.proofs.Counting.{PipesUpTo-more}
use Rattle.law_rules.proofs.Firsts.{best-is_oob, own-in_band}
use Rattle.law_rules.proofs.Keeps.{row-good, hart-good}
use Rattle.law_rules.proofs.Notices.{notices-more}
use Rattle.law_rules.proofs.Ram.{row-ram}
use Rattle.law_rules.proofs.Replays.{accepted}
use Rattle.law_rules.proofs.Shapes.{positive}
use Rattle.law_rules.proofs.Sets.{IsPipe-idle}

-- ---- the clock
one_if : Bool → ℕ
one_if b = cond b 1 0

number-ticks : (o : Option ℕ) (f : Hart → Hart) (k : Parts) → (on_number o f k).ticks ≡ k.ticks + 0
number-ticks None f k = omega arith
number-ticks (Some t) f k = omega arith

walked-ticks : (event : Event) (b : Board) → length b.memory.devices ≤ DEVICE_LIMIT → board_refusal event b ≡ None → may_raise event b 0 0 ≡ false → (row event b).0.parts.ticks ≡ b.parts.ticks + 0
walked-ticks event b few e may =
    let same : (row event b).0.parts.ticks ≡ b.parts.ticks = walk_ticks (acting event b) b.parts MOVES STAMPS_PER_EVENT (row event b).0.parts may (row_walks event b few e) in omega arith

line-clock : (o : Option ℕ) (k : Parts) → (raise_line o k).ticks ≡ k.ticks
line-clock None k = refl
line-clock (Some l) k = refl

ticked-clock : (i : ℕ) (devices : List Attached) (k : Parts) → (raise_by_ticks i devices k).ticks ≡ k.ticks
unfolding raise_by_ticks
ticked-clock i [] k = refl
ticked-clock i (device ∷ devices) k = ticked-clock (suc i) devices _ ∙ line-clock (line_if (ticked device.kind device.words).raise i) k

row-ticks : (event : Event) (b : Board) → length b.memory.devices ≤ DEVICE_LIMIT → board_refusal event b ≡ None → (row event b).0.parts.ticks ≡ b.parts.ticks + cond (is_tick event) 1 0
unfolding row tick tick_devices set_bits stop set_breakpoint unset_breakpoint
row-ticks (Step c) b few e = walked-ticks (Step c) b few e refl
row-ticks Tick b few e = ap (λ n. n + 1) (ticked-clock 0 b.memory.devices b.parts)
row-ticks (Raise c l) b few e = omega arith
row-ticks (Bell c l) b few e = omega arith
row-ticks (Stop c) b few e = omega arith
row-ticks (Go c) b few e = omega arith
row-ticks (StepI c) b few e = walked-ticks (StepI c) b few e refl
row-ticks (SetReg c r value) b few e = number-ticks (current c b.parts) (set_register r value) b.parts
row-ticks (SetPc c pc) b few e = number-ticks (current c b.parts) (set_pc pc) b.parts
row-ticks (Poke address bytes) b few e = omega arith
row-ticks (Break address) b few e = omega arith
row-ticks (Unbreak address) b few e = omega arith

one-more : (b : Bool) → 0 + cond b 1 0 ≡ cond b 1 0
one-more true = refl
one-more false = refl

counted-tick : (events : List Event) (event : Event) → count_by is_tick (events ++ event ∷ []) ≡ count_by is_tick events + cond (is_tick event) 1 0
counted-tick events event =
    let split : count_by is_tick (events ++ event ∷ []) ≡ count_by is_tick events + (0 + cond (is_tick event) 1 0) = sum_by-append (λ (e : Event). cond (is_tick e) 1 0) events (event ∷ []) in
    let last : count_by is_tick events + (0 + cond (is_tick event) 1 0) ≡ count_by is_tick events + cond (is_tick event) 1 0 = ap (λ n. count_by is_tick events + n) (one-more (is_tick event)) in
    split ∙ last

-- ---- an event
allowed : (s : State) (event : Event) (full : Bool) → (if full then Some Full else board_refusal event s.board) ≡ None → (full ≡ false) × (board_refusal event s.board ≡ None)
allowed s event true e = cc
allowed s event false e = (refl, e)

pub few-of : (k : Parts) → Good k → length k.timers ≤ TIMER_LIMIT → AreFew k
few-of k g timers = record { pipes = record { each = g.pipes }; tasks = g.few_tasks; mutexes = g.locks.few; timers = timers }

-- whatever the processor, or where there is none
pub calm-of : (c : ℕ) (k : Parts) → Good k → IsCalm c k
calm-of c k g = record {
  are = record { each = g.pipes };
  played = λ pipe e free.
      let p = slice_get-within k.processors c (omega (arith, g.pipes_count, slice_get-below k.pipes c pipe e)) in
      (g.settled c pipe p.0 e p.1).oob_played free;
}

pub accepted-good : (s : State) (event : Event) → is_full s ≡ false → board_refusal event s.board ≡ None → GoodState s → GoodState (accept event (row event s.board) s).0
accepted-good s event f e g =
    let k : Parts = s.board.parts in
    let new : Parts = (row event s.board).0.parts in
    let a : Actor = acting event s.board in
    let kept = row-ram event s.board in
    let few : AreFew k = few-of k g.good g.timers.few in
    let w : Walk a k MOVES STAMPS_PER_EVENT new = row_walks event s.board g.devices.few e in
    let size = walk_sizes a k MOVES STAMPS_PER_EVENT new w in
    let room : length s.journal < s.boot.capacity = leb-false s.boot.capacity (length s.journal) f in
    let grown : length (s.journal ++ event ∷ []) ≡ length s.journal + 1 = length-append s.journal (event ∷ []) in
    let before : ℕ = PER_EVENT * length s.journal in
    let after : ℕ = PER_EVENT * length (s.journal ++ event ∷ []) in
    record {
      good = row-good event s.board e g.good;
      boot = g.boot;
      processors = size.processors ∙ g.processors;
      ram = kept.ram ∙ g.ram;
      profile = walk_profile a k MOVES STAMPS_PER_EVENT new w ∙ g.profile;
      journal = omega arith;
      ticks = row-ticks event s.board g.devices.few e ∙ ap (λ n. n + cond (is_tick event) 1 0) g.ticks ∙ sym (counted-tick s.journal event);
      stamps = omega (arith, walk_most a k MOVES STAMPS_PER_EVENT new few w, g.stamps, grown);
      counts = PipesUpTo-more (before + MOVES) after new.pipes (omega arith) (walk_counted a k MOVES STAMPS_PER_EVENT before new w few.pipes g.counts);
      semaphores = walk_amounts a k MOVES STAMPS_PER_EVENT new w g.semaphores;
      flags = walk_flags a k few.pipes MOVES STAMPS_PER_EVENT new w g.flags;
      timers = walk_timers a k MOVES STAMPS_PER_EVENT new w g.timers;
      few_events = walk_few_events a k MOVES STAMPS_PER_EVENT new w g.few_events;
      actions = walk_actions a k MOVES STAMPS_PER_EVENT new w g.actions;
      holds = held_more (before + 1 + MOVES) after new.mutexes (omega arith)
          (walk_holds a k MOVES STAMPS_PER_EVENT new (before + 1) few.pipes (omega arith) w (held_more before (before + 1) k.mutexes (omega arith) g.holds));
      notices = rw grown (notices-more a k (length s.journal) new.notices (walk_notes a k (λ chooses. calm-of a.cpu k g.good) MOVES STAMPS_PER_EVENT new w) g.notices);
      devices = kept.devices g.devices;
    }

-- an event that is not refused keeps the machine good
pub GoodState-apply : (s new : State) (event : Event) (answer : Answer) → GoodState s → apply s event ≡ Ok (new, answer) → GoodState new
GoodState-apply s new event answer g e =
    let it = accepted s new event answer e in
    let may = allowed s event (is_full s) it.0 in
    let is : new ≡ (accept event (row event s.board) s).0 = ap (λ (x : State × Answer). x.0) it.1 in
    rw is (accepted-good s event may.0 may.1 g)

-- the same, of what a body made
pub good_accepted : (s : State) (event : Event) (after : Board × Answer) → after ≡ row event s.board → is_full s ≡ false → board_refusal event s.board ≡ None → GoodState s
    → GoodState (record s { journal = s.journal ++ event ∷ []; board = after.0 })
good_accepted s event after e f h g = let is : after.0 ≡ (row event s.board).0 = ap (λ (x : Board × Answer). x.0) e in rw is (accepted-good s event f h g)

-- whatever its outcome
GoodState-outcome : (s : State) (event : Event) (r : Result (State × Answer) Refusal) → apply s event ≡ r → GoodState s → GoodState (left_by r s)
GoodState-outcome s event (Ok after) e g = GoodState-apply s after.0 event after.1 g e
GoodState-outcome s event (Err refusal) e g = g

-- after every list of events
pub GoodState-replay : (s : State) (events : List Event) → GoodState s → GoodState (replay s events)
unfolding replay
GoodState-replay s [] g = g
GoodState-replay s (event ∷ events) g = GoodState-replay (left_by (apply s event) s) events (GoodState-outcome s event (apply s event) refl g)

-- ---- at boot
if_false : (a b : Bool) → (if a then true else b) ≡ false → (a ≡ false) × (b ≡ false)
if_false true b e = cc
if_false false b e = (refl, e)

nonzero : (n : ℕ) → (n == 0) ≡ false → 0 < n
nonzero n e = grind (arith, nat_tests)

within : (n m : ℕ) → nat_lt m n ≡ false → n ≤ m
within n m e = grind (arith, nat_tests)

some_cpus : (n : ℕ) → bad_cpus n ≡ false → (0 < n) × (n ≤ PROCESSOR_LIMIT)
some_cpus n e = let both = if_false (n == 0) (nat_lt PROCESSOR_LIMIT n) e in (nonzero n both.0, within n PROCESSOR_LIMIT both.1)

no_oob : (t : ℕ) → is_oob (Some t) (first_task ∷ []) ≡ false
no_oob zero = refl
no_oob (suc t) = refl

no_best : (c t : ℕ) → best c [] (first_task ∷ []) ≡ Some t → ⊥
no_best c t e = let no : true ≡ false = sym (best-is_oob c t [] (first_task ∷ []) e) ∙ no_oob t in cc

first_own : (t : ℕ) → Some 0 ≡ Some t → IsOneOf is_in_ready 0 t (first_task ∷ [])
first_own zero e = record { task = first_task; there = refl; at_home = refl; ready = refl }
first_own (suc t) e = cc

settled-first : (pipe : Pipe) → pipe ≡ idle_pipe → IsSettled 0 pipe (first_processor (Some 0)) [] (first_task ∷ [])
settled-first pipe e = rw e (record {
  current_own = λ t h. own-in_band 0 t (first_task ∷ []) (first_own t h);
  in_band_own = first_own;
  runs_best = λ u v t b. absurd (no_best 0 t b);
  runs_in_band = λ n. refl;
  oob_played = λ u. refl;
  in_band_played = λ u n. refl;
  oob_staller = λ u. cc;
  in_band_staller = λ u n. cc;
})

settled-idle : (c : ℕ) (pipe : Pipe) → pipe ≡ idle_pipe → IsSettled c pipe (first_processor None) [] (first_task ∷ [])
settled-idle c pipe e = rw e (record {
  current_own = λ t h. cc;
  in_band_own = λ t h. cc;
  runs_best = λ u v t b. absurd (no_best c t b);
  runs_in_band = λ n. refl;
  oob_played = λ u. refl;
  in_band_played = λ u n. refl;
  oob_staller = λ u. cc;
  in_band_staller = λ u n. cc;
})

settled-booted : (cpus c : ℕ) (pipe : Pipe) (p : Processor) → slice_get (replicate cpus idle_pipe) c ≡ Some pipe
    → slice_get (slice_set (replicate cpus (first_processor None)) 0 (first_processor (Some 0))) c ≡ Some p → IsSettled c pipe p [] (first_task ∷ [])
settled-booted cpus c pipe p e f =
    let idle : pipe ≡ idle_pipe = slice_get-replicate cpus idle_pipe c pipe e in
    elim (slice_get-slice_set (replicate cpus (first_processor None)) 0 c (first_processor (Some 0)) p f) [
      | inl w ↦ rw (w.0, w.1) (settled-first pipe idle)
      | inr w ↦ rw (slice_get-replicate cpus (first_processor None) c p w.1) (settled-idle c pipe idle)
    ]

one-there : {X : Type 0} (x z : X) (t : ℕ) → slice_get (x ∷ []) t ≡ Some z → (t ≡ 0) × (z ≡ x)
one-there x z zero e = (refl, cc)
one-there x z (suc t) e = cc

no-event : (t : ℕ) → event_at (first_task ∷ []) t ≡ None
no-event zero = refl
no-event (suc t) = refl

-- there is no event
first-events : AreEvents [] [] (first_task ∷ [])
first-events = record {
  bound = λ t e w. let no : None ≡ Some e = sym (no-event t) ∙ w in cc;
  idle = λ t e m w o. let no : None ≡ Some e = sym (no-event t) ∙ w in cc;
}

no-lock : (u : ℕ) → lock_at (first_task ∷ []) u ≡ None
no-lock zero = refl
no-lock (suc u) = refl

-- there is no mutex
first-locks : AreLocks [] (first_task ∷ [])
first-locks = record {
  owners = λ m t e. cc;
  waited = λ u m e none. let no : None ≡ Some m = sym (no-lock u) ∙ e in cc;
  chains = record { height = λ t. 0; low = λ t. omega arith; falls = λ u t e. let no : None ≡ Some t = ap (owner_for []) (sym (no-lock u)) ∙ e in cc };
  few = omega arith;
}

-- each number of a boot is tested
pub boot-tests : (boot : Boot) → bad_boot boot ≡ false → (bad_cpus boot.cpus ≡ false) × (bad_ram boot.ram ≡ false) × (bad_capacity boot.capacity ≡ false)
boot-tests boot e =
    let profile = if_false (bad_profile boot.profile) _ e in
    let watchdog = if_false (bad_watchdog boot.profile boot.watchdog) _ profile.1 in
    let cpus = if_false (bad_cpus boot.cpus) _ watchdog.1 in
    let ram = if_false (bad_ram boot.ram) (bad_capacity boot.capacity) cpus.1 in
    (cpus.0, ram.0, ram.1)

-- nothing has been counted
unwatched : (cpus c : ℕ) → or_zero (slice_get (replicate cpus 0) c) ≡ 0
unwatched cpus c = none (slice_get (replicate cpus 0) c) refl
  where
    none : (o : Option ℕ) → slice_get (replicate cpus 0) c ≡ o → or_zero o ≡ 0
    none None e = refl
    none (Some n) e = slice_get-replicate cpus 0 c n e

pub booted-good : (boot : Boot) → bad_boot boot ≡ false → Good (booted_parts boot)
unfolding booted_parts
booted-good boot e =
    let cpus = some_cpus boot.cpus (boot-tests boot e).0 in
    let processors : length (slice_set (replicate boot.cpus (first_processor None)) 0 (first_processor (Some 0))) ≡ boot.cpus =
    length-set (replicate boot.cpus (first_processor None)) 0 (first_processor (Some 0)) ∙ length-replicate boot.cpus (first_processor None) in
    record {
      pipes = λ c p f. rw (slice_get-replicate boot.cpus idle_pipe c p f) IsPipe-idle;
      settled = λ c pipe p f h. settled-booted boot.cpus c pipe p f h;
      watched = λ c. record {
        off = λ e. unwatched boot.cpus c;
        away = λ e. unwatched boot.cpus c;
        below = λ e. rw (unwatched boot.cpus c) (positive boot.watchdog e);
      };
      aligned = λ t hart f. rw (one-there (first_hart boot.ram) hart t f).1 refl;
      homes = λ t task f. rw ((one-there first_task task t f).1, processors) cpus.0;
      stamps_below = λ t task f. rw (one-there first_task task t f).1 (omega arith);
      stamps_differ = λ t u a b f h same. (one-there first_task a t f).0 ∙ sym (one-there first_task b u h).0;
      harts_count = refl;
      pipes_count = length-replicate boot.cpus idle_pipe ∙ sym processors;
      watches_count = length-replicate boot.cpus 0 ∙ sym processors;
      few_tasks = omega arith;
      few_processors = rw processors cpus.1;
      locks = first-locks;
      events = first-events;
      deadlines = λ t task f w. rw (one-there first_task task t f).1 refl;
    }

booted-counts : (boot : Boot) → PipesUpTo 0 (booted_parts boot).pipes
unfolding booted_parts
booted-counts boot = (within-idle boot.cpus (booted_parts boot) refl).up

booted-holds : (boot : Boot) → HeldUpTo 0 (booted_parts boot).mutexes
unfolding booted_parts
booted-holds boot = record { count = λ m mutex e. cc }

booted-semaphores : (boot : Boot) → AreSemaphores (booted_parts boot).semaphores
unfolding booted_parts
booted-semaphores boot = record { few = omega arith; bounded = λ s n e. cc }

booted-flags : (boot : Boot) → AreFlags (booted_parts boot).flags
unfolding booted_parts
booted-flags boot = record { few = omega arith; bounded = λ s n e. cc }

booted-timers : (boot : Boot) → AreTimers (booted_parts boot).ticks (booted_parts boot).timers
unfolding booted_parts
booted-timers boot = record { few = omega arith; each = λ n timer e. cc }

booted-events : (boot : Boot) → length (booted_parts boot).events ≤ EVENT_LIMIT
unfolding booted_parts
booted-events boot = omega arith

no_action : (l : ℕ) (o : Option Action) → slice_get (replicate LINES Nothing) l ≡ o → action_or_nothing o ≡ Nothing
no_action l None e = refl
no_action l (Some action) e = slice_get-replicate LINES Nothing l action e

booted-actions : (boot : Boot) → AreActions (booted_parts boot).actions (booted_parts boot).semaphores (booted_parts boot).flags
unfolding booted_parts
booted-actions boot = record {
  count = length-replicate LINES Nothing;
  fixed = λ l less. no_action l (slice_get (replicate LINES Nothing) l) refl;
  puts = λ l s e. let no : Nothing ≡ Puts s = sym (no_action l (slice_get (replicate LINES Nothing) l) refl) ∙ e in cc;
  posts = λ l f e. let no : Nothing ≡ Posts f = sym (no_action l (slice_get (replicate LINES Nothing) l) refl) ∙ e in cc;
}

booted-processors : (boot : Boot) → length (booted_parts boot).processors ≡ boot.cpus
unfolding booted_parts
booted-processors boot = length-set (replicate boot.cpus (first_processor None)) 0 (first_processor (Some 0)) ∙ length-replicate boot.cpus (first_processor None)

booted-ticks : (boot : Boot) → (booted_parts boot).ticks ≡ 0
unfolding booted_parts
booted-ticks boot = refl

booted-profile : (boot : Boot) → (booted_parts boot).profile ≡ profile_of boot
unfolding booted_parts
booted-profile boot = refl

booted-stamps : (boot : Boot) → (booted_parts boot).stamps ≤ 1
unfolding booted_parts
booted-stamps boot = omega arith

booted-notices : (boot : Boot) → AreNotices 0 (booted_parts boot).notices
unfolding booted_parts
booted-notices boot = record { kept = omega arith; total = omega arith }

-- a machine that has had no event is good, whichever its devices
pub GoodState-start : (devices : List Attached) (boot : Boot) → AreDevices devices → bad_boot boot ≡ false → GoodState (start devices boot)
unfolding booted
GoodState-start devices boot are e = record {
  good = booted-good boot e;
  boot = e;
  processors = booted-processors boot;
  ram = length-replicate boot.ram 0;
  profile = booted-profile boot;
  journal = omega arith;
  ticks = booted-ticks boot;
  stamps = booted-stamps boot;
  counts = booted-counts boot;
  semaphores = booted-semaphores boot;
  flags = booted-flags boot;
  timers = booted-timers boot;
  few_events = booted-events boot;
  actions = booted-actions boot;
  holds = booted-holds boot;
  notices = booted-notices boot;
  devices = are;
}

length-bytes_from : (byte : ℕ → ℕ) (address n : ℕ) → length (bytes_from byte address n) ≡ n
unfolding bytes_from
length-bytes_from byte address zero = refl
length-bytes_from byte address (suc n) = ap suc (length-bytes_from byte (address + 1) n)

-- and so is one into which an image was loaded, whose entry is a multiple of 4
pub GoodState-load : (byte : ℕ → ℕ) (entry : ℕ) (s : State) → entry % 4 ≡ 0 → GoodState s → GoodState (record s { board = load_board byte entry s.board })
unfolding load_board
GoodState-load byte entry s e g = record {
  good = hart-good 0 (set_pc entry) s.board.parts (λ hart h. e) g.good;
  boot = g.boot;
  processors = g.processors;
  ram = length-bytes_from byte BASE (length s.board.memory.ram) ∙ g.ram;
  profile = g.profile;
  journal = g.journal;
  ticks = g.ticks;
  stamps = g.stamps;
  counts = g.counts;
  semaphores = g.semaphores;
  flags = g.flags;
  timers = g.timers;
  few_events = g.few_events;
  actions = g.actions;
  holds = g.holds;
  notices = g.notices;
  devices = g.devices;
}

pub GoodState-loaded : (devices : List Attached) (byte : ℕ → ℕ) (entry : ℕ) (boot : Boot) → AreDevices devices → bad_boot boot ≡ false → entry % 4 ≡ 0 → GoodState (start_loaded devices byte entry boot)
GoodState-loaded devices byte entry boot are b e = GoodState-load byte entry (start devices boot) e (GoodState-start devices boot are b)

-- ---- the room that is left
some_capacity : (n : ℕ) → bad_capacity n ≡ false → n ≤ CAPACITY_LIMIT
some_capacity n e = within n CAPACITY_LIMIT (if_false (n == 0) (nat_lt CAPACITY_LIMIT n) e).1

pub few_events : (s : State) → GoodState s → length s.journal ≤ CAPACITY_LIMIT
few_events s g =
    let limit : s.boot.capacity ≤ CAPACITY_LIMIT = some_capacity s.boot.capacity (boot-tests s.boot g.boot).2 in
    let j : length s.journal ≤ s.boot.capacity = g.journal in
    omega arith

-- counts are at most 2 ^ 28
pub counts_room : (s : State) → GoodState s → AreWithin (2 ^ 28) s.board.parts
counts_room s g = let few : length s.journal ≤ CAPACITY_LIMIT = few_events s g in
    record { are = g.good.pipes; up = PipesUpTo-more (PER_EVENT * length s.journal) (2 ^ 28) s.board.parts.pipes (omega arith) g.counts }

-- a mutex can be locked once more
pub holds_room : (s : State) → GoodState s → HeldUpTo COUNT_LIMIT s.board.parts.mutexes
holds_room s g = let few : length s.journal ≤ CAPACITY_LIMIT = few_events s g in
    record { count = λ m mutex e. let some = g.holds.count m mutex e in omega (arith, some, few) }

-- there can be more notices
pub notices_room : (s : State) → GoodState s → s.board.parts.notices.total + STAMPS_PER_EVENT ≤ COUNT_LIMIT
notices_room s g = let few : length s.journal ≤ CAPACITY_LIMIT = few_events s g in omega (arith, g.notices.total, few)

-- stamps are at most 2 ^ 35
pub stamps_room : (s : State) → GoodState s → s.board.parts.stamps ≤ 2 ^ 35
stamps_room s g = let few : length s.journal ≤ CAPACITY_LIMIT = few_events s g in omega (arith, g.stamps)

-- ticks are at most 2 ^ 20
pub ticks_room : (s : State) → GoodState s → s.board.parts.ticks ≤ CAPACITY_LIMIT
ticks_room s g = let few : length s.journal ≤ CAPACITY_LIMIT = few_events s g in
    let some : count_by is_tick s.journal ≤ length s.journal = count_by-le-length is_tick s.journal in
    let same : s.board.parts.ticks ≡ count_by is_tick s.journal = g.ticks in
    rw same (omega arith)
