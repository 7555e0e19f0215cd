-- Room for counts, as a row takes it up.
use Rattle.std.proofs.Common.{ℕ, ◌+◌, ◌-◌, ◌≤◌, Bool, true, false, Some, refl, arith}
use Rattle.evm_lines.specs.declared.TheConstants.{LINES}
use Rattle.evm_model.specs.Bounds.{COUNT_LIMIT, PER_CALL, PER_SETTLING, STAMPS_PER_EVENT, HasRoom, HasStamps, PipesUpTo}
use Rattle.evm_model.specs.Calls.{call}
use Rattle.evm_model.specs.Commands.{set_bits}
use Rattle.evm_model.specs.Good.{Good}
use Rattle.evm_model.specs.Instructions.{fault}
use Rattle.evm_model.specs.Actions.{action_at, receive_line}
use Rattle.evm_model.specs.Pipes.{stage_of}
use Rattle.evm_model.specs.State.{Parts}
use Rattle.evm_model.specs.Tasks.{demote, restamp, set_state}
use Rattle.evm_model.specs.declared.fault.Fault.{Fault}
use Rattle.evm_model.specs.declared.limits.TheConstants.{PROCESSOR_LIMIT}
use Rattle.law_rules.proofs.Calls.{walks_call}
use Rattle.law_rules.proofs.Counted.{walk_counted}
use Rattle.law_rules.proofs.NoticeWalks.{one_more, walk_notes}
use Rattle.law_rules.proofs.RowWalks.{faults}
use Rattle.law_rules.proofs.Sets.{walk_pipes}
use Rattle.law_rules.proofs.Sizes.{walk_most, walk_ticks}
use Rattle.law_rules.proofs.Walk.{Actor, ArePipes as AllPipes, AreFew, Walk, start, unchanged}
use Rattle.law_rules.proofs.Bounded.{EachIsPipe, AreWithin, within-more, within-receive}
use Rattle.law_rules.proofs.Counted.{PipesUpTo-more}

-- task t acts on processor c: it raises and chooses nothing
abbrev acts : ℕ → ℕ → Actor
acts c t = record { cpu = c; task = Some t; may = λ d l. false; chooses = false; calls = true; faults = true }

-- a walk that counts so much
within-walk : (a : Actor) (n s b : ℕ) (k new : Parts) → Walk a k n s new → AreWithin b k → AreWithin (b + n) new
within-walk a n s b k new v w =
    let are : AllPipes k = record { each = w.are } in
    record { are = (walk_pipes a k n s new v are).each; up = walk_counted a k n s b new v are w.up }

-- a fault before its processor settles
walks-fault : (c t : ℕ) (f : Fault) (k : Parts) → Walk (acts c t) k 0 32 (fault c t f k)
walks-fault c t f k = faults (acts c t) k k t refl (unchanged k) start refl f

pub room-fault : (c t : ℕ) (f : Fault) (k : Parts) → AreFew k → HasRoom STAMPS_PER_EVENT k → AreWithin (COUNT_LIMIT - PER_SETTLING) (fault c t f k)
room-fault c t f k few h =
    let w : AreWithin (COUNT_LIMIT - STAMPS_PER_EVENT) k = record { are = few.pipes.each; up = h.counts } in
    within-more (COUNT_LIMIT - STAMPS_PER_EVENT + 0) (COUNT_LIMIT - PER_SETTLING) _ (omega arith) (within-walk (acts c t) 0 32 (COUNT_LIMIT - STAMPS_PER_EVENT) k _ (walks-fault c t f k) w)

pub stamps-fault : (c t : ℕ) (f : Fault) (k : Parts) → AreFew k → HasRoom STAMPS_PER_EVENT k → HasStamps PER_SETTLING (fault c t f k)
stamps-fault c t f k few h = omega (arith, h.stamps, walk_most (acts c t) k 0 32 _ few (walks-fault c t f k))

pub stamps-faulting : (k : Parts) → HasRoom STAMPS_PER_EVENT k → HasStamps PER_CALL k
stamps-faulting k h = omega (arith, h.stamps)

-- a call before its processor settles
walks : (c t : ℕ) (k : Parts) → Walk (acts c t) k 1 PER_CALL (call c t k)
walks c t k = walks_call (acts c t) k k t refl (unchanged k) start refl

pub room-call : (c t : ℕ) (k : Parts) → AreFew k → HasRoom STAMPS_PER_EVENT k → AreWithin (COUNT_LIMIT - PER_SETTLING) (call c t k)
room-call c t k few h =
    let w : AreWithin (COUNT_LIMIT - STAMPS_PER_EVENT) k = record { are = few.pipes.each; up = h.counts } in
    within-more (COUNT_LIMIT - STAMPS_PER_EVENT + 1) (COUNT_LIMIT - PER_SETTLING) _ (omega arith) (within-walk (acts c t) 1 PER_CALL (COUNT_LIMIT - STAMPS_PER_EVENT) k _ (walks c t k) w)

pub stamps-call : (c t : ℕ) (k : Parts) → AreFew k → HasRoom STAMPS_PER_EVENT k → HasStamps PER_SETTLING (call c t k)
stamps-call c t k few h = omega (arith, h.stamps, walk_most (acts c t) k 1 PER_CALL _ few (walks c t k))

-- .. and before it
pub room-asked : (k : Parts) → HasRoom STAMPS_PER_EVENT k → HasRoom PER_CALL k
room-asked k h = record {
  stamps = omega (arith, h.stamps);
  counts = PipesUpTo-more (COUNT_LIMIT - STAMPS_PER_EVENT) (COUNT_LIMIT - PER_CALL) k.pipes (omega arith) h.counts;
  holds = h.holds;
  clock = h.clock;
  timers = h.timers;
  notices = omega (arith, h.notices);
  harts = h.harts;
}

-- the clock stands still
clock-walk : (c t n s : ℕ) (k new : Parts) → Walk (acts c t) k n s new → k.ticks ≤ COUNT_LIMIT → new.ticks ≤ COUNT_LIMIT
clock-walk c t n s k new w h = rw (walk_ticks (acts c t) k n s new refl w) h

pub clock-fault : (c t : ℕ) (f : Fault) (k : Parts) → HasRoom STAMPS_PER_EVENT k → (fault c t f k).ticks ≤ COUNT_LIMIT
clock-fault c t f k h = clock-walk c t 0 32 k _ (walks-fault c t f k) h.clock

pub clock-call : (c t : ℕ) (k : Parts) → HasRoom STAMPS_PER_EVENT k → (call c t k).ticks ≤ COUNT_LIMIT
clock-call c t k h = clock-walk c t 1 PER_CALL k _ (walks c t k) h.clock

-- one notice is made at the most
notices-walk : (c t n s : ℕ) (k new : Parts) → Walk (acts c t) k n s new → HasRoom STAMPS_PER_EVENT k → new.notices.total + LINES ≤ COUNT_LIMIT
notices-walk c t n s k new w h = omega (arith, h.notices, one_more (acts c t) k new.notices (walk_notes (acts c t) k (λ chooses. cc) n s new w))

pub notices-fault : (c t : ℕ) (f : Fault) (k : Parts) → HasRoom STAMPS_PER_EVENT k → (fault c t f k).notices.total + LINES ≤ COUNT_LIMIT
notices-fault c t f k h = notices-walk c t 0 32 k _ (walks-fault c t f k) h

pub notices-call : (c t : ℕ) (k : Parts) → HasRoom STAMPS_PER_EVENT k → (call c t k).notices.total + LINES ≤ COUNT_LIMIT
notices-call c t k h = notices-walk c t 1 PER_CALL k _ (walks c t k) h

pub notices-room : (k : Parts) → HasRoom STAMPS_PER_EVENT k → k.notices.total ≤ COUNT_LIMIT
notices-room k h = omega (arith, h.notices)

-- a demotion makes no notice by itself
pub notices-demote : (c t : ℕ) (k : Parts) → k.notices.total ≤ COUNT_LIMIT → (demote c t k).notices.total ≤ COUNT_LIMIT
unfolding demote restamp set_state
notices-demote c t k h = h

pub ruleset fault_stamps = (room-fault, stamps-fault, stamps-faulting, clock-fault, notices-fault, notices-room)

pub ruleset calls = (room-call, stamps-call, room-asked, clock-call, notices-call)

-- settling alone
pub room-settle : (k : Parts) → EachIsPipe k.pipes → HasRoom STAMPS_PER_EVENT k → AreWithin (COUNT_LIMIT - PER_SETTLING) k
room-settle k are h = record { are = are; up = PipesUpTo-more (COUNT_LIMIT - STAMPS_PER_EVENT) (COUNT_LIMIT - PER_SETTLING) k.pipes (omega arith) h.counts }

pub notices-settle : (k : Parts) → HasRoom STAMPS_PER_EVENT k → k.notices.total + LINES ≤ COUNT_LIMIT
notices-settle k h = omega (arith, h.notices)

pub stamps-settle : (k : Parts) → HasRoom STAMPS_PER_EVENT k → HasStamps PER_SETTLING k
stamps-settle k h = omega (arith, h.stamps)

-- .. after a line is received
pub room-receive : (c l : ℕ) (k : Parts) → EachIsPipe k.pipes → HasRoom STAMPS_PER_EVENT k → AreWithin (COUNT_LIMIT - PER_SETTLING) (receive_line c l k)
unfolding receive_line
room-receive c l k are h =
    let w : AreWithin (COUNT_LIMIT - STAMPS_PER_EVENT) k = record { are = are; up = h.counts } in
    within-more (COUNT_LIMIT - STAMPS_PER_EVENT + 2) (COUNT_LIMIT - PER_SETTLING) _ (omega arith) (within-receive (COUNT_LIMIT - STAMPS_PER_EVENT) c (stage_of (action_at l k) l) l k w)

pub stamps-receive : (c l : ℕ) (k : Parts) → HasRoom STAMPS_PER_EVENT k → HasStamps PER_SETTLING (receive_line c l k)
unfolding receive_line
stamps-receive c l k h = omega (arith, h.stamps)

pub clock-receive : (c l : ℕ) (k : Parts) → HasRoom STAMPS_PER_EVENT k → (receive_line c l k).ticks ≤ COUNT_LIMIT
unfolding receive_line
clock-receive c l k h = h.clock

pub notices-receive : (c l : ℕ) (k : Parts) → HasRoom STAMPS_PER_EVENT k → (receive_line c l k).notices.total + LINES ≤ COUNT_LIMIT
unfolding receive_line
notices-receive c l k h = omega (arith, h.notices)

pub room-receipt : (k : Parts) → HasRoom STAMPS_PER_EVENT k → PipesUpTo (COUNT_LIMIT - 1) k.pipes
room-receipt k h = PipesUpTo-more (COUNT_LIMIT - STAMPS_PER_EVENT) (COUNT_LIMIT - 1) k.pipes (omega arith) h.counts

pub room-raise : (k : Parts) → HasRoom STAMPS_PER_EVENT k → PipesUpTo COUNT_LIMIT k.pipes
room-raise k h = PipesUpTo-more (COUNT_LIMIT - STAMPS_PER_EVENT) COUNT_LIMIT k.pipes (omega arith) h.counts

pub room-tick : (k : Parts) → HasRoom STAMPS_PER_EVENT k → PipesUpTo (COUNT_LIMIT - PROCESSOR_LIMIT) k.pipes
room-tick k h = PipesUpTo-more (COUNT_LIMIT - STAMPS_PER_EVENT) (COUNT_LIMIT - PROCESSOR_LIMIT) k.pipes (omega arith) h.counts

-- the debugger's bits are no count, and no lock
pub room-bits : (c : ℕ) (stopped skip : Bool) (k : Parts) → HasRoom STAMPS_PER_EVENT k → HasRoom STAMPS_PER_EVENT (set_bits stopped skip c k)
unfolding set_bits
room-bits c stopped skip k h = record { stamps = h.stamps; counts = h.counts; holds = h.holds; clock = h.clock; timers = h.timers; notices = h.notices; harts = h.harts }

-- the rules that hold between events say how many tasks and mutexes there may be, and the room how many timers
pub few-parts : (k : Parts) → Good k → HasRoom STAMPS_PER_EVENT k → AreFew k
few-parts k g h = record { pipes = record { each = g.pipes }; tasks = g.few_tasks; mutexes = g.locks.few; timers = h.timers }

pub ruleset few = (few-parts)

pub ruleset wider = (room-raise, room-tick)
