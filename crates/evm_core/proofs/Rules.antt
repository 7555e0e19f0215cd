-- The room that the machine's rules leave.
use Rattle.std.proofs.Common.{◌≡◌, ◌-◌, ◌^◌, ◌<◌, List, [], ◌∷◌, length, refl, arith}
use Rattle.evm_model.specs.Bounds.{COUNT_LIMIT, STAMPS_PER_EVENT, HasRoom}
use Rattle.evm_model.specs.Devices.{Attached}
use Rattle.evm_model.specs.Good.{GoodState, AreDevices}
use Rattle.evm_model.specs.Replay.{IsReplayOf, replay}
use Rattle.evm_model.specs.State.{State, on_memory}
use Rattle.evm_model.specs.Event.{Event}
use Rattle.evm_board.proofs.law_rules.Bounded.{within-more}
use Rattle.evm_board.proofs.law_rules.States.{counts_room, holds_room, notices_room, ticks_room, stamps_room}

pub ticks-fit : (s : State) → GoodState s → s.board.parts.ticks < COUNT_LIMIT
ticks-fit s g = let h = ticks_room s g in omega arith

pub room-fits : (s : State) → GoodState s → HasRoom STAMPS_PER_EVENT s.board.parts
room-fits s g = record {
  stamps = omega (arith, stamps_room s g);
  counts = (within-more (2 ^ 28) (COUNT_LIMIT - STAMPS_PER_EVENT) s.board.parts (omega arith) (counts_room s g)).up;
  holds = holds_room s g;
  clock = let h = ticks_room s g in omega arith;
  timers = g.timers.few;
  notices = notices_room s g;
  harts = g.good.harts_count;
}

-- ---- a machine that has had no event
replays_none : (s : State) (events : List Event) → length events ≡ 0 → replay s events ≡ s
unfolding replay
replays_none s [] none = refl
replays_none s (event ∷ events) none = absurd (omega arith)

pub no_event-replay : (s : State) → length s.journal ≡ 0 → IsReplayOf s s
no_event-replay s none = record { replayed = replays_none s s.journal none }

-- ---- other devices
pub with_devices : (devices : List Attached) (s : State) → AreDevices devices → GoodState s → GoodState (record s { board = on_memory (λ m. record m { devices = devices }) s.board })
with_devices devices s are g = record {
  good = g.good;
  boot = g.boot;
  processors = g.processors;
  ram = g.ram;
  profile = g.profile;
  journal = g.journal;
  ticks = g.ticks;
  stamps = g.stamps;
  counts = g.counts;
  semaphores = g.semaphores;
  flags = g.flags;
  timers = g.timers;
  few_events = g.few_events;
  actions = g.actions;
  holds = g.holds;
  notices = g.notices;
  devices = are;
}
