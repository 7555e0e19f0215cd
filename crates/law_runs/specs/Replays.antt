-- How replays join, and what a load changes.
use Rattle.std.specs.Prelude.{◌≡◌, ℕ, ◌+◌, ◌<◌, List, [], ◌∷◌, ◌++◌, length, slice_index}
use Rattle.evm_exec.specs.declared.hart.Hart.{Hart}
use Rattle.evm_model.specs.Devices.{Attached}
use Rattle.evm_model.specs.Harts.{first_hart}
use Rattle.evm_model.specs.Load.{bytes_from, start_loaded}
use Rattle.evm_model.specs.Replay.{IsReplayOf, start, replay}
use Rattle.evm_model.specs.State.{State}
use Rattle.evm_model.specs.declared.boot.Boot.{Boot}
use Rattle.evm_model.specs.Event.{Event}

-- a replay goes on where another ended
abbrev pub ReplaysJoin : Type 0
ReplaysJoin = (s : State) (first rest : List Event) → replay s (first ++ rest) ≡ replay (replay s first) rest

-- a machine that has had no event is the replay of its empty journal
abbrev pub StartsAsReplay : Type 0
StartsAsReplay = (devices : List Attached) (boot : Boot) → IsReplayOf (start devices boot) (start devices boot)

-- after every list of events the state is what the accepted ones alone make of the first state
abbrev pub StaysReplay : Type 0
StaysReplay = (first : State) (events : List Event) → first.journal ≡ [] → IsReplayOf first (replay first events)

-- there are n bytes, and each is that of its address
abbrev pub LoadsSoManyBytes : Type 0
LoadsSoManyBytes = (byte : ℕ → ℕ) (address n : ℕ) → length (bytes_from byte address n) ≡ n

abbrev pub LoadsEachByte : Type 0
LoadsEachByte = (byte : ℕ → ℕ) (address n i : ℕ) → i < n → slice_index (bytes_from byte address n) i ≡ byte (address + i)

-- the one task's registers are those of a boot, and its pc is the entry
abbrev pub HartsLoaded : Type 0
HartsLoaded = (devices : List Attached) (byte : ℕ → ℕ) (entry : ℕ) (boot : Boot)
    → (start_loaded devices byte entry boot).board.parts.harts ≡ record (first_hart boot.ram) { pc = entry } ∷ []

-- a machine, but with these bytes of RAM and these harts
abbrev pub with_ram_and_harts : List ℕ → List Hart → State → State
with_ram_and_harts ram harts s = record s {
  board = record s.board { memory = record s.board.memory { ram = ram }; parts = record s.board.parts { harts = harts } };
}

-- a load changes RAM and the harts alone
abbrev pub LoadsNoMore : Type 0
LoadsNoMore = (devices : List Attached) (byte : ℕ → ℕ) (entry : ℕ) (boot : Boot)
    → start_loaded devices byte entry boot
    ≡ with_ram_and_harts (start_loaded devices byte entry boot).board.memory.ram (start_loaded devices byte entry boot).board.parts.harts (start devices boot)
