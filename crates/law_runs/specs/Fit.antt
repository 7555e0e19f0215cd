-- Counts stay far below 2^64, so that they are plain numbers though they are kept in 64 bits.
use Rattle.std.specs.Prelude.{◌≡◌, ℕ, ◌*◌, ◌^◌, ◌<◌, ◌≤◌, List, [], Some, false, slice_get, length, count_by}
use Rattle.evm_lines.specs.declared.TheConstants.{LINES}
use Rattle.evm_model.specs.Bounds.{PER_EVENT, PipesUpTo, HeldUpTo}
use Rattle.evm_model.specs.Devices.{Attached}
use Rattle.evm_model.specs.Good.{is_tick}
use Rattle.evm_model.specs.Load.{start_loaded}
use Rattle.evm_model.specs.Pipes.{Pipe}
use Rattle.evm_model.specs.Replay.{bad_boot, start, replay}
use Rattle.evm_model.specs.State.{State, Board}
use Rattle.evm_model.specs.declared.boot.Boot.{Boot}
use Rattle.evm_model.specs.Event.{Event}
use Rattle.evm_model.specs.declared.limits.TheConstants.{DEVICE_LIMIT}

-- the journal is within its capacity; each line of each processor has counts, which are within a fixed number for each event of the journal, so below 2^29; the ticks are the journal's
pub record CountsFit (s : State) : Type 0 where
  pub journal : length s.journal ≤ s.boot.capacity
  pub small : PER_EVENT * length s.journal < 2 ^ 29
  pub ticks : s.board.parts.ticks ≡ count_by is_tick s.journal
  pub few_ticks : s.board.parts.ticks ≤ length s.journal
  pub pipes : length s.board.parts.pipes ≡ s.boot.cpus
  pub lines : (c : ℕ) (p : Pipe) → slice_get s.board.parts.pipes c ≡ Some p → length p.counts ≡ LINES
  pub counts : PipesUpTo (PER_EVENT * length s.journal) s.board.parts.pipes

-- a board on which nothing was counted yet, whatever its RAM, tasks and processors, with no more devices than there may be
pub record IsUncounted (boot : Boot) (board : Board) : Type 0 where
  pub pipes : board.parts.pipes ≡ (start [] boot).board.parts.pipes
  pub ticks : board.parts.ticks ≡ 0
  pub devices : length board.memory.devices ≤ DEVICE_LIMIT

-- after every list of events
abbrev pub FitsFrom : State → Type 0
FitsFrom s = (events : List Event) → CountsFit (replay s events)

abbrev pub CountsAlwaysFit : Type 0
CountsAlwaysFit = (devices : List Attached) (boot : Boot) → bad_boot boot ≡ false → length devices ≤ DEVICE_LIMIT → FitsFrom (start devices boot)

abbrev pub CountsAlwaysFitLoaded : Type 0
CountsAlwaysFitLoaded = (devices : List Attached) (byte : ℕ → ℕ) (entry : ℕ) (boot : Boot) → bad_boot boot ≡ false → length devices ≤ DEVICE_LIMIT → FitsFrom (start_loaded devices byte entry boot)

abbrev pub CountsAlwaysFitFresh : Type 0
CountsAlwaysFitFresh = (boot : Boot) (board : Board) → bad_boot boot ≡ false → IsUncounted boot board → FitsFrom (record (start [] boot) { board = board })

-- no mutex is locked more often than the fixed number for each event of the journal
abbrev pub HoldsFit : State → Type 0
HoldsFit s = HeldUpTo (PER_EVENT * length s.journal) s.board.parts.mutexes

abbrev pub HoldsFitFrom : State → Type 0
HoldsFitFrom s = (events : List Event) → HoldsFit (replay s events)

abbrev pub HoldsAlwaysFit : Type 0
HoldsAlwaysFit = (devices : List Attached) (boot : Boot) → length devices ≤ DEVICE_LIMIT → HoldsFitFrom (start devices boot)

abbrev pub HoldsAlwaysFitLoaded : Type 0
HoldsAlwaysFitLoaded = (devices : List Attached) (byte : ℕ → ℕ) (entry : ℕ) (boot : Boot) → length devices ≤ DEVICE_LIMIT → HoldsFitFrom (start_loaded devices byte entry boot)

abbrev pub HoldsAlwaysFitFresh : Type 0
HoldsAlwaysFitFresh = (boot : Boot) (board : Board) → IsUncounted boot board → board.parts.mutexes ≡ [] → HoldsFitFrom (record (start [] boot) { board = board })
