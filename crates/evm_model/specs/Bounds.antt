-- Counts within a bound, and room for more of them.
use Rattle.std.specs.Prelude.{◌≡◌, ℕ, ◌+◌, ◌-◌, ◌^◌, ◌≤◌, List, Some, length, slice_get}
use Rattle.evm_model.specs.Pipes.{Pipe}
use Rattle.evm_model.specs.State.{Parts}
use Rattle.evm_model.specs.declared.counts.Counts.{Counts}
use Rattle.evm_model.specs.declared.counts.Passage.{Passage}
use Rattle.evm_model.specs.declared.limits.TheConstants.{TIMER_LIMIT}
use Rattle.evm_model.specs.declared.mutex.Mutex.{Mutex}

-- no event adds more than this to any count
abbrev pub PER_EVENT : ℕ
PER_EVENT = 256

-- no event gives more stamps than this
abbrev pub STAMPS_PER_EVENT : ℕ
STAMPS_PER_EVENT = 16384

-- no number of these is above the bound
pub record PassageUpTo (bound : ℕ) (n : Passage) : Type 0 where
  pub arrivals : n.arrivals ≤ bound
  pub merged : n.merged ≤ bound
  pub played : n.played ≤ bound

pub record UpTo (bound : ℕ) (n : Counts) : Type 0 where
  pub raised : n.raised ≤ bound
  pub merged : n.merged ≤ bound
  pub received : n.received ≤ bound
  pub oob : PassageUpTo bound n.oob
  pub in_band : PassageUpTo bound n.in_band

-- .. of no line of a pipe
pub record PipeUpTo (bound : ℕ) (p : Pipe) : Type 0 where
  pub lines : (l : ℕ) (n : Counts) → slice_get p.counts l ≡ Some n → UpTo bound n

-- .. of no processor
pub record PipesUpTo (bound : ℕ) (pipes : List Pipe) : Type 0 where
  pub each : (c : ℕ) (p : Pipe) → slice_get pipes c ≡ Some p → PipeUpTo bound p

-- no mutex is locked more often
pub record HeldUpTo (bound : ℕ) (mutexes : List Mutex) : Type 0 where
  pub count : (m : ℕ) (mutex : Mutex) → slice_get mutexes m ≡ Some mutex → mutex.count ≤ bound

-- ---- room in the counters of 64 bits
-- stamps and counts are kept up to here, below 2 ^ 64, where they would wrap
abbrev pub COUNT_LIMIT : ℕ
COUNT_LIMIT = 2 ^ 63

-- a call, or a fault, gives no more stamps than this, and adds less to a count
abbrev pub PER_CALL : ℕ
PER_CALL = 128

-- so does a line that is played out-of-band: line 0 ends up to 64 waits, expires up to 32 timers, spends a slice and demotes a task
abbrev pub PER_OOB_LINE : ℕ
PER_OOB_LINE = 128

-- .. and an out-of-band log, of 64 lines
abbrev pub PER_OOB_LOG : ℕ
PER_OOB_LOG = 8192

-- .. and an in-band one no more: each of 64 lines wakes up to 64 tasks
abbrev pub PER_IN_BAND_LOG : ℕ
PER_IN_BAND_LOG = 4096

-- .. and all of settling, with the other processors that are nudged
abbrev pub PER_SETTLING : ℕ
PER_SETTLING = 12352

-- n stamps can be given
abbrev pub HasStamps : ℕ → Parts → Type 0
HasStamps n p = p.stamps + n ≤ COUNT_LIMIT

-- .. each count of a line can grow by as much, there can be as many more notices, each mutex can be locked once more and each timer
-- can expire; and there is a hart for each task
pub record HasRoom (n : ℕ) (p : Parts) : Type 0 where
  pub stamps : HasStamps n p
  pub counts : PipesUpTo (COUNT_LIMIT - n) p.pipes
  pub holds : HeldUpTo COUNT_LIMIT p.mutexes
  pub clock : p.ticks ≤ COUNT_LIMIT
  pub timers : length p.timers ≤ TIMER_LIMIT
  pub notices : p.notices.total + n ≤ COUNT_LIMIT
  pub harts : length p.harts ≡ length p.tasks
