-- Boards that differ in their clocks too. No row looks at the clock where no time is named and no call reads it.
use Rattle.std.specs.Prelude.{◌≡◌, ℕ, List, Option, Some, None, Bool, true, false, not, ◌&&◌, ◌==◌, map, slice_get}
use Rattle.evm_exec.specs.Registers.{register_of}
use Rattle.evm_exec.specs.declared.hart.Hart.{Hart}
use Rattle.evm_isa.specs.Decoded.{decoded}
use Rattle.evm_isa.specs.declared.inst.Inst.{Inst}
use Rattle.evm_isa.specs.declared.inst.Inst.TheVariants.{Ecall}
use Rattle.evm_model.specs.Calls.{call_of}
use Rattle.evm_model.specs.Current.{current}
use Rattle.evm_model.specs.Deadlines.{deadline}
use Rattle.evm_model.specs.Devices.{Attached}
use Rattle.evm_model.specs.Event.{Event}
use Rattle.evm_model.specs.Harts.{A7, argument}
use Rattle.evm_model.specs.Load.{load_board}
use Rattle.evm_model.specs.Memory.{fetch}
use Rattle.evm_model.specs.Rows.{row}
use Rattle.evm_model.specs.State.{Board, Memory, Parts, on_parts, booted}
use Rattle.evm_model.specs.declared.boot.Boot.{Boot}
use Rattle.evm_model.specs.declared.call.Call.{Call}
use Rattle.evm_model.specs.declared.call.Call.TheVariants.{Lock, SemGet, EventWait, FlagsWait, SleepUntil, TimerSet, Clock}
use Rattle.evm_model.specs.declared.event.Event.TheVariants.{Step, StepI}
use Rattle.evm_model.specs.declared.notice.Notice.{Notice}
use Rattle.evm_model.specs.declared.task.Task.{Task}
use Rattle.evm_model.specs.declared.timer.Timer.{Timer}
use Rattle.law_runs.specs.Alike.{AlikeBoards}

-- ---- the clock
-- a notice without its tick
abbrev pub undated : Notice → Notice
undated notice = record notice { tick = 0 }

-- parts without the count of ticks and the ticks of notices
abbrev pub timeless : Parts → Parts
timeless p = record p { ticks = 0; notices = record p.notices { kept = map undated p.notices.kept } }

-- a board whose parts are timeless
abbrev pub timeless_board : Board → Board
timeless_board b = on_parts timeless b

abbrev pub expiry_of : Option Timer → ℕ
expiry_of None = 0
expiry_of (Some timer) = timer.due

-- the tick at which timer n expires; 0 where it is off
abbrev pub due : List Timer → ℕ → ℕ
due timers n = expiry_of (slice_get timers n)

-- no wait has a deadline, and each timer is off
pub record NoTimes (tasks : List Task) (timers : List Timer) : Type 0 where
  pub no_deadline : (t : ℕ) → deadline tasks t ≡ 0
  pub no_timer : (n : ℕ) → due timers n ≡ 0

abbrev pub HasNoTimes : Parts → Type 0
HasNoTimes p = NoTimes p.tasks p.timers

-- ---- calls
-- whether a call reads the clock or names a time; 0 names none
abbrev pub is_timed_call : Call → Hart → Bool
is_timed_call SleepUntil hart = true
is_timed_call Clock hart = true
is_timed_call Lock hart = not (argument 1 hart == 0)
is_timed_call SemGet hart = not (argument 1 hart == 0)
is_timed_call FlagsWait hart = not (argument 1 hart == 0)
is_timed_call TimerSet hart = not (argument 1 hart == 0)
is_timed_call EventWait hart = not (argument 2 hart == 0)
is_timed_call _ hart = false

abbrev pub is_timed_of : Option Call → Hart → Bool
is_timed_of None hart = false
is_timed_of (Some call) hart = is_timed_call call hart

-- whether the call that these registers ask for does
abbrev pub is_timed : Hart → Bool
is_timed hart = is_timed_of (call_of (register_of hart.regs A7)) hart

abbrev pub is_ecall_inst : Option Inst → Bool
is_ecall_inst (Some Ecall) = true
is_ecall_inst _ = false

abbrev pub is_ecall_word : Option ℕ → Bool
is_ecall_word None = false
is_ecall_word (Some word) = is_ecall_inst (decoded word)

abbrev pub makes_timed_call : Option Hart → Memory → Bool
makes_timed_call None memory = false
makes_timed_call (Some hart) memory = is_ecall_word (fetch hart.pc memory) && is_timed hart

abbrev pub hart_at : Option ℕ → List Hart → Option Hart
hart_at None harts = None
hart_at (Some t) harts = slice_get harts t

-- whether the current task of processor c is at an ECALL whose call does
abbrev pub is_at_timed_call : ℕ → Board → Bool
is_at_timed_call c b = makes_timed_call (hart_at (current c b.parts) b.parts.harts) b.memory

-- whether an event may make that call
abbrev pub may_call_clock : Event → Board → Bool
may_call_clock (Step c) b = is_at_timed_call c b
may_call_clock (StepI c) b = is_at_timed_call c b
may_call_clock _ b = false

abbrev pub CallsNoClock : Event → Board → Type 0
CallsNoClock e b = may_call_clock e b ≡ false

-- ---- rows
-- boards that are alike except for their clocks
abbrev pub AlikeTimeless : Board → Board → Type 0
AlikeTimeless a b = AlikeBoards (timeless_board a) (timeless_board b)

-- an event that calls no clock does the same to a board without times and to the timeless one. It answers the same, and names no time
abbrev pub TimelessRows : Type 0
TimelessRows = (e : Event) (b : Board) → HasNoTimes b.parts → CallsNoClock e b
    → (timeless_board (row e b).0 ≡ timeless_board (row e (timeless_board b)).0) × ((row e b).1 ≡ (row e (timeless_board b)).1) × HasNoTimes (row e b).0.parts

-- such an event leaves boards alike except for their clocks, and answers the same
abbrev pub RowsKeepAlikeTimeless : Type 0
RowsKeepAlikeTimeless = (e : Event) (a b : Board) → HasNoTimes a.parts → HasNoTimes b.parts → CallsNoClock e a → AlikeTimeless a b
    → AlikeTimeless (row e a).0 (row e b).0 × ((row e a).1 ≡ (row e b).1) × HasNoTimes (row e a).0.parts × HasNoTimes (row e b).0.parts

-- an event that calls no clock on one of two boards that are alike except for their clocks calls none on the other
abbrev pub AlikeCallNoClock : Type 0
AlikeCallNoClock = (e : Event) (a b : Board) → AlikeTimeless a b → CallsNoClock e a → CallsNoClock e b

-- a machine that booted has no times, nor has one that was loaded
abbrev pub BootsHaveNoTimes : Type 0
BootsHaveNoTimes = (devices : List Attached) (boot : Boot) → HasNoTimes (booted devices boot).parts
    × ((byte : ℕ → ℕ) (entry : ℕ) → HasNoTimes (load_board byte entry (booted devices boot)).parts)
