-- Which notices are made, and why.
use Rattle.std.specs.Prelude.{◌≡◌, ℕ, Option, Some, None, Bool, true, false, is_none, slice_get}
use Rattle.evm_isa.specs.Decoded.{decoded}
use Rattle.evm_isa.specs.declared.inst.Inst.{Inst}
use Rattle.evm_exec.specs.Does.{does}
use Rattle.evm_exec.specs.Memory.{width_of_load}
use Rattle.evm_exec.specs.declared.hart.Hart.{Hart}
use Rattle.evm_exec.specs.declared.outcome.Effect.{Effect}
use Rattle.evm_exec.specs.declared.outcome.Effect.TheVariants.{Load, Store, Misaligned}
use Rattle.evm_model.specs.Calls.{call_number, call_stage}
use Rattle.evm_model.specs.Errnos.{refusal_answer}
use Rattle.evm_model.specs.Harts.{argument}
use Rattle.evm_model.specs.Locks.{lock, try_lock, unlock}
use Rattle.evm_model.specs.Memory.{fetch, read, write}
use Rattle.evm_model.specs.Notices.{asks_for, keep}
use Rattle.evm_model.specs.Settle.{current, is_oob}
use Rattle.evm_model.specs.State.{Board, Memory, Notices}
use Rattle.evm_model.specs.declared.call.Call.{Call}
use Rattle.evm_model.specs.declared.call.Outcome.TheVariants.{Returns}
use Rattle.evm_model.specs.declared.event.Answer.{Answer}
use Rattle.evm_model.specs.declared.event.Answer.TheVariants.{Ran}
use Rattle.evm_model.specs.declared.notice.NoticeKind.{NoticeKind}
use Rattle.evm_model.specs.declared.notice.NoticeKind.TheVariants.{DemotedByCall, DemotedByFault, Deadlock as Unending, NotOwner, Overran}
use Rattle.evm_model.specs.declared.stage.Stage.TheVariants.{InBand}
use Rattle.evm_model.specs.declared.errno.Errno.TheVariants.{Deadlock, NotPermitted}
use Rattle.law_runs.specs.Places.{MakesCall}

-- ---- faults
-- an access faults if neither RAM nor a device answers it
abbrev pub effect_faults : Effect → Memory → Bool
effect_faults (Load op rd address) m = is_none (read address (width_of_load op) m)
effect_faults (Store width address value) m = is_none (write address width value m)
effect_faults Misaligned m = true
effect_faults _ m = false

abbrev pub inst_faults : Option Inst → Hart → Memory → Bool
inst_faults None hart m = true
inst_faults (Some inst) hart m = effect_faults (does inst hart.regs hart.pc) m

-- whether the word that a task with this hart has fetched makes it fault
abbrev pub word_faults : Option ℕ → Hart → Memory → Bool
word_faults None hart m = true
word_faults (Some word) hart m = inst_faults (decoded word) hart m

-- ---- notices
-- why the current task of c, which is out-of-band, gets a notice of a kind
pub data NoticeCause (c task : ℕ) (old : Board) : NoticeKind → Type 0 where
  -- it makes a call of the in-band kernel, or its instruction faults: it goes in-band
  by_call : (call : Call) (hart : Hart) → MakesCall c (call_number call) hart old → call_stage call ≡ Some InBand → NoticeCause c task old DemotedByCall
  by_fault : (hart : Hart) → slice_get old.parts.harts task ≡ Some hart → word_faults (fetch hart.pc old.memory) hart old.memory ≡ true → NoticeCause c task old DemotedByFault
  -- its call 36 or 37 answers -35
  by_lock : (hart : Hart) → MakesCall c 36 hart old → (lock c task (argument 0 hart) (argument 1 hart) old.parts).1 ≡ Returns (refusal_answer Deadlock) → NoticeCause c task old Unending
  by_try_lock : (hart : Hart) → MakesCall c 37 hart old → (try_lock task (argument 0 hart) old.parts).1 ≡ Returns (refusal_answer Deadlock) → NoticeCause c task old Unending
  -- its call 38 answers -1
  by_unlock : (hart : Hart) → MakesCall c 38 hart old → (unlock task (argument 0 hart) old.parts).1 ≡ Returns (refusal_answer NotPermitted) → NoticeCause c task old NotOwner

-- in a step that answers so, the task that was current on c asked for notices of a kind and gets one more, at this tick; the last 64 are kept
pub record GetsNotice (c : ℕ) (old : Board) (answer : Answer) (new : Notices) : Type 0 where
  pub task : ℕ
  pub kind : NoticeKind
  pub runs : current c old.parts ≡ Some task
  pub ran : answer ≡ Ran task
  pub oob : is_oob (Some task) old.parts.tasks ≡ true
  pub asked : asks_for kind (slice_get old.parts.tasks task) ≡ true
  pub why : NoticeCause c task old kind
  pub noted : new ≡ keep (record { tick = old.parts.ticks; task = task; kind = kind }) old.parts.notices

-- on a machine with a watchdog the task that was current on c gets notice 5, at this tick
pub record GetsAlarm (c : ℕ) (old : Board) (new : Notices) : Type 0 where
  pub task : ℕ
  pub runs : current c old.parts ≡ Some task
  pub guarded : old.parts.profile.watchdog ≡ 0 → ⊥
  pub noted : new ≡ keep (record { tick = old.parts.ticks; task = task; kind = Overran }) old.parts.notices

-- a step that answers so makes no notice, or one: by what the task does, or by the watchdog
pub data NoticesChange (c : ℕ) (old : Board) (answer : Answer) (new : Notices) : Type 0 where
  same_notices : new ≡ old.parts.notices → NoticesChange c old answer new
  by_task : GetsNotice c old answer new → NoticesChange c old answer new
  by_watchdog : GetsAlarm c old new → NoticesChange c old answer new
