-- Which notice a step may make.
use Rattle.std.specs.Prelude.{◌≡◌, ◌≢◌, ◌+◌, ◌-◌, ◌≤◌, ◌^◌, ◌++◌, ◌⊎◌, ℕ, [], ◌∷◌, Option, Some, true, slice_get, length, drop}
use Rattle.std.specs.Int.{bit_at}
use Rattle.evm_exec.specs.Registers.{register_of}
use Rattle.evm_exec.specs.declared.hart.Hart.{Hart}
use Rattle.evm_exec.specs.declared.outcome.Effect.TheVariants.{Call}
use Rattle.evm_model.specs.Locks.{lock, try_lock, unlock}
use Rattle.evm_model.specs.Memory.{fetch}
use Rattle.evm_model.specs.Settle.{is_oob}
use Rattle.evm_model.specs.State.{Memory, Notices, Parts}
use Rattle.evm_model.specs.declared.call.Outcome.TheVariants.{Returns}
use Rattle.evm_model.specs.declared.limits.TheConstants.{NOTICE_LIMIT}
use Rattle.evm_model.specs.declared.notice.Notice.{Notice}
use Rattle.evm_model.specs.declared.notice.NoticeKind.{NoticeKind}
use Rattle.evm_model.specs.declared.notice.NoticeKind.TheVariants.{DemotedByCall, DemotedByFault, Deadlock, NotOwner, Overran}
use Rattle.evm_model.specs.declared.task.Task.{Task}
use Rattle.law_runs.specs.Noticing.{word_faults}
use Rattle.claims_machine.specs.About.{IsAbout}

-- why the current task t, which is out-of-band, gets a notice of a kind, and the mode bit by which it asks for it: T_WOSS is bit 0, T_WOLI is bit 1
pub data NoticeBy (runs : Option ℕ) (c t : ℕ) (memory : Memory) (old : Parts) : NoticeKind → ℕ → Type 0 where
  -- a call of the in-band kernel, 0 to 14, or a fault takes it in-band
  by_call : (hart : Hart) → IsAbout runs t hart Call old.harts memory → register_of hart.regs 17 ≤ 14 → NoticeBy runs c t memory old DemotedByCall 0
  by_fault : (hart : Hart) → slice_get old.harts t ≡ Some hart → word_faults (fetch hart.pc memory) hart memory ≡ true → NoticeBy runs c t memory old DemotedByFault 0
  -- call 36 or 37 answers -35
  by_lock : (hart : Hart) → IsAbout runs t hart Call old.harts memory → register_of hart.regs 17 ≡ 36
      → (lock c t (register_of hart.regs 10) (register_of hart.regs 11) old).1 ≡ Returns (2 ^ 64 - 35) → NoticeBy runs c t memory old Deadlock 1
  by_try_lock : (hart : Hart) → IsAbout runs t hart Call old.harts memory → register_of hart.regs 17 ≡ 37
      → (try_lock t (register_of hart.regs 10) old).1 ≡ Returns (2 ^ 64 - 35) → NoticeBy runs c t memory old Deadlock 1
  -- call 38 answers -1
  by_unlock : (hart : Hart) → IsAbout runs t hart Call old.harts memory → register_of hart.regs 17 ≡ 38
      → (unlock t (register_of hart.regs 10) old).1 ≡ Returns (2 ^ 64 - 1) → NoticeBy runs c t memory old NotOwner 1

-- the current task, whose mode has the bit, gets one notice more, at this tick; the last 64 are kept
pub record AddsNotice (runs : Option ℕ) (c : ℕ) (memory : Memory) (old : Parts) (new : Notices) : Type 0 where
  pub notice : Notice
  pub task : Task
  pub bit : ℕ
  pub is_current : runs ≡ Some notice.task
  pub there : slice_get old.tasks notice.task ≡ Some task
  pub oob : is_oob (Some notice.task) old.tasks ≡ true
  pub by : NoticeBy runs c notice.task memory old notice.kind bit
  pub asks : bit_at task.mode.bits bit ≡ 1
  pub moment : notice.tick ≡ old.ticks
  pub kept : new.kept ≡ drop (length (old.notices.kept ++ notice ∷ []) - NOTICE_LIMIT) (old.notices.kept ++ notice ∷ [])
  pub total : new.total ≡ old.notices.total + 1

-- on a machine with a watchdog the current task gets one notice more, of kind 5, at this tick; the last 64 are kept
pub record AddsAlarm (runs : Option ℕ) (old : Parts) (new : Notices) : Type 0 where
  pub notice : Notice
  pub is_current : runs ≡ Some notice.task
  pub watchdog : old.profile.watchdog ≢ 0
  pub kind : notice.kind ≡ Overran
  pub moment : notice.tick ≡ old.ticks
  pub kept : new.kept ≡ drop (length (old.notices.kept ++ notice ∷ []) - NOTICE_LIMIT) (old.notices.kept ++ notice ∷ [])
  pub total : new.total ≡ old.notices.total + 1

-- they have this one more, the last of them; the last 64 are kept
pub record HasNotice (notice : Notice) (old new : Notices) : Type 0 where
  pub kept : new.kept ≡ drop (length (old.kept ++ notice ∷ []) - NOTICE_LIMIT) (old.kept ++ notice ∷ [])
  pub total : new.total ≡ old.total + 1

-- they stand, or there is one more: by what the current task does, or by the watchdog
abbrev pub OneNotice : Option ℕ → ℕ → Memory → Parts → Notices → Type 0
OneNotice runs c memory old new = (new ≡ old.notices) ⊎ AddsNotice runs c memory old new ⊎ AddsAlarm runs old new
