-- Which notice a step makes, in the words of the claims.
use Rattle.std.proofs.Common.{◌≡◌, ℕ, ◌≤◌, List, true, Option, Some, None, slice_get, refl, ap, sym, ◌∙◌, subst, arith}
use Rattle.std.specs.Prelude.{◌==◌}
use Rattle.std.specs.Int.{bit_at}
use Rattle.std.proofs.lemmas.Bool.Decides.{nat_tests}
use Rattle.evm_exec.specs.declared.hart.Hart.{Hart}
use Rattle.evm_exec.specs.declared.outcome.Effect.TheVariants.{Call}
use Rattle.evm_model.specs.Calls.{call_number, call_stage}
use Rattle.evm_model.specs.Locks.{lock_known, lock, try_known, try_lock, unlock_known, unlock}
use Rattle.evm_model.specs.Notices.{notice_row, has_bit, asks_for, keep}
use Rattle.evm_model.specs.Settle.{current}
use Rattle.evm_model.specs.State.{Board, Memory, Notices, Parts}
use Rattle.evm_model.specs.declared.call.Call.{Call as Number}
use Rattle.evm_model.specs.declared.call.Call.TheVariants.{Exit, Putc, Yield, Spawn, Stall, Unstall, WaitLine, Attach, Detach, NewMutex, NewSemaphore, NewEvent, NewFlags, NewTimer, SetLine}
use Rattle.evm_model.specs.declared.errno.Errno.TheVariants.{Deadlock as Errno_deadlock, NotPermitted}
use Rattle.evm_model.specs.declared.event.Answer.{Answer}
use Rattle.evm_model.specs.declared.notice.NoticeKind.{NoticeKind}
use Rattle.evm_model.specs.declared.notice.NoticeKind.TheVariants.{Deadlock, NotOwner, Overran}
use Rattle.evm_model.specs.declared.processor.Processor.{Processor}
use Rattle.evm_model.specs.declared.stage.Stage.TheVariants.{InBand}
use Rattle.evm_model.specs.declared.task.Task.{Task}
use Rattle.law_runs.specs.Noticing.{NoticeCause, by_call as called, by_fault as faulted, by_lock as locked, by_try_lock as tried, by_unlock as unlocked, GetsNotice, GetsAlarm}
use Rattle.law_runs.specs.Places.{MakesCall}
use Rattle.law_runs.proofs.Silent.{outcome_stays, locks, tries, unlocks}
use Rattle.claims_machine.specs.About.{IsAbout}
use Rattle.claims_machine.specs.Noticed.{NoticeBy, by_call, by_fault, by_lock, by_try_lock, by_unlock, AddsNotice, AddsAlarm}

-- ---- the numbers of the calls of the in-band kernel
in_band_number : (made : Number) → call_stage made ≡ Some InBand → call_number made ≤ 14
in_band_number Exit e = omega arith
in_band_number Putc e = omega arith
in_band_number Yield e = omega arith
in_band_number Spawn e = omega arith
in_band_number Stall e = omega arith
in_band_number Unstall e = omega arith
in_band_number WaitLine e = omega arith
in_band_number Attach e = omega arith
in_band_number Detach e = omega arith
in_band_number NewMutex e = omega arith
in_band_number NewSemaphore e = omega arith
in_band_number NewEvent e = omega arith
in_band_number NewFlags e = omega arith
in_band_number NewTimer e = omega arith
in_band_number SetLine e = omega arith
in_band_number _ e = cc

-- ---- the cause
module _ (c task : ℕ) (old : Board) (runs : current c old.parts ≡ Some task) where
  about : (number : ℕ) (hart : Hart) → MakesCall c number hart old → IsAbout (current c old.parts) task hart Call old.parts.harts old.memory
  about number hart call =
      let its = call.runs in
      let same : call.task ≡ task = cc in
      subst (λ (t : ℕ). IsAbout (current c old.parts) t hart Call old.parts.harts old.memory) same
      (record { word = call.word; inst = call.inst; current = call.runs; has = call.has; fetched = call.fetched; decodes = call.decodes; effect_is = call.calls })

  -- .. with the mode bit of its kind
  abbrev Why : NoticeKind → Type 0
  Why kind = (bit : ℕ) × ((notice_row kind).1 ≡ Some bit) × NoticeBy (current c old.parts) c task old.memory old.parts kind bit

  cause : (kind : NoticeKind) → NoticeCause c task old kind → Why kind
  cause _ (called made hart call stage) = (0, refl, by_call hart (about (call_number made) hart call) (let number = in_band_number made stage in omega (arith, call.asks, number)))
  cause _ (faulted hart has faults) = (0, refl, by_fault hart has faults)
  cause _ (locked hart call answers) = (1, refl, by_lock hart (about 36 hart call) call.asks answers)
  cause _ (tried hart call answers) = (1, refl, by_try_lock hart (about 37 hart call) call.asks answers)
  cause _ (unlocked hart call answers) = (1, refl, by_unlock hart (about 38 hart call) call.asks answers)

asked_task : (kind : NoticeKind) (bit : ℕ) (o : Option Task) → (notice_row kind).1 ≡ Some bit → asks_for kind o ≡ true → (task : Task) × ((o ≡ Some task) × (bit_at task.mode.bits bit ≡ 1))
asked_task kind bit None row e = cc
asked_task kind bit (Some task) row e = (task, (refl, one (bit_at task.mode.bits bit) (sym (ap (λ (o : Option ℕ). has_bit o task.mode.bits) row) ∙ e)))
  where
    one : (n : ℕ) → (n == 1) ≡ true → n ≡ 1
    one n h = grind (arith, nat_tests)

pub noticed_of : (c : ℕ) (old : Board) (answer : Answer) (new : Notices) → GetsNotice c old answer new → AddsNotice (current c old.parts) c old.memory old.parts new
unfolding keep
noticed_of c old answer new g =
    let why = cause c g.task old g.runs g.kind g.why in
    let t = asked_task g.kind why.0 (slice_get old.parts.tasks g.task) why.1 g.asked in
    record {
      notice = record { tick = old.parts.ticks; task = g.task; kind = g.kind };
      task = t.0;
      bit = why.0;
      is_current = g.runs;
      there = t.1.0;
      oob = g.oob;
      by = why.2;
      asks = t.1.1;
      moment = refl;
      kept = ap (λ (n : Notices). n.kept) g.noted;
      total = ap (λ (n : Notices). n.total) g.noted;
    }

pub alarmed_of : (c : ℕ) (old : Board) (new : Notices) → GetsAlarm c old new → AddsAlarm (current c old.parts) old.parts new
unfolding keep
alarmed_of c old new g = record {
  notice = record { tick = old.parts.ticks; task = g.task; kind = Overran };
  is_current = g.runs;
  watchdog = g.guarded;
  kind = refl;
  moment = refl;
  kept = ap (λ (n : Notices). n.kept) g.noted;
  total = ap (λ (n : Notices). n.total) g.noted;
}

-- ---- whatever runs on the processors
module _ (k : Parts) (ps : List Processor) where
  abbrev moved : Parts
  moved = record k { processors = ps }

  lock_moved : (c t m deadline : ℕ) → (lock c t m deadline moved).1 ≡ (lock c t m deadline k).1
  unfolding lock
  lock_moved c t m deadline =
      outcome_stays Errno_deadlock Deadlock t (lock_known (slice_get k.mutexes m) c t m deadline moved) ∙ (locks t m k ps (slice_get k.mutexes m) c deadline).same ∙ sym (outcome_stays Errno_deadlock Deadlock t (lock_known (slice_get k.mutexes m) c t m deadline k))

  try_moved : (t m : ℕ) → (try_lock t m moved).1 ≡ (try_lock t m k).1
  unfolding try_lock
  try_moved t m =
      outcome_stays Errno_deadlock Deadlock t (try_known (slice_get k.mutexes m) t m moved) ∙ (tries t m k ps (slice_get k.mutexes m)).same ∙ sym (outcome_stays Errno_deadlock Deadlock t (try_known (slice_get k.mutexes m) t m k))

  unlock_moved : (t m : ℕ) → (unlock t m moved).1 ≡ (unlock t m k).1
  unfolding unlock
  unlock_moved t m =
      outcome_stays NotPermitted NotOwner t (unlock_known (slice_get k.mutexes m) t m moved) ∙ (unlocks t m k ps (slice_get k.mutexes m)).same ∙ sym (outcome_stays NotPermitted NotOwner t (unlock_known (slice_get k.mutexes m) t m k))

  pub cause_moved : (runs : Option ℕ) (c t : ℕ) (memory : Memory) (kind : NoticeKind) (bit : ℕ) → NoticeBy runs c t memory k kind bit → NoticeBy runs c t memory moved kind bit
  cause_moved runs c t memory _ _ (by_call hart about number) = by_call hart about number
  cause_moved runs c t memory _ _ (by_fault hart has faults) = by_fault hart has faults
  cause_moved runs c t memory _ _ (by_lock hart about number answers) = by_lock hart about number (lock_moved c t _ _ ∙ answers)
  cause_moved runs c t memory _ _ (by_try_lock hart about number answers) = by_try_lock hart about number (try_moved t _ ∙ answers)
  cause_moved runs c t memory _ _ (by_unlock hart about number answers) = by_unlock hart about number (unlock_moved t _ ∙ answers)

  pub alarmed_moved : (runs : Option ℕ) (new : Notices) → AddsAlarm runs k new → AddsAlarm runs moved new
  alarmed_moved runs new n = record { notice = n.notice; is_current = n.is_current; watchdog = n.watchdog; kind = n.kind; moment = n.moment; kept = n.kept; total = n.total }

  pub noticed_moved : (runs : Option ℕ) (c : ℕ) (memory : Memory) (new : Notices) → AddsNotice runs c memory k new → AddsNotice runs c memory moved new
  noticed_moved runs c memory new n = record {
    notice = n.notice;
    task = n.task;
    bit = n.bit;
    is_current = n.is_current;
    there = n.there;
    oob = n.oob;
    by = cause_moved runs c n.notice.task memory n.notice.kind n.bit n.by;
    asks = n.asks;
    moment = n.moment;
    kept = n.kept;
    total = n.total;
  }
