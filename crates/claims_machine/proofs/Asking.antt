-- A task that asks for a notice, and gives a reason for it, gets it in its step.
use Rattle.std.proofs.Common.{◌≡◌, ℕ, suc, zero, ◌+◌, ◌<◌, ◌≤◌, ◌*◌, List, Bool, true, false, not, ◌&&◌, Option, Some, None, ◌⊎◌, inl, inr, refl, ap, sym, ◌∙◌, arith}
use Rattle.std.specs.Prelude.{◌-◌, ◌^◌, slice_get, option_map, if◌then◌else◌, ◌==◌}
use Rattle.std.specs.Int.{bit_at}
use Rattle.evm_exec.specs.Does.{does}
use Rattle.evm_exec.specs.Registers.{register_of}
use Rattle.evm_exec.specs.declared.hart.Hart.{Hart}
use Rattle.evm_exec.specs.declared.outcome.Effect.{Effect}
use Rattle.evm_exec.specs.declared.outcome.Effect.TheVariants.{Call as Ecall}
use Rattle.evm_isa.specs.declared.inst.Inst.{Inst}
use Rattle.evm_lines.specs.Lines.{least_line}
use Rattle.evm_lines.specs.declared.TheConstants.{LINES}
use Rattle.evm_model.proofs.Lists.{change-here}
use Rattle.evm_model.specs.Calls.{answered, return_weak, is_weak_oob, finish_call, ask_oob, call_of, call_on, call_stage, call}
use Rattle.evm_model.specs.Commands.{is_set, tick}
use Rattle.evm_model.specs.Harts.{answer, argument}
use Rattle.evm_model.specs.Instructions.{fault, finish, execute_inst, execute_word, execute}
use Rattle.evm_model.specs.Locks.{lock_known, lock, try_known, try_lock, unlock_known, unlock}
use Rattle.evm_model.specs.Memory.{fetch}
use Rattle.evm_model.specs.Mutexes.{owns_any}
use Rattle.evm_model.specs.Notices.{asks_for, has_bit, keep, notify, is_refused, notify_refused}
use Rattle.evm_model.specs.OobCalls.{move_task}
use Rattle.evm_model.specs.Pipes.{Pipe}
use Rattle.evm_model.specs.Profiles.{offered}
use Rattle.evm_model.specs.Ranks.{is_oob_ready}
use Rattle.evm_model.specs.Rows.{run, step_hart, step_current, step_wire, step_pipe, step_processor, step}
use Rattle.evm_model.specs.Settle.{current, current_of, is_oob, is_oob_task, settle, settle_and_nudge}
use Rattle.evm_model.specs.State.{Board, Notices, Parts, on_hart, on_parts, on_processor}
use Rattle.evm_model.specs.Tasks.{demote, restamp, set_policy, set_slice, set_state}
use Rattle.evm_model.specs.Waits.{begin_wait, wake}
use Rattle.evm_model.specs.declared.call.Call.{Call}
use Rattle.evm_model.specs.declared.call.Call.TheVariants.{Exit, Putc, Yield, Spawn, Stall, Unstall, WaitLine, Attach, Detach, NewMutex, NewSemaphore, NewEvent, NewFlags, NewTimer, SetLine, Lock, TryLock, Unlock}
use Rattle.evm_model.specs.declared.call.Outcome.{Outcome}
use Rattle.evm_model.specs.declared.call.Outcome.TheVariants.{Returns, Blocks, Exits}
use Rattle.evm_model.specs.declared.errno.Errno.{Errno}
use Rattle.evm_model.specs.declared.errno.Errno.TheVariants.{Deadlock as Would_deadlock, NotPermitted}
use Rattle.evm_model.specs.declared.fault.Fault.{Fault}
use Rattle.evm_model.specs.declared.event.Answer.{Answer}
use Rattle.evm_model.specs.declared.event.Answer.TheVariants.{Ran, Hit, Stopped}
use Rattle.evm_model.specs.declared.notice.Notice.{Notice}
use Rattle.evm_model.specs.declared.notice.NoticeKind.{NoticeKind}
use Rattle.evm_model.specs.declared.notice.NoticeKind.TheVariants.{DemotedByCall, DemotedByFault, Deadlock, NotOwner}
use Rattle.evm_model.specs.declared.processor.Processor.{Processor}
use Rattle.evm_model.specs.declared.stage.Stage.{Stage}
use Rattle.evm_model.specs.declared.stage.Stage.TheVariants.{InBand}
use Rattle.evm_model.specs.declared.task.Task.{Task}
use Rattle.evm_model.specs.declared.task.TaskState.TheVariants.{InReady}
use Rattle.law_rules.proofs.PlayingWalks.{unnoted}
use Rattle.law_rules.proofs.RowWalks.{SETTLING_STAMPS, settles, nudges}
use Rattle.law_rules.proofs.Sizes.{of_spend}
use Rattle.law_rules.proofs.Unchanged.{lock_rests, try_rests, unlock_rests}
use Rattle.law_rules.proofs.Walk.{Actor, Does, spends, notes, alarms, Walk, start, next}
use Rattle.law_rules.proofs.Keeps.{passed-current}
use Rattle.law_runs.proofs.Silent.{call_is, outcome_stays}
use Rattle.law_runs.specs.Noticing.{word_faults}
use Rattle.claims_machine.specs.About.{IsAbout}
use Rattle.claims_machine.specs.Noticed.{NoticeBy, by_call, by_fault, by_lock, by_try_lock, by_unlock}
use Rattle.claims_machine.proofs.Noticed.{cause_moved}
use Rattle.claims_machine.proofs.Faulting.{words}

-- ---- the call of each number of the in-band kernel
record IsInBandCall (n : ℕ) : Type 0 where
  made : Call
  found : (k : Parts) → offered k.profile (call_of n) ≡ Some made
  stage : call_stage made ≡ Some InBand

in_band_call : (n : ℕ) → n ≤ 14 → IsInBandCall n
in_band_call zero few = record { made = Exit; found = λ k. refl; stage = refl }
in_band_call (suc zero) few = record { made = Putc; found = λ k. refl; stage = refl }
in_band_call (suc (suc zero)) few = record { made = Yield; found = λ k. refl; stage = refl }
in_band_call (suc (suc (suc zero))) few = record { made = Spawn; found = λ k. refl; stage = refl }
in_band_call (suc (suc (suc (suc zero)))) few = record { made = Stall; found = λ k. refl; stage = refl }
in_band_call (suc (suc (suc (suc (suc zero))))) few = record { made = Unstall; found = λ k. refl; stage = refl }
in_band_call (suc (suc (suc (suc (suc (suc zero)))))) few = record { made = WaitLine; found = λ k. refl; stage = refl }
in_band_call (suc (suc (suc (suc (suc (suc (suc zero))))))) few = record { made = Attach; found = λ k. refl; stage = refl }
in_band_call (suc (suc (suc (suc (suc (suc (suc (suc zero)))))))) few = record { made = Detach; found = λ k. refl; stage = refl }
in_band_call (suc (suc (suc (suc (suc (suc (suc (suc (suc zero))))))))) few = record { made = NewMutex; found = λ k. refl; stage = refl }
in_band_call (suc (suc (suc (suc (suc (suc (suc (suc (suc (suc zero)))))))))) few = record { made = NewSemaphore; found = λ k. refl; stage = refl }
in_band_call (suc (suc (suc (suc (suc (suc (suc (suc (suc (suc (suc zero))))))))))) few = record { made = NewEvent; found = λ k. refl; stage = refl }
in_band_call (suc (suc (suc (suc (suc (suc (suc (suc (suc (suc (suc (suc zero)))))))))))) few = record { made = NewFlags; found = λ k. refl; stage = refl }
in_band_call (suc (suc (suc (suc (suc (suc (suc (suc (suc (suc (suc (suc (suc zero))))))))))))) few = record { made = NewTimer; found = λ k. refl; stage = refl }
in_band_call (suc (suc (suc (suc (suc (suc (suc (suc (suc (suc (suc (suc (suc (suc zero)))))))))))))) few = record { made = SetLine; found = λ k. refl; stage = refl }
in_band_call (suc (suc (suc (suc (suc (suc (suc (suc (suc (suc (suc (suc (suc (suc (suc n))))))))))))))) few = absurd (omega (arith, few))

-- ---- a notice is made
gets_if : (kind : NoticeKind) (t : ℕ) (k : Parts) → asks_for kind (slice_get k.tasks t) ≡ true → (notify kind t k).notices ≡ keep (record { tick = k.ticks; task = t; kind = kind }) k.notices
unfolding notify
gets_if kind t k e = rw e refl

noted_if : (b : Bool) (k x : Parts) → x.processors ≡ k.processors → (if b then x else k).processors ≡ k.processors
noted_if true k x e = e
noted_if false k x e = refl

noted : (kind : NoticeKind) (t : ℕ) (k : Parts) → (notify kind t k).processors ≡ k.processors
unfolding notify
noted kind t k = noted_if (asks_for kind (slice_get k.tasks t)) k _ refl

-- a demotion leaves what a task asks for
same_mode : (kind : NoticeKind) (f : Task → Task) (o : Option Task) → ((y : Task) → (f y).mode ≡ y.mode) → asks_for kind (option_map f o) ≡ asks_for kind o
same_mode kind f None same = refl
same_mode kind f (Some y) same = rw same refl

mode_stays : (kind : NoticeKind) (c t : ℕ) (k : Parts) → asks_for kind (slice_get (demote c t k).tasks t) ≡ asks_for kind (slice_get k.tasks t)
unfolding demote restamp set_state
mode_stays kind c t k =
    ap (asks_for kind) (change-here (λ (y : Task). record y { stamp = k.stamps }) _ t)
    ∙ same_mode kind (λ (y : Task). record y { stamp = k.stamps }) _ (λ y. refl)
    ∙ ap (asks_for kind) (change-here (λ (y : Task). record y { state = InReady }) k.tasks t)
    ∙ same_mode kind (λ (y : Task). record y { state = InReady }) (slice_get k.tasks t) (λ y. refl)

-- a call that is finished leaves the notices, and who runs
record Quiet (k x : Parts) : Type 0 where
  notices : x.notices ≡ k.notices
  processors : x.processors ≡ k.processors

quiet_if : (b : Bool) (k x y : Parts) → Quiet k x → Quiet k y → Quiet k (if b then x else y)
quiet_if true k x y p q = p
quiet_if false k x y p q = q

finished : (o : Outcome) (c t : ℕ) (k : Parts) → Quiet k (answered o c t k)
unfolding return_weak demote restamp set_state
finished (Returns value) c t k =
    let after : Parts = on_hart t (answer value) k in
    quiet_if (is_weak_oob (slice_get after.tasks t) && not (owns_any t after.mutexes)) k _ after (record { notices = refl; processors = refl }) (record { notices = refl; processors = refl })
finished Blocks c t k = record { notices = refl; processors = refl }
finished Exits c t k = record { notices = refl; processors = refl }

module _ (c t : ℕ) (k : Parts) where
  -- one notice more, of the task
  record Gets (kind : NoticeKind) (x : Parts) : Type 0 where
    notices : x.notices ≡ keep (record { tick = k.ticks; task = t; kind = kind }) k.notices
    processors : x.processors ≡ k.processors

  demoted : (kind : NoticeKind) → asks_for kind (slice_get k.tasks t) ≡ true → Gets kind (notify kind t (demote c t k))
  unfolding demote restamp set_state
  demoted kind asks = record { notices = gets_if kind t (demote c t k) (mode_stays kind c t k ∙ asks); processors = noted kind t (demote c t k) }

  refused_is : (b : Bool) (kind : NoticeKind) (done : Parts × Outcome) → b ≡ true → (if b then (notify kind t done.0, done.1) else done).0 ≡ notify kind t done.0
  refused_is true kind done e = refl
  refused_is false kind done e = cc

  is_so : (e : Errno) (kind : NoticeKind) (done : Parts × Outcome) → is_refused e done.1 ≡ true → done.0 ≡ k → asks_for kind (slice_get k.tasks t) ≡ true → Gets kind (finish_call c t (notify_refused e kind t done))
  is_so e kind done refused rests asks =
      let after : Parts × Outcome = notify_refused e kind t done in
      let quiet = finished after.1 c t after.0 in
      let same : after.0 ≡ notify kind t k = refused_is (is_refused e done.1) kind done refused ∙ ap (notify kind t) rests in
      record {
        notices = quiet.notices ∙ ap (λ (x : Parts). x.notices) same ∙ gets_if kind t k asks;
        processors = quiet.processors ∙ ap (λ (x : Parts). x.processors) same ∙ noted kind t k;
      }

  module _ (x : Hart) (has : slice_get k.harts t ≡ Some x) (on : is_oob (Some t) k.tasks ≡ true) where
    calls_in_band : register_of x.regs 17 ≤ 14 → asks_for DemotedByCall (slice_get k.tasks t) ≡ true → Gets DemotedByCall (call c t k)
    calls_in_band few asks =
        let its = in_band_call (register_of x.regs 17) few in
        let is : call c t k ≡ (if is_oob (Some t) k.tasks then notify DemotedByCall t (demote c t k) else _) = call_is c t (register_of x.regs 17) its.made x k has refl (its.found k) ∙ ap (λ (o : Option Stage). call_on o its.made x c t k) its.stage in
        rw (is, on) (demoted DemotedByCall asks)

    refused_out : (e : Errno) (kind : NoticeKind) (done : Parts × Outcome) → call c t k ≡ (if is_oob (Some t) k.tasks then finish_call c t (notify_refused e kind t done) else ask_oob c t k)
        → is_refused e done.1 ≡ true → done.0 ≡ k → asks_for kind (slice_get k.tasks t) ≡ true → Gets kind (call c t k)
    refused_out e kind done is refused rests asks = rw (is, on) (is_so e kind done refused rests asks)

    locks : register_of x.regs 17 ≡ 36 → (lock c t (register_of x.regs 10) (register_of x.regs 11) k).1 ≡ Returns (2 ^ 64 - 35) → asks_for Deadlock (slice_get k.tasks t) ≡ true → Gets Deadlock (call c t k)
    unfolding lock
    locks number answers asks =
        let m : ℕ = argument 0 x in
        let done : Parts × Outcome = lock_known (slice_get k.mutexes m) c t m (argument 1 x) k in
        let refused : is_refused Would_deadlock done.1 ≡ true = ap (is_refused Would_deadlock) (sym (outcome_stays Would_deadlock Deadlock t done) ∙ answers) in
        refused_out Would_deadlock Deadlock done (call_is c t 36 Lock x k has number refl) refused (lock_rests t m k (slice_get k.mutexes m) c (argument 1 x) refused) asks

    tries : register_of x.regs 17 ≡ 37 → (try_lock t (register_of x.regs 10) k).1 ≡ Returns (2 ^ 64 - 35) → asks_for Deadlock (slice_get k.tasks t) ≡ true → Gets Deadlock (call c t k)
    unfolding try_lock
    tries number answers asks =
        let m : ℕ = argument 0 x in
        let done : Parts × Outcome = try_known (slice_get k.mutexes m) t m k in
        let refused : is_refused Would_deadlock done.1 ≡ true = ap (is_refused Would_deadlock) (sym (outcome_stays Would_deadlock Deadlock t done) ∙ answers) in
        refused_out Would_deadlock Deadlock done (call_is c t 37 TryLock x k has number refl) refused (try_rests t m k (slice_get k.mutexes m) refused) asks

    unlocks : register_of x.regs 17 ≡ 38 → (unlock t (register_of x.regs 10) k).1 ≡ Returns (2 ^ 64 - 1) → asks_for NotOwner (slice_get k.tasks t) ≡ true → Gets NotOwner (call c t k)
    unfolding unlock
    unlocks number answers asks =
        let m : ℕ = argument 0 x in
        let done : Parts × Outcome = unlock_known (slice_get k.mutexes m) t m k in
        let refused : is_refused NotPermitted done.1 ≡ true = ap (is_refused NotPermitted) (sym (outcome_stays NotPermitted NotOwner t done) ∙ answers) in
        refused_out NotPermitted NotOwner done (call_is c t 38 Unlock x k has number refl) refused (unlock_rests t m k (slice_get k.mutexes m) refused) asks

    faults : (f : Fault) → asks_for DemotedByFault (slice_get k.tasks t) ≡ true → Gets DemotedByFault (fault c t f k)
    faults f asks = rw on (demoted DemotedByFault asks)

-- ---- an instruction
asks_as : (kind : NoticeKind) (bit t : ℕ) (tasks : List Task) (task : Task) → slice_get tasks t ≡ Some task → has_bit (Some bit) task.mode.bits ≡ asks_for kind (Some task) → bit_at task.mode.bits bit ≡ 1 → asks_for kind (slice_get tasks t) ≡ true
asks_as kind bit t tasks task there row asks = ap (asks_for kind) there ∙ sym row ∙ ap (λ (n : ℕ). n == 1) asks

module _ (runs : Option ℕ) (c t : ℕ) (x : Hart) (b : Board) (has : slice_get b.parts.harts t ≡ Some x) (task : Task) (there : slice_get b.parts.tasks t ≡ Some task) (on : is_oob (Some t) b.parts.tasks ≡ true) where
  executes : (hart : Hart) → IsAbout runs t hart Ecall b.parts.harts b.memory → execute x c t b ≡ on_parts (call c t) b
  unfolding execute finish
  executes hart about =
      let its = about.has in
      let same : hart ≡ x = cc in
      ap (λ (w : Option ℕ). execute_word w x c t b) (ap (λ (h : Hart). fetch h.pc b.memory) (sym same) ∙ about.fetched) ∙ ap (λ (i : Option Inst). execute_inst i x c t b) about.decodes
      ∙ ap (λ (effect : Effect). finish effect c t b) (ap (λ (h : Hart). does about.inst h.regs h.pc) (sym same) ∙ about.effect_is)

  called : (hart : Hart) (kind : NoticeKind) → IsAbout runs t hart Ecall b.parts.harts b.memory → Gets c t b.parts kind (call c t b.parts) → Gets c t b.parts kind (execute x c t b).parts
  called hart kind about gets = rw (executes hart about) gets

  own : (hart : Hart) → IsAbout runs t hart Ecall b.parts.harts b.memory → slice_get b.parts.harts t ≡ Some hart
  own hart about = about.has

  executed_gets : (kind : NoticeKind) (bit : ℕ) → bit_at task.mode.bits bit ≡ 1 → NoticeBy runs c t b.memory b.parts kind bit → Gets c t b.parts kind (execute x c t b).parts
  unfolding execute
  executed_gets _ _ asks (by_call hart about number) = called hart DemotedByCall about (calls_in_band c t b.parts hart (own hart about) on number (asks_as DemotedByCall 0 t b.parts.tasks task there refl asks))
  executed_gets _ _ asks (by_lock hart about number answers) = called hart Deadlock about (locks c t b.parts hart (own hart about) on number answers (asks_as Deadlock 1 t b.parts.tasks task there refl asks))
  executed_gets _ _ asks (by_try_lock hart about number answers) = called hart Deadlock about (tries c t b.parts hart (own hart about) on number answers (asks_as Deadlock 1 t b.parts.tasks task there refl asks))
  executed_gets _ _ asks (by_unlock hart about number answers) = called hart NotOwner about (unlocks c t b.parts hart (own hart about) on number answers (asks_as NotOwner 1 t b.parts.tasks task there refl asks))
  executed_gets _ _ asks (by_fault hart its faulty) =
      let same : hart ≡ x = cc in
      let w = words c t b (fetch x.pc b.memory) x (ap (λ (h : Hart). word_faults (fetch h.pc b.memory) h b.memory) (sym same) ∙ faulty) in
      rw w.1 (faults c t b.parts x has on w.0 (asks_as DemotedByFault 0 t b.parts.tasks task there refl asks))

-- ---- settling makes more of them, if any
more_of : (k x : Notices) (notice : Notice) → x ≡ keep notice k → k.total < x.total
unfolding keep
more_of k x notice e = let total : x.total ≡ k.total + 1 = ap (λ (n : Notices). n.total) e in omega (arith, total)

abbrev More : Parts → Parts → Type 0
More k x = (x.notices ≡ k.notices) ⊎ (k.notices.total < x.notices.total)

does_more : (a : Actor) (old : Parts) (i j : ℕ) (k x : Parts) → Does a old i j k x → More k x
unfolding restamp set_state set_policy set_slice move_task wake begin_wait tick
does_more a old _ _ _ _ (spends t x k runs there on) = of_spend (λ (y : Parts). More k y) t x.slice k (inl refl) (inl refl)
does_more a old _ _ _ _ (notes t kind k own why asked fresh) = inr (more_of k.notices _ _ refl)
does_more a old _ _ _ _ (alarms t k its fresh) = inr (more_of k.notices _ _ refl)
does_more a old _ _ _ _ _ = inl refl

more_then : (old k x : Parts) → More k x → More old k → More old x
more_then old k x (inl same) (inl was) = inl (same ∙ was)
more_then old k x (inl same) (inr more) = inr (rw same more)
more_then old k x (inr more) (inl was) = inr (rw (← was) more)
more_then old k x (inr more) (inr less) = inr (omega (arith, more, less))

walk_more : (a : Actor) (old : Parts) (n s : ℕ) (k : Parts) → Walk a old n s k → More old k
walk_more a old _ _ _ start = inl refl
walk_more a old _ _ _ (next m n s u i j k x few g d w) = more_then old k x (does_more a old i j k x d) (walk_more a old m s k w)

-- nobody acts: the processor settles, and tells the others
abbrev pub settler : ℕ → Actor
settler c = record { cpu = c; task = None; may = λ d l. true; chooses = true; calls = false; faults = false }

pub settles_only : (c : ℕ) (was : Option ℕ) (k : Parts) → current c k ≡ was → Walk (settler c) k (0 + 2 * LINES + 1) (0 + SETTLING_STAMPS) (settle_and_nudge was c k)
unfolding settle_and_nudge
settles_only c was k runs = nudges (settler c) k (0 + 2 * LINES) (0 + SETTLING_STAMPS) (settle was c k) (λ d. refl) (settles (settler c) k refl was 0 0 k runs (λ calm. unnoted refl) start)

-- ---- a step that answers Ran
pub record IsRun (c t : ℕ) (b : Board) (new : Board) : Type 0 where
  pub hart : Hart
  pub runs : current c b.parts ≡ Some t
  pub has : slice_get b.parts.harts t ≡ Some hart
  pub is : new ≡ (run hart c t b).0

module _ (c t : ℕ) (b : Board) where
  hart_if : (hit : Bool) (u : ℕ) (hart : Hart) (x : Board × Answer) → x.1 ≡ Hit → current c b.parts ≡ Some u → slice_get b.parts.harts u ≡ Some hart → (if hit then x else run hart c u b).1 ≡ Ran t → IsRun c t b (if hit then x else run hart c u b).0
  hart_if true u hart x stops runs has e = let no : Hit ≡ Ran t = sym stops ∙ e in cc
  hart_if false u hart x stops runs has e =
      let same : u ≡ t = cc in
      record { hart = hart; runs = runs ∙ ap Some same; has = ap (slice_get b.parts.harts) (sym same) ∙ has; is = ap (λ (v : ℕ). (run hart c v b).0) same }

  hart_ran : (o : Option Hart) (p : Processor) (u : ℕ) → current c b.parts ≡ Some u → slice_get b.parts.harts u ≡ o → (step_hart o p c u b).1 ≡ Ran t → IsRun c t b (step_hart o p c u b).0
  hart_ran None p u runs has e = cc
  hart_ran (Some hart) p u runs has e = hart_if (is_set b.breakpoints hart.pc && not p.skip) u hart _ refl runs has e

  current_ran : (o : Option ℕ) (p : Processor) → current c b.parts ≡ o → (step_current o p c b).1 ≡ Ran t → IsRun c t b (step_current o p c b).0
  current_ran None p runs e = cc
  current_ran (Some u) p runs e = hart_ran (slice_get b.parts.harts u) p u runs refl e

  wire_ran : (o : Option ℕ) (p : Processor) → current c b.parts ≡ p.current → (step_wire o p c b).1 ≡ Ran t → IsRun c t b (step_wire o p c b).0
  wire_ran None p runs e = current_ran p.current p runs e
  wire_ran (Some l) p runs e = cc

  pipe_ran : (o : Option Pipe) (p : Processor) → current c b.parts ≡ p.current → (step_pipe o p c b).1 ≡ Ran t → IsRun c t b (step_pipe o p c b).0
  pipe_ran None p runs e = cc
  pipe_ran (Some pipe) p runs e = wire_ran (least_line pipe.wire) p runs e

  stopped_ran : (stopped : Bool) (p : Processor) → current c b.parts ≡ p.current → (if stopped then (b, Stopped) else step_pipe (slice_get b.parts.pipes c) p c b).1 ≡ Ran t
      → IsRun c t b (if stopped then (b, Stopped) else step_pipe (slice_get b.parts.pipes c) p c b).0
  stopped_ran true p runs e = cc
  stopped_ran false p runs e = pipe_ran (slice_get b.parts.pipes c) p runs e

  processor_ran : (o : Option Processor) → slice_get b.parts.processors c ≡ o → (step_processor o c b).1 ≡ Ran t → IsRun c t b (step_processor o c b).0
  processor_ran None at e = cc
  processor_ran (Some p) at e = stopped_ran p.stopped p (ap current_of at) e

  pub step_ran : (step c b).1 ≡ Ran t → IsRun c t b (step c b).0
  unfolding step
  step_ran e = processor_ran (slice_get b.parts.processors c) refl e

  -- ---- its task gets the notice
  pub asked_gets : (kind : NoticeKind) (bit : ℕ) (task : Task) → (step c b).1 ≡ Ran t → slice_get b.parts.tasks t ≡ Some task → is_oob_ready task.state ≡ true → bit_at task.mode.bits bit ≡ 1
      → NoticeBy (current c b.parts) c t b.memory b.parts kind bit → (step c b).0.parts.notices.total ≤ b.parts.notices.total + 1
      → (step c b).0.parts.notices ≡ keep (record { tick = b.parts.ticks; task = t; kind = kind }) b.parts.notices
  asked_gets kind bit task ran there on asks why few =
      let r = step_ran ran in
      let skips : Processor → Processor = λ p. record p { skip = false } in
      let passed : Board = on_parts (on_processor c skips) b in
      let done : Parts = (execute r.hart c t passed).parts in
      let gets = executed_gets (current c b.parts) c t r.hart passed r.has task there (ap is_oob_task there ∙ on) kind bit asks (cause_moved b.parts passed.parts.processors (current c b.parts) c t b.memory kind bit why) in
      let now : current c done ≡ Some t = ap (λ ps. current_of (slice_get ps c)) gets.processors ∙ passed-current c b.parts ∙ r.runs in
      let new : (step c b).0.parts ≡ settle_and_nudge (Some t) c done = ap (λ (x : Board). x.parts) r.is in
      ap (λ (x : Parts). x.notices) new ∙ settled done (settle_and_nudge (Some t) c done) (walk_more (settler c) done _ _ _ (settles_only c (Some t) done now)) (more_of b.parts.notices done.notices _ gets.notices) (rw (← new) few) ∙ gets.notices
    where
      settled : (done x : Parts) → More done x → b.parts.notices.total < done.notices.total → x.notices.total ≤ b.parts.notices.total + 1 → x.notices ≡ done.notices
      settled done x (inl same) less few = same
      settled done x (inr more) less few = absurd (omega (arith, more, less, few))
