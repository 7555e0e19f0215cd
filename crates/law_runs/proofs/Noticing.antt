-- Which notice an instruction makes.
use Rattle.std.proofs.Common.{◌≡◌, ℕ, Bool, true, false, Option, Some, None, ◌⊎◌, inl, inr, refl, ap, sym, ◌∙◌}
use Rattle.std.specs.Prelude.{slice_get, option_map, is_none, ◌&&◌, if◌then◌else◌}
use Rattle.evm_isa.specs.Decoded.{decoded}
use Rattle.evm_isa.specs.declared.inst.Inst.{Inst}
use Rattle.evm_isa.specs.declared.inst.LoadOp.{LoadOp}
use Rattle.evm_exec.specs.Does.{does}
use Rattle.evm_exec.specs.Memory.{width_of_load}
use Rattle.evm_exec.specs.Registers.{register_of}
use Rattle.evm_exec.specs.declared.hart.Hart.{Hart}
use Rattle.evm_exec.specs.declared.outcome.Effect.{Effect}
use Rattle.evm_exec.specs.declared.outcome.Effect.TheVariants.{Next, Load, Store, Call as Ecall, Break, Misaligned}
use Rattle.evm_model.specs.Calls.{finish_call, ask_oob, call_number, call}
use Rattle.evm_model.specs.Devices.{Accessed, raise_line}
use Rattle.evm_model.specs.Harts.{A7, argument}
use Rattle.evm_model.specs.Instructions.{fault, stop, finish_load, finish_store, finish, execute_inst, execute_word, execute}
use Rattle.evm_model.specs.Locks.{lock_known, lock, try_known, try_lock, unlock_known, unlock}
use Rattle.evm_model.specs.Memory.{fetch, read, write}
use Rattle.evm_model.specs.Notices.{asks_for, keep, notify, is_refused, notify_refused}
use Rattle.evm_model.specs.Settle.{current, is_oob}
use Rattle.evm_model.specs.State.{Board, Notices, Parts, on_parts, on_processor}
use Rattle.evm_model.specs.Passing.{end_task}
use Rattle.evm_model.specs.Tasks.{demote, restamp, set_state}
use Rattle.evm_model.specs.declared.call.Call.TheVariants.{Lock, TryLock, Unlock}
use Rattle.evm_model.specs.declared.call.Outcome.{Outcome}
use Rattle.evm_model.specs.declared.errno.Errno.{Errno}
use Rattle.evm_model.specs.declared.errno.Errno.TheVariants.{Deadlock, NotPermitted}
use Rattle.evm_model.specs.declared.event.Answer.TheVariants.{Ran}
use Rattle.evm_model.specs.declared.fault.Fault.{Fault}
use Rattle.evm_model.specs.declared.notice.Notice.{Notice}
use Rattle.evm_model.specs.declared.notice.NoticeKind.{NoticeKind}
use Rattle.evm_model.specs.declared.notice.NoticeKind.TheVariants.{DemotedByFault, Deadlock as Unending, NotOwner}
use Rattle.evm_model.specs.declared.task.Task.{Task}
use Rattle.evm_model.specs.declared.task.TaskState.TheVariants.{InReady, Faulted}
use Rattle.evm_model.proofs.Lists.{change-here}
use Rattle.law_rules.proofs.Calls.{walks_closely}
use Rattle.law_rules.proofs.NoticeWalks.{NotesOne, none, one, alarm, walk_notes}
use Rattle.law_rules.proofs.Walk.{Actor, Makes, Noted, by_in_band, by_fault as faulting, by_deadlock, by_unlock as unlocking, unchanged, start}
use Rattle.law_runs.specs.Noticing.{NoticeCause, by_call, by_fault, by_lock, by_try_lock, by_unlock, GetsNotice, effect_faults, inst_faults, word_faults}
use Rattle.law_runs.specs.Places.{MakesCall}
use Rattle.law_runs.proofs.Silent.{Quiet, ended, demoted, call_is, outcome_stays, silent, refused_is, locks, tries, unlocks}

-- task t calls, and doesn't fault by that
abbrev caller : ℕ → ℕ → Actor
caller c t = record { cpu = c; task = Some t; may = λ d l. false; chooses = false; calls = true; faults = false }

pub line_notices : (o : Option ℕ) (k : Parts) → Quiet k (raise_line o k)
line_notices None k = refl
line_notices (Some l) k = refl

-- a demotion leaves what a task asks for
same_mode : (kind : NoticeKind) (f : Task → Task) (o : Option Task) → ((y : Task) → (f y).mode ≡ y.mode) → asks_for kind (option_map f o) ≡ asks_for kind o
same_mode kind f None same = refl
same_mode kind f (Some y) same = rw same refl

mode_stays : (kind : NoticeKind) (c t : ℕ) (k : Parts) → asks_for kind (slice_get (demote c t k).tasks t) ≡ asks_for kind (slice_get k.tasks t)
unfolding demote restamp set_state
mode_stays kind c t k =
    ap (asks_for kind) (change-here (λ (y : Task). record y { stamp = k.stamps }) _ t)
    ∙ same_mode kind (λ (y : Task). record y { stamp = k.stamps }) _ (λ y. refl)
    ∙ ap (asks_for kind) (change-here (λ (y : Task). record y { state = InReady }) k.tasks t)
    ∙ same_mode kind (λ (y : Task). record y { state = InReady }) (slice_get k.tasks t) (λ y. refl)

noted_if : (a : Bool) (kind : NoticeKind) (t : ℕ) (k : Parts) → asks_for kind (slice_get k.tasks t) ≡ a
    → Quiet k (notify kind t k) ⊎ ((a ≡ true) × ((notify kind t k).notices ≡ keep (record { tick = k.ticks; task = t; kind = kind }) k.notices))
unfolding notify
noted_if true kind t k e = inr (refl, rw e refl)
noted_if false kind t k e = inl (rw e refl)

module _ (c : ℕ) (b : Board) (t : ℕ) (x : Hart) (now : current c b.parts ≡ Some t) (has : slice_get b.parts.harts t ≡ Some x) where
  -- the notices are as they were, or there is one more
  abbrev pub Noticed : Notices → Type 0
  Noticed new = (new ≡ b.parts.notices) ⊎ GetsNotice c b (Ran t) new

  abbrev passed : Board
  passed = on_parts (on_processor c (λ p. record p { skip = false })) b

  abbrev k : Parts
  k = passed.parts

  gets : (kind : NoticeKind) (new : Notices) → is_oob (Some t) k.tasks ≡ true → asks_for kind (slice_get k.tasks t) ≡ true → NoticeCause c t b kind → new ≡ keep (record { tick = k.ticks; task = t; kind = kind }) k.notices → Noticed new
  gets kind new on asked why noted = inr (record { task = t; kind = kind; runs = now; ran = refl; oob = on; asked = asked; why = why; noted = noted })

  -- ---- a call
  module _ (word : ℕ) (inst : Inst) (fetched : fetch x.pc b.memory ≡ Some word) (decodes : decoded word ≡ Some inst) (calls : does inst x.regs x.pc ≡ Ecall) where
    made : (number : ℕ) → register_of x.regs A7 ≡ number → MakesCall c number x b
    made number asks = record { task = t; word = word; inst = inst; runs = now; has = has; fetched = fetched; decodes = decodes; calls = calls; asks = asks }

    -- no notice, or why the task gets one
    abbrev Why : NoticeKind → Type 0
    Why kind = Quiet k (call c t k) ⊎ ((is_oob (Some t) k.tasks ≡ true) × NoticeCause c t b kind)

    -- a call that makes one if it is refused so
    refusal_why : (kind : NoticeKind) (e : Errno) (done : Parts × Outcome) → call c t k ≡ (if is_oob (Some t) k.tasks then finish_call c t (notify_refused e kind t done) else ask_oob c t k) → Quiet k done.0
        → (is_refused e done.1 ≡ true → NoticeCause c t b kind) → Why kind
    refusal_why kind e done is plain cause = decide (is_oob (Some t) k.tasks) (is_refused e done.1) refl refl
      where
        quiet : (on refused : Bool) → is_oob (Some t) k.tasks ≡ on → is_refused e done.1 ≡ refused → (on && refused) ≡ false → Quiet k (call c t k)
        quiet on refused f g h =
            ap (λ (y : Parts). y.notices) is ∙ ap (λ (x : Bool). (if x then finish_call c t (notify_refused e kind t done) else ask_oob c t k).notices) f ∙ silent on refused e kind c t k done g h plain

        decide : (on refused : Bool) → is_oob (Some t) k.tasks ≡ on → is_refused e done.1 ≡ refused → Why kind
        decide true true f g = inr (f, cause g)
        decide true false f g = inl (quiet true false f g refl)
        decide false refused f g = inl (quiet false refused f g refl)

    lock_why : register_of x.regs A7 ≡ 36 → Why Unending
    unfolding lock
    lock_why asks =
        let m : ℕ = argument 0 x in
        let deadline : ℕ = argument 1 x in
        let plain = locks t m k b.parts.processors (slice_get k.mutexes m) c deadline in
        refusal_why Unending Deadlock (lock_known (slice_get k.mutexes m) c t m deadline k) (call_is c t 36 Lock x k has asks refl) plain.quiet
        (λ e. by_lock x (made 36 asks) (outcome_stays Deadlock Unending t (lock_known (slice_get b.parts.mutexes m) c t m deadline b.parts) ∙ plain.same ∙ refused_is Deadlock _ e))

    try_why : register_of x.regs A7 ≡ 37 → Why Unending
    unfolding try_lock
    try_why asks =
        let m : ℕ = argument 0 x in
        let plain = tries t m k b.parts.processors (slice_get k.mutexes m) in
        refusal_why Unending Deadlock (try_known (slice_get k.mutexes m) t m k) (call_is c t 37 TryLock x k has asks refl) plain.quiet
        (λ e. by_try_lock x (made 37 asks) (outcome_stays Deadlock Unending t (try_known (slice_get b.parts.mutexes m) t m b.parts) ∙ plain.same ∙ refused_is Deadlock _ e))

    unlock_why : register_of x.regs A7 ≡ 38 → Why NotOwner
    unfolding unlock
    unlock_why asks =
        let m : ℕ = argument 0 x in
        let plain = unlocks t m k b.parts.processors (slice_get k.mutexes m) in
        refusal_why NotOwner NotPermitted (unlock_known (slice_get k.mutexes m) t m k) (call_is c t 38 Unlock x k has asks refl) plain.quiet
        (λ e. by_unlock x (made 38 asks) (outcome_stays NotPermitted NotOwner t (unlock_known (slice_get b.parts.mutexes m) t m b.parts) ∙ plain.same ∙ refused_is NotPermitted _ e))

    -- the number that the task's own hart asks for
    number_of : (number : ℕ) (hart : Hart) → Makes (caller c t) k number hart → register_of x.regs A7 ≡ number
    number_of number hart makes =
        let acts = makes.acts in
        let its : makes.task ≡ t = cc in
        let two : Some hart ≡ Some x = sym makes.has ∙ ap (slice_get k.harts) its ∙ has in
        let same : hart ≡ x = cc in
        ap (λ (y : Hart). register_of y.regs A7) (sym same) ∙ makes.asks

    why : (u : ℕ) (kind : NoticeKind) → u ≡ t → Noted (caller c t) k u kind → Why kind
    why u _ same (by_in_band call hart makes stage on) = inr (ap (λ n. is_oob (Some n) k.tasks) (sym same) ∙ on, by_call call x (made (call_number call) (number_of (call_number call) hart makes)) stage)
    why u _ same (faulting may on) = cc
    why u _ same (by_deadlock hart (inl makes)) = lock_why (number_of 36 hart makes)
    why u _ same (by_deadlock hart (inr makes)) = try_why (number_of 37 hart makes)
    why u _ same (unlocking hart makes) = unlock_why (number_of 38 hart makes)

    of_walk : (new : Notices) → new ≡ (call c t k).notices → NotesOne (caller c t) k new → Noticed (call c t k).notices
    of_walk _ same none = inl (sym same)
    of_walk _ same (alarm notice n) = let chooses = n.chooses in cc
    of_walk _ same (one notice n) =
        let acts = n.acts in
        let its : notice.task ≡ t = cc in
        elim (why notice.task notice.kind its n.why) [
          | inl quiet ↦ inl quiet
          | inr w ↦
              let is : notice ≡ record { tick = k.ticks; task = t; kind = notice.kind } =
              ap (λ (i : ℕ). record { tick = i; task = notice.task; kind = notice.kind }) (n.moment 0 refl) ∙ ap (λ (i : ℕ). record { tick = k.ticks; task = i; kind = notice.kind }) its in
              gets notice.kind _ w.0 (ap (λ i. asks_for notice.kind (slice_get k.tasks i)) (sym its) ∙ n.asked) w.1 (sym same ∙ ap (λ (i : Notice). keep i k.notices) is)
        ]

    call_notices : Noticed (call c t k).notices
    call_notices = of_walk _ refl (walk_notes (caller c t) k (λ chooses. cc) 1 65 (call c t k) (walks_closely (caller c t) k k t refl (unchanged k) start refl))

  -- ---- a fault, and what goes well
  faulted : word_faults (fetch x.pc b.memory) x b.memory ≡ true → (f : Fault) → Noticed (fault c t f k).notices
  unfolding demote restamp set_state
  faulted faults f = by (is_oob (Some t) k.tasks) refl
    where
      same : keep (record { tick = (demote c t k).ticks; task = t; kind = DemotedByFault }) (demote c t k).notices ≡ keep (record { tick = k.ticks; task = t; kind = DemotedByFault }) k.notices
      same = refl

      asked : (a : Bool) → asks_for DemotedByFault (slice_get k.tasks t) ≡ a → is_oob (Some t) k.tasks ≡ true → Noticed (notify DemotedByFault t (demote c t k)).notices
      asked a e on = elim (noted_if a DemotedByFault t (demote c t k) (mode_stays DemotedByFault c t k ∙ e)) [
        | inl quiet ↦ inl (quiet ∙ demoted c t k)
        | inr w ↦ gets DemotedByFault _ on (e ∙ w.0) (by_fault x has faults) (w.1 ∙ same)
      ]

      by : (on : Bool) → is_oob (Some t) k.tasks ≡ on → Noticed (if on then notify DemotedByFault t (demote c t k) else end_task c t (Faulted f) k).notices
      by true on = asked (asks_for DemotedByFault (slice_get k.tasks t)) refl on
      by false on = inl (ended c t (Faulted f) k)

  loads : (o : Option Accessed) (op : LoadOp) (rd : ℕ) → (is_none o ≡ true → word_faults (fetch x.pc b.memory) x b.memory ≡ true) → Noticed (finish_load o op rd c t passed).parts.notices
  loads None op rd faults = faulted (faults refl) _
  loads (Some access) op rd faults = inl (line_notices access.line _)

  stores : (o : Option Accessed) → (is_none o ≡ true → word_faults (fetch x.pc b.memory) x b.memory ≡ true) → Noticed (finish_store o c t passed).parts.notices
  stores None faults = faulted (faults refl) _
  stores (Some access) faults = inl (line_notices access.line _)

  effects : (word : ℕ) (inst : Inst) → fetch x.pc b.memory ≡ Some word → decoded word ≡ Some inst → (effect : Effect) → does inst x.regs x.pc ≡ effect
      → (effect_faults effect b.memory ≡ true → word_faults (fetch x.pc b.memory) x b.memory ≡ true) → Noticed (finish effect c t passed).parts.notices
  unfolding finish stop
  effects word inst fetched decodes (Next rd value pc) is faults = inl refl
  effects word inst fetched decodes (Load op rd address) is faults = loads (read address (width_of_load op) b.memory) op rd faults
  effects word inst fetched decodes (Store width address value) is faults = stores (write address width value b.memory) faults
  effects word inst fetched decodes Ecall is faults = call_notices word inst fetched decodes is
  effects word inst fetched decodes Break is faults = inl refl
  effects word inst fetched decodes Misaligned is faults = faulted (faults refl) _

  insts : (word : ℕ) (o : Option Inst) → fetch x.pc b.memory ≡ Some word → decoded word ≡ o → Noticed (execute_inst o x c t passed).parts.notices
  insts word None fetched decodes = faulted (ap (λ w. word_faults w x b.memory) fetched ∙ ap (λ i. inst_faults i x b.memory) decodes) _
  insts word (Some inst) fetched decodes =
      effects word inst fetched decodes (does inst x.regs x.pc) refl (λ e. ap (λ w. word_faults w x b.memory) fetched ∙ ap (λ i. inst_faults i x b.memory) decodes ∙ e)

  words : (o : Option ℕ) → fetch x.pc b.memory ≡ o → Noticed (execute_word o x c t passed).parts.notices
  words None fetched = faulted (ap (λ w. word_faults w x b.memory) fetched) _
  words (Some word) fetched = insts word (decoded word) fetched refl

  pub executed_notices : Noticed (execute x c t passed).parts.notices
  unfolding execute
  executed_notices = words (fetch x.pc b.memory) refl
