use Rattle.std.proofs.Common.{◌≡◌, ◌≢◌, ℕ, ◌<◌, true, false, Option, Some, inl, inr, ap, sym, ◌∙◌, arith}
use Rattle.evm_exec.specs.Registers.{register_of}
use Rattle.evm_exec.specs.declared.hart.Hart.{Hart}
use Rattle.evm_exec.specs.declared.outcome.Effect.{Effect}
use Rattle.evm_exec.specs.declared.outcome.Effect.TheVariants.{Call}
use Rattle.evm_isa.specs.declared.inst.Inst.{Inst}
use Rattle.evm_model.specs.Memory.{fetch}
use Rattle.evm_model.specs.State.{Memory, Parts}
use Rattle.evm_model.specs.declared.event.Event.TheVariants.{Step}
use Rattle.evm_model.specs.declared.notice.NoticeKind.{NoticeKind}
use Rattle.law_runs.specs.Noticing.{effect_faults, inst_faults, word_faults}
use Rattle.claims_machine.specs.About.{IsAbout}
use Rattle.claims_machine.specs.Noticed.{NoticeBy, by_call, by_fault, by_lock, by_try_lock, by_unlock}
use Rattle.claims_machine.proofs.Reached.{good}
use Rattle.claims_machine.proofs.Whole.{changes_only}
use Rattle.claims_machine.proofs.notices.a_step_makes_one_notice_at_most.Goals as goal

pub returns-clause-one : goal.returns-clause-one
returns-clause-one g boot old new answer c reached e =
    let rules = good g.rules_hold.ensures.booted g.rules_hold.ensures.loaded boot old reached in
    (changes_only c old.board new.board ((g.events_change_only.ensures old new (Step c) answer e).board rules.good rules.devices.few)).notices

-- another number than those of the calls that may make one
module _ (runs : Option ℕ) (c t task : ℕ) (hart : Hart) (memory : Memory) (old : Parts) (is : runs ≡ Some t) (call : IsAbout runs task hart Call old.harts memory)
    (more : 14 < register_of hart.regs 17) (lock : register_of hart.regs 17 ≢ 36) (try_lock : register_of hart.regs 17 ≢ 37) (unlock : register_of hart.regs 17 ≢ 38) where
  same_number : (other : Hart) → IsAbout runs t other Call old.harts memory → register_of other.regs 17 ≡ register_of hart.regs 17
  same_number other about =
      let here = call.current in
      let has = call.has in
      let its = about.has in
      let one : task ≡ t = cc in
      let two : other ≡ hart = cc in
      ap (λ (h : Hart). register_of h.regs 17) two

  none_by : (kind : NoticeKind) (bit : ℕ) → NoticeBy runs c t memory old kind bit → ⊥
  none_by _ _ (by_call other about number) = let same = same_number other about in omega (arith, same, number, more)
  none_by _ _ (by_lock other about number answers) = lock (sym (same_number other about) ∙ number)
  none_by _ _ (by_try_lock other about number answers) = try_lock (sym (same_number other about) ∙ number)
  none_by _ _ (by_unlock other about number answers) = unlock (sym (same_number other about) ∙ number)
  none_by _ _ (by_fault other has faults) =
      let here = call.current in
      let its = call.has in
      let one : task ≡ t = cc in
      let two : other ≡ hart = cc in
      let right : word_faults (fetch hart.pc memory) hart memory ≡ false =
      ap (λ (w : Option ℕ). word_faults w hart memory) call.fetched ∙ ap (λ (i : Option Inst). inst_faults i hart memory) call.decodes ∙ ap (λ (effect : Effect). effect_faults effect memory) call.effect_is in
      let wrong : word_faults (fetch hart.pc memory) hart memory ≡ true = ap (λ (h : Hart). word_faults (fetch h.pc memory) h memory) (sym two) ∙ faults in
      let no : false ≡ true = sym right ∙ wrong in
      cc

pub returns-clause-none : goal.returns-clause-none
returns-clause-none g boot old new answer c task hart reached e call more lock try_lock unlock =
    let rules = good g.rules_hold.ensures.booted g.rules_hold.ensures.loaded boot old reached in
    elim (changes_only c old.board new.board ((g.events_change_only.ensures old new (Step c) answer e).board rules.good rules.devices.few)).notices [
      | inl same ↦ inl same
      | inr (inr n) ↦ inr n
      | inr (inl n) ↦ absurd (none_by _ c n.notice.task task hart old.board.memory old.board.parts n.is_current call more lock try_lock unlock n.notice.kind n.bit n.by)
    ]
