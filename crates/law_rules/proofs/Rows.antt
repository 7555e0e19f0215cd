-- A Step of a private row changes its task's registers and pc, and nothing else.
use Rattle.std.proofs.Common.{◌≡◌, ℕ, ◌<◌, List, Some, None, Bool, false, Ok, length, refl, ap, sym, ◌∙◌, arith}
use Rattle.std.specs.Prelude.{slice_get, if◌then◌else◌}
use Rattle.std.proofs.lemmas.Bool.Decides.{nat_tests}
use Rattle.evm_exec.specs.declared.hart.Hart.{Hart}
use Rattle.evm_exec.specs.declared.outcome.Effect.{Effect}
use Rattle.evm_exec.specs.declared.outcome.Effect.TheVariants.{Next}
use Rattle.evm_exec.specs.Does.{does}
use Rattle.evm_isa.specs.Decoded.{decoded}
use Rattle.evm_isa.specs.declared.inst.Inst.{Inst}
use Rattle.evm_lines.specs.Lines.{least_line}
use Rattle.evm_model.specs.Good.{Good}
use Rattle.evm_model.specs.Harts.{set_pc, set_register}
use Rattle.evm_model.specs.Instructions.{finish, execute_inst, execute_word, execute}
use Rattle.evm_model.specs.Lists.{change}
use Rattle.evm_model.specs.Memory.{fetch}
use Rattle.evm_model.specs.Pipes.{Pipe}
use Rattle.evm_model.specs.Refusals.{board_refusal, is_full, refusal}
use Rattle.evm_model.specs.Replay.{accept, apply, apply_unless}
use Rattle.evm_model.specs.Rows.{run, step_hart, step_current, step_wire, step_pipe, step_processor, step, row}
use Rattle.evm_model.specs.Settle.{settle_and_nudge}
use Rattle.evm_model.specs.State.{State, Board, Parts, on_hart, on_parts, on_processor}
use Rattle.evm_model.specs.declared.event.Answer.{Answer}
use Rattle.evm_model.specs.declared.event.Answer.TheVariants.{Ran, Stopped}
use Rattle.evm_model.specs.declared.event.Event.TheVariants.{Step}
use Rattle.evm_model.specs.declared.processor.Processor.{Processor}
use Rattle.law_rules.specs.Rests.{IsClear}
use Rattle.law_rules.specs.Rules.{PrivateRowsChangeOneHart}
use Rattle.law_rules.proofs.Private.{private_skip}

module _ (c t rd value pc : ℕ) where
  abbrev changed : Parts → Parts
  changed k = on_hart t (λ hart. set_pc pc (set_register rd value hart)) (on_processor c (λ p. record p { skip = false }) k)

  does_it : (hart : Hart) (word : ℕ) (inst : Inst) (b : Board) → fetch hart.pc b.memory ≡ Some word → decoded word ≡ Some inst → does inst hart.regs hart.pc ≡ Next rd value pc
      → execute hart c t b ≡ on_parts (on_hart t (λ hart. set_pc pc (set_register rd value hart))) b
  unfolding execute finish
  does_it hart word inst b e f g =
      ap (λ o. execute_word o hart c t b) e ∙ ap (λ o. execute_inst o hart c t b) f ∙ ap (λ (x : Effect). finish x c t b) g

  runs_it : (hart : Hart) (word : ℕ) (inst : Inst) (b : Board) → Good b.parts → IsClear c t b.parts → fetch hart.pc b.memory ≡ Some word → decoded word ≡ Some inst → does inst hart.regs hart.pc ≡ Next rd value pc
      → run hart c t b ≡ (on_parts changed b, Ran t)
  runs_it hart word inst b good clear e f g =
      let passed : Board = on_parts (on_processor c (λ p. record p { skip = false })) b in
      let harts : List Hart = change (λ hart. set_pc pc (set_register rd value hart)) b.parts.harts t in
      ap (λ (x : Board). (on_parts (settle_and_nudge (Some t) c) x, Ran t)) (does_it hart word inst passed e f g)
      ∙ ap (λ (k : Parts). (record b { parts = k }, Ran t)) (private_skip c t b.parts harts good clear)

  steps_it : (hart : Hart) (p : Processor) (pipe : Pipe) (b : Board) (after : Board × Answer) → slice_get b.parts.processors c ≡ Some p → p.stopped ≡ false → slice_get b.parts.pipes c ≡ Some pipe → least_line pipe.wire ≡ None → p.current ≡ Some t
      → slice_get b.parts.harts t ≡ Some hart → step_hart (Some hart) p c t b ≡ after → step c b ≡ after
  unfolding step
  steps_it hart p pipe b after at goes there clear runs has h =
      ap (λ o. step_processor o c b) at ∙ ap (λ (s : Bool). if s then (b, Stopped) else step_pipe (slice_get b.parts.pipes c) p c b) goes ∙ ap (λ o. step_pipe o p c b) there ∙ ap (λ o. step_wire o p c b) clear
      ∙ ap (λ o. step_current o p c b) runs ∙ ap (λ o. step_hart o p c t b) has ∙ h

  refused_not : (s : State) (p : Processor) → length s.journal < s.boot.capacity → slice_get s.board.parts.processors c ≡ Some p → refusal (Step c) s ≡ None
  unfolding board_refusal
  refused_not s p room at =
      let room_left : is_full s ≡ false = grind (arith, nat_tests) in rw (room_left, at) refl

  applied : (s : State) (p : Processor) (after : Board × Answer) → length s.journal < s.boot.capacity → slice_get s.board.parts.processors c ≡ Some p → step c s.board ≡ after
      → apply s (Step c) ≡ Ok (accept (Step c) after s)
  unfolding apply row
  applied s p after room at h = ap (λ o. apply_unless o (Step c) s) (refused_not s p room at) ∙ ap (λ (x : Board × Answer). Ok (accept (Step c) x s)) h

same_processor : (processors : List Processor) (c : ℕ) (p q : Processor) → slice_get processors c ≡ Some p → slice_get processors c ≡ Some q → p ≡ q
same_processor processors c p q e f = let two : Some p ≡ Some q = sym e ∙ f in cc

pub private_rows : PrivateRowsChangeOneHart
private_rows c t rd value pc hart s good room r =
    let b : Board = s.board in
    let same : r.clear.processor ≡ r.processor = same_processor b.parts.processors c r.clear.processor r.processor r.clear.at r.at in
    let runs : r.processor.current ≡ Some t = rw (← same) r.clear.runs in
    let here : step_hart (Some hart) r.processor c t b ≡ run hart c t b = rw r.passes refl in
    let stepped : step c b ≡ (on_parts (changed c t rd value pc) b, Ran t) = steps_it c t rd value pc hart r.processor r.clear.pipe b (on_parts (changed c t rd value pc) b, Ran t) r.at r.goes r.clear.there r.clear.clear runs r.has
    (here ∙ runs_it c t rd value pc hart r.word r.inst b good.good r.clear r.fetched r.decodes r.private) in
    applied c t rd value pc s r.processor (on_parts (changed c t rd value pc) b, Ran t) room r.at stepped
