-- Where a line's word stands, a task that is there executes the line's instruction, and a Step does so.
use Rattle.std.proofs.Common.{◌≡◌, ◌↔◌, ◌⊎◌, inl, inr, ℕ, ◌<◌, ◌^◌, List, Option, Some, None, Ok, Bool, true, false, not, ◌&&◌, cond, length, refl, sym, ap, ◌∙◌}
use Rattle.std.specs.Prelude.{nat_le, slice_get}
use Rattle.std.proofs.lemmas.Bool.{lt-leb}
use Rattle.evm_isa.specs.Decoded.{decoded}
use Rattle.evm_isa.specs.Table.{Row}
use Rattle.evm_isa.specs.declared.inst.Inst.{Inst}
use Rattle.evm_lines.specs.Lines.{least_line}
use Rattle.evm_elf.specs.evm_asm.Assembled.{IsWorded}
use Rattle.evm_elf.specs.evm_asm.declared.output.ProgramLine.{ProgramLine}
use Rattle.evm_exec.specs.declared.hart.Hart.{Hart}
use Rattle.evm_model.specs.declared.refusal.Refusal.{Refusal}
use Rattle.evm_model.specs.Commands.{is_set}
use Rattle.evm_model.specs.Instructions.{execute, stop}
use Rattle.evm_model.specs.Memory.{fetch}
use Rattle.evm_model.specs.Pipes.{Pipe}
use Rattle.evm_model.specs.Refusals.{board_refusal, refusal}
use Rattle.evm_model.specs.Replay.{accept, apply_unless, apply}
use Rattle.evm_model.specs.Rows.{row, run, step_hart, step_current, step_wire, step_pipe, step_processor, step}
use Rattle.evm_model.specs.Settle.{settle_and_nudge}
use Rattle.evm_model.specs.State.{State, Board, on_parts}
use Rattle.evm_model.specs.declared.event.Answer.{Answer}
use Rattle.evm_model.specs.declared.event.Answer.TheVariants.{Hit, Ran, Stopped}
use Rattle.evm_model.specs.declared.event.Event.TheVariants.{Step}
use Rattle.evm_model.specs.declared.processor.Processor.{Processor}
use Rattle.claims_texts.specs.Running.{IsAtLine, ExecutesLine, StepsLine, AcceptsStep, execute_some, skip_off}

module _ (law : (w : ℕ) (i : Inst) → w < 2 ^ 32 → (decoded w ≡ Some i) ↔ Row i w) where
  pub executes : (l : ProgramLine) → IsWorded l → ExecutesLine l
  unfolding execute
  executes l w c t hart b h =
      let read : fetch hart.pc b.memory ≡ Some l.word = rw h.pc h.word in
      let is : decoded l.word ≡ Some l.instruction = (law l.word l.instruction w.fits).1 w.table in
      rw (h.there, read, is, h.pc) refl

  -- no breakpoint stops it
  unstopped : (set skip : Bool) → (set ≡ false) ⊎ (skip ≡ true) → (set && not skip) ≡ false
  unstopped set skip (inl e) = rw e refl
  unstopped false skip (inr e) = refl
  unstopped true skip (inr e) = rw e refl

  pub steps : (l : ProgramLine) → IsWorded l → StepsLine l
  unfolding row step
  steps l w c t p pipe hart b h at =
      let goes : (is_set b.breakpoints l.address && not p.skip) ≡ false = unstopped (is_set b.breakpoints l.address) p.skip h.passes in
      let before : Board = skip_off c b in
      let at_line : IsAtLine l t hart before = record { there = at.there; pc = at.pc; word = at.word } in
      ap (λ (o : Option Processor). step_processor o c b) h.there
      ∙ ap (λ (x : Bool). cond x (b, Stopped) (step_pipe (slice_get b.parts.pipes c) p c b)) h.goes
      ∙ ap (λ (o : Option Pipe). step_pipe o p c b) h.its_pipe
      ∙ ap (λ (lines : List ℕ). step_wire (least_line lines) p c b) h.wire
      ∙ ap (λ (o : Option ℕ). step_current o p c b) h.current
      ∙ ap (λ (o : Option Hart). step_hart o p c t b) at.there
      ∙ ap (λ (pc : ℕ). cond (is_set b.breakpoints pc && not p.skip) (on_parts (stop c) b, Hit) (run hart c t b)) at.pc
      ∙ ap (λ (x : Bool). cond x (on_parts (stop c) b, Hit) (run hart c t b)) goes
      ∙ ap (λ (o : Option Hart). (on_parts (settle_and_nudge (Some t) c) (execute_some o c t before), Ran t)) (sym at.there)
      ∙ ap (λ (after : Board). (on_parts (settle_and_nudge (Some t) c) after, Ran t)) (executes l w c t hart before at_line)

  -- nothing is wrong with a Step of a processor that is there
  allowed : (s : State) (c : ℕ) (p : Processor) → length s.journal < s.boot.capacity → slice_get s.board.parts.processors c ≡ Some p
      → refusal (Step c) s ≡ None
  unfolding board_refusal
  allowed s c p room there =
      let small : nat_le s.boot.capacity (length s.journal) ≡ false = lt-leb _ _ room in
      rw (small, there) refl

  pub accepts : (l : ProgramLine) → IsWorded l → AcceptsStep l
  unfolding apply
  accepts l w c t p pipe hart s room h at =
      ap (λ (o : Option Refusal). apply_unless o (Step c) s) (allowed s c p room h.there)
      ∙ ap (λ (after : Board × Answer). Ok (accept (Step c) after s)) (steps l w c t p pipe hart s.board h at)
