-- Each row keeps boards alike, and answers the same.
use Rattle.std.proofs.Common.{ℕ, Bool, true, false, not, ◌&&◌, Option, Some, None, refl, ap}
use Rattle.std.specs.Prelude.{slice_get}
use Rattle.evm_lines.specs.Lines.{least_line}
use Rattle.evm_exec.specs.declared.hart.Hart.{Hart}
use Rattle.evm_model.specs.Actions.{receive_line}
use Rattle.evm_model.specs.Commands.{tick, set_bits, on_current, is_set}
use Rattle.evm_model.specs.Harts.{set_register, set_pc}
use Rattle.evm_model.specs.Instructions.{stop}
use Rattle.evm_model.specs.Pipes.{Pipe, raise}
use Rattle.evm_model.specs.Rows.{run, step_hart, step_current, step_wire, step_pipe, step_processor, step, single_step, row}
use Rattle.evm_model.specs.Settle.{settle_and_nudge}
use Rattle.evm_model.specs.State.{Board, on_parts, on_pipe, on_processor}
use Rattle.evm_model.specs.declared.processor.Processor.{Processor}
use Rattle.evm_model.specs.declared.event.Event.TheVariants.{Step, Tick, Raise, Bell, Stop, Go, StepI, SetReg, SetPc, Poke, Break, Unbreak}
use Rattle.law_runs.specs.Alike.{AlikeBoards, RowsKeepAlike}
use Rattle.law_runs.proofs.Alike.Boards.{boards_by, AlikeAnswered, answered_if}
use Rattle.law_runs.proofs.Alike.Changing.{alike_processor}
use Rattle.law_runs.proofs.Alike.Commands.{alike_tick, alike_bits, alike_stop, alike_current, boards_tick, boards_poke, boards_break, boards_unbreak}
use Rattle.law_runs.proofs.Alike.Devices.{alike_raise, alike_receive}
use Rattle.law_runs.proofs.Alike.Instructions.{boards_execute}
use Rattle.law_runs.proofs.Alike.Reading.{at_pipe, harts-same, processors-same}
use Rattle.law_runs.proofs.Alike.Settling.{alike_settle_and_nudge}

boards_settle : {a b : Board} → AlikeBoards a b → (was : Option ℕ) (c : ℕ) → AlikeBoards (on_parts (settle_and_nudge was c) a) (on_parts (settle_and_nudge was c) b)
boards_settle s was c = boards_by s (settle_and_nudge was c) (alike_settle_and_nudge s.parts was c)

module _ {a b : Board} (s : AlikeBoards a b) where
  alike_run : (hart : Hart) (c t : ℕ) → AlikeAnswered (run hart c t a) (run hart c t b)
  alike_run hart c t =
      let f : Processor → Processor = λ p. record p { skip = false } in
      (boards_settle (boards_execute (boards_by s (on_processor c f) (alike_processor s.parts c f)) c t hart) (Some t) c, refl)

  alike_step_hart : (o : Option Hart) (p : Processor) (c t : ℕ) → AlikeAnswered (step_hart o p c t a) (step_hart o p c t b)
  alike_step_hart None p c t = (s, refl)
  alike_step_hart (Some hart) p c t =
      answered_if (ap (λ addresses. is_set addresses hart.pc && not p.skip) s.breakpoints) (boards_by s (stop c) (alike_stop s.parts c), refl) (alike_run hart c t)

  alike_step_current : (o : Option ℕ) (p : Processor) (c : ℕ) → AlikeAnswered (step_current o p c a) (step_current o p c b)
  alike_step_current None p c = (boards_settle s None c, refl)
  alike_step_current (Some t) p c = rw (ap (λ harts. slice_get harts t) (harts-same s.parts)) (alike_step_hart (slice_get b.parts.harts t) p c t)

  alike_step_wire : (o : Option ℕ) (p : Processor) (c : ℕ) → AlikeAnswered (step_wire o p c a) (step_wire o p c b)
  alike_step_wire None p c = alike_step_current p.current p c
  alike_step_wire (Some l) p c = (boards_settle (boards_by s (receive_line c l) (alike_receive s.parts c l)) p.current c, refl)

  alike_step_pipe : (o : Option Pipe) (p : Processor) (c : ℕ) → AlikeAnswered (step_pipe o p c a) (step_pipe o p c b)
  alike_step_pipe None p c = (s, refl)
  alike_step_pipe (Some pipe) p c = alike_step_wire (least_line pipe.wire) p c

  alike_pipe_there : (p : Processor) (c : ℕ) → AlikeAnswered (step_pipe (slice_get a.parts.pipes c) p c a) (step_pipe (slice_get b.parts.pipes c) p c b)
  alike_pipe_there p c = rw (at_pipe (λ o. step_pipe o p c a) c (λ x. refl) s.parts) (alike_step_pipe (slice_get b.parts.pipes c) p c)

  alike_step_processor : (o : Option Processor) (c : ℕ) → AlikeAnswered (step_processor o c a) (step_processor o c b)
  alike_step_processor None c = (s, refl)
  alike_step_processor (Some p) c = answered_if refl (s, refl) (alike_pipe_there p c)

  alike_step : (c : ℕ) → AlikeAnswered (step c a) (step c b)
  unfolding step
  alike_step c = rw (ap (λ processors. slice_get processors c) (processors-same s.parts)) (alike_step_processor (slice_get b.parts.processors c) c)

boards_bits : {a b : Board} → AlikeBoards a b → (stopped skip : Bool) (c : ℕ) → AlikeBoards (on_parts (set_bits stopped skip c) a) (on_parts (set_bits stopped skip c) b)
boards_bits s stopped skip c = boards_by s (set_bits stopped skip c) (alike_bits s.parts stopped skip c)

boards_single_step : {a b : Board} → AlikeBoards a b → (c : ℕ) → AlikeBoards (single_step c a) (single_step c b)
unfolding single_step
boards_single_step s c = boards_bits (alike_step (boards_bits s false true c) c).0 true false c

pub rows_keep_alike : RowsKeepAlike
unfolding row
rows_keep_alike (Step c) a b s = alike_step s c
rows_keep_alike Tick a b s = (boards_by (boards_tick s) tick (alike_tick (boards_tick s).parts), refl)
rows_keep_alike (Raise c l) a b s = (boards_by s (on_pipe c (raise l)) (alike_raise s.parts c l), refl)
rows_keep_alike (Bell c l) a b s = (boards_by s (on_pipe c (raise l)) (alike_raise s.parts c l), refl)
rows_keep_alike (Stop c) a b s = (boards_by s (stop c) (alike_stop s.parts c), refl)
rows_keep_alike (Go c) a b s = (boards_bits s false true c, refl)
rows_keep_alike (StepI c) a b s = (boards_single_step s c, refl)
rows_keep_alike (SetReg c r value) a b s = (boards_by s (on_current c (set_register r value)) (alike_current s.parts c (set_register r value)), refl)
rows_keep_alike (SetPc c pc) a b s = (boards_by s (on_current c (set_pc pc)) (alike_current s.parts c (set_pc pc)), refl)
rows_keep_alike (Poke address bytes) a b s = (boards_poke s address bytes.items, refl)
rows_keep_alike (Break address) a b s = (boards_break s address, refl)
rows_keep_alike (Unbreak address) a b s = (boards_unbreak s address, refl)
