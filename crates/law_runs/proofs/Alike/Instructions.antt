-- Instructions on alike boards.
use Rattle.std.proofs.Common.{ℕ, Option, Some, None, refl, subst}
use Rattle.evm_isa.specs.Decoded.{decoded}
use Rattle.evm_isa.specs.declared.inst.Inst.{Inst}
use Rattle.evm_isa.specs.declared.inst.LoadOp.{LoadOp}
use Rattle.evm_exec.specs.Does.{does}
use Rattle.evm_exec.specs.Memory.{loaded_value, width_of_load}
use Rattle.evm_exec.specs.declared.hart.Hart.{Hart}
use Rattle.evm_exec.specs.declared.outcome.Effect.{Effect}
use Rattle.evm_exec.specs.declared.outcome.Effect.TheVariants.{Next, Load, Store, Call, Break, Misaligned}
use Rattle.evm_model.specs.Calls.{call}
use Rattle.evm_model.specs.Devices.{Accessed}
use Rattle.evm_model.specs.Harts.{set_register, set_pc, advance}
use Rattle.evm_model.specs.Instructions.{fault, stop, finish_load, finish_store, finish, execute_inst, execute_word, execute}
use Rattle.evm_model.specs.Memory.{fetch, read, write}
use Rattle.evm_model.specs.State.{Board, Parts, on_hart}
use Rattle.evm_model.specs.declared.fault.Fault.{Fault}
use Rattle.evm_model.specs.declared.fault.Fault.TheVariants.{Misaligned as Misaligned_target, Fetch, Illegal, Load as Bad_load, Store as Bad_store}
use Rattle.evm_model.specs.declared.notice.NoticeKind.TheVariants.{DemotedByFault}
use Rattle.evm_model.specs.declared.task.TaskState.TheVariants.{Faulted}
use Rattle.law_runs.specs.Alike.{Alike, AlikeBoards}
use Rattle.law_runs.proofs.Alike.Boards.{boards_by}
use Rattle.law_runs.proofs.Alike.Calls.{alike_call}
use Rattle.law_runs.proofs.Alike.Changing.{alike_if, alike_hart}
use Rattle.law_runs.proofs.Alike.Commands.{alike_stop}
use Rattle.law_runs.proofs.Alike.Devices.{alike_line}
use Rattle.law_runs.proofs.Alike.Reading.{is_oob-same}
use Rattle.law_runs.proofs.Alike.Tasks.{alike_notify, alike_demote, alike_end_task}

alike_fault : {p q : Parts} → Alike p q → (c t : ℕ) (f : Fault) → Alike (fault c t f p) (fault c t f q)
alike_fault a c t f = alike_if (is_oob-same a (Some t)) (alike_notify (alike_demote a c t) DemotedByFault t) (alike_end_task a c t (Faulted f))

module _ {a b : Board} (s : AlikeBoards a b) (c t : ℕ) where
  boards_load : (o : Option Accessed) (op : LoadOp) (rd : ℕ) → AlikeBoards (finish_load o op rd c t a) (finish_load o op rd c t b)
  boards_load None op rd = boards_by s (fault c t Bad_load) (alike_fault s.parts c t Bad_load)
  boards_load (Some access) op rd = record {
    memory = refl;
    breakpoints = s.breakpoints;
    parts = alike_line (alike_hart s.parts t (λ hart. advance (set_register rd (loaded_value op access.number) hart))) access.line;
  }

  boards_store : (o : Option Accessed) → AlikeBoards (finish_store o c t a) (finish_store o c t b)
  boards_store None = boards_by s (fault c t Bad_store) (alike_fault s.parts c t Bad_store)
  boards_store (Some access) = record { memory = refl; breakpoints = s.breakpoints; parts = alike_line (alike_hart s.parts t advance) access.line }

  boards_finish : (effect : Effect) → AlikeBoards (finish effect c t a) (finish effect c t b)
  unfolding finish
  boards_finish (Next rd value pc) =
      let f : Hart → Hart = λ hart. set_pc pc (set_register rd value hart) in boards_by s (on_hart t f) (alike_hart s.parts t f)
  boards_finish (Load op rd address) =
      subst (λ m. AlikeBoards (finish_load (read address (width_of_load op) a.memory) op rd c t a) (finish_load (read address (width_of_load op) m) op rd c t b)) s.memory
      (boards_load (read address (width_of_load op) a.memory) op rd)
  boards_finish (Store width address value) =
      subst (λ m. AlikeBoards (finish_store (write address width value a.memory) c t a) (finish_store (write address width value m) c t b)) s.memory
      (boards_store (write address width value a.memory))
  boards_finish Call = boards_by s (call c t) (alike_call s.parts c t)
  boards_finish Break = boards_by s (λ p. stop c (on_hart t advance p)) (alike_stop (alike_hart s.parts t advance) c)
  boards_finish Misaligned = boards_by s (fault c t Misaligned_target) (alike_fault s.parts c t Misaligned_target)

  boards_inst : (o : Option Inst) (hart : Hart) → AlikeBoards (execute_inst o hart c t a) (execute_inst o hart c t b)
  boards_inst None hart = boards_by s (fault c t Illegal) (alike_fault s.parts c t Illegal)
  boards_inst (Some inst) hart = boards_finish (does inst hart.regs hart.pc)

  boards_word : (o : Option ℕ) (hart : Hart) → AlikeBoards (execute_word o hart c t a) (execute_word o hart c t b)
  boards_word None hart = boards_by s (fault c t Fetch) (alike_fault s.parts c t Fetch)
  boards_word (Some word) hart = boards_inst (decoded word) hart

  pub boards_execute : (hart : Hart) → AlikeBoards (execute hart c t a) (execute hart c t b)
  unfolding execute
  boards_execute hart =
      subst (λ m. AlikeBoards (execute_word (fetch hart.pc a.memory) hart c t a) (execute_word (fetch hart.pc m) hart c t b)) s.memory (boards_word (fetch hart.pc a.memory) hart)
