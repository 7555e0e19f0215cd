-- Instructions of a task that isn't ahead, where others are.
use Rattle.std.proofs.Common.{◌≡◌, ℕ, true, Option, Some, None, refl, subst}
use Rattle.evm_isa.specs.Decoded.{decoded}
use Rattle.evm_isa.specs.declared.inst.Inst.{Inst}
use Rattle.evm_isa.specs.declared.inst.LoadOp.{LoadOp}
use Rattle.evm_exec.specs.Does.{does}
use Rattle.evm_exec.specs.Memory.{loaded_value, width_of_load}
use Rattle.evm_exec.specs.declared.hart.Hart.{Hart}
use Rattle.evm_exec.specs.declared.outcome.Effect.{Effect}
use Rattle.evm_exec.specs.declared.outcome.Effect.TheVariants.{Next, Load, Store, Call, Break, Misaligned}
use Rattle.evm_model.specs.Calls.{call}
use Rattle.evm_model.specs.Devices.{Accessed}
use Rattle.evm_model.specs.Harts.{set_register, set_pc, advance}
use Rattle.evm_model.specs.Instructions.{fault, stop, finish_load, finish_store, finish, execute_inst, execute_word, execute}
use Rattle.evm_model.specs.Memory.{fetch, read, write}
use Rattle.evm_model.specs.State.{Board, Parts, on_hart}
use Rattle.evm_model.specs.declared.fault.Fault.{Fault}
use Rattle.evm_model.specs.declared.fault.Fault.TheVariants.{Misaligned as Misaligned_target, Fetch, Illegal, Load as Bad_load, Store as Bad_store}
use Rattle.evm_model.specs.declared.notice.NoticeKind.TheVariants.{DemotedByFault}
use Rattle.evm_model.specs.declared.task.TaskState.TheVariants.{Faulted}
use Rattle.law_runs.specs.Ahead.{HeadStart, Ahead, BoardsAhead}
use Rattle.law_runs.proofs.Alike.AheadBoards.{boards_by}
use Rattle.law_runs.proofs.Alike.AheadCalls.{ahead_call}
use Rattle.law_runs.proofs.Alike.AheadChanging.{ahead_if, ahead_hart, ahead_processor}
use Rattle.law_runs.proofs.Alike.AheadDevices.{ahead_line}
use Rattle.law_runs.proofs.Alike.AheadReading.{is_oob-same}
use Rattle.law_runs.proofs.Alike.AheadTasks.{ahead_notify, ahead_demote, ahead_end_task}

pub ahead_stop : {lead : HeadStart} {p q : Parts} → Ahead lead p q → (c : ℕ) → Ahead lead (stop c p) (stop c q)
unfolding stop
ahead_stop a c = ahead_processor a c (λ processor. record processor { stopped = true })

ahead_fault : {lead : HeadStart} {p q : Parts} → Ahead lead p q → (c t : ℕ) (f : Fault) → lead.rows t ≡ 0 → Ahead lead (fault c t f p) (fault c t f q)
ahead_fault a c t f z = ahead_if (is_oob-same a (Some t)) (ahead_notify (ahead_demote a c t) DemotedByFault t) (ahead_end_task a c t (Faulted f) z)

module _ {lead : HeadStart} {a b : Board} (s : BoardsAhead lead a b) (c t : ℕ) (z : lead.rows t ≡ 0) where
  boards_load : (o : Option Accessed) (op : LoadOp) (rd : ℕ) → BoardsAhead lead (finish_load o op rd c t a) (finish_load o op rd c t b)
  boards_load None op rd = boards_by s (fault c t Bad_load) (ahead_fault s.parts c t Bad_load z)
  boards_load (Some access) op rd = record {
    memory = refl;
    breakpoints = s.breakpoints;
    parts = ahead_line (ahead_hart s.parts t (λ hart. advance (set_register rd (loaded_value op access.number) hart)) z) access.line;
  }

  boards_store : (o : Option Accessed) → BoardsAhead lead (finish_store o c t a) (finish_store o c t b)
  boards_store None = boards_by s (fault c t Bad_store) (ahead_fault s.parts c t Bad_store z)
  boards_store (Some access) = record { memory = refl; breakpoints = s.breakpoints; parts = ahead_line (ahead_hart s.parts t advance z) access.line }

  boards_finish : (effect : Effect) → BoardsAhead lead (finish effect c t a) (finish effect c t b)
  unfolding finish
  boards_finish (Next rd value pc) =
      let f : Hart → Hart = λ hart. set_pc pc (set_register rd value hart) in boards_by s (on_hart t f) (ahead_hart s.parts t f z)
  boards_finish (Load op rd address) =
      subst (λ m. BoardsAhead lead (finish_load (read address (width_of_load op) a.memory) op rd c t a) (finish_load (read address (width_of_load op) m) op rd c t b)) s.memory
      (boards_load (read address (width_of_load op) a.memory) op rd)
  boards_finish (Store width address value) =
      subst (λ m. BoardsAhead lead (finish_store (write address width value a.memory) c t a) (finish_store (write address width value m) c t b)) s.memory
      (boards_store (write address width value a.memory))
  boards_finish Call = boards_by s (call c t) (ahead_call s.parts c t z)
  boards_finish Break = boards_by s (λ p. stop c (on_hart t advance p)) (ahead_stop (ahead_hart s.parts t advance z) c)
  boards_finish Misaligned = boards_by s (fault c t Misaligned_target) (ahead_fault s.parts c t Misaligned_target z)

  boards_inst : (o : Option Inst) (hart : Hart) → BoardsAhead lead (execute_inst o hart c t a) (execute_inst o hart c t b)
  boards_inst None hart = boards_by s (fault c t Illegal) (ahead_fault s.parts c t Illegal z)
  boards_inst (Some inst) hart = boards_finish (does inst hart.regs hart.pc)

  boards_word : (o : Option ℕ) (hart : Hart) → BoardsAhead lead (execute_word o hart c t a) (execute_word o hart c t b)
  boards_word None hart = boards_by s (fault c t Fetch) (ahead_fault s.parts c t Fetch z)
  boards_word (Some word) hart = boards_inst (decoded word) hart

  pub boards_execute : (hart : Hart) → BoardsAhead lead (execute hart c t a) (execute hart c t b)
  unfolding execute
  boards_execute hart =
      subst (λ m. BoardsAhead lead (execute_word (fetch hart.pc a.memory) hart c t a) (execute_word (fetch hart.pc m) hart c t b)) s.memory (boards_word (fetch hart.pc a.memory) hart)
