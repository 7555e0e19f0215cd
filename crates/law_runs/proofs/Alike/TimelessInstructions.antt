-- An instruction that makes no timed call looks at no clock, and names no time.
use Rattle.std.proofs.Common.{◌≡◌, ℕ, List, Bool, true, false, ◌&&◌, Option, Some, None, refl, ap, sym, ◌∙◌, subst}
use Rattle.std.specs.Prelude.{slice_get, if◌then◌else◌, ◌==◌, ◌%◌}
use Rattle.evm_exec.specs.Does.{does, even, plus_signed, jump_to, branch_if}
use Rattle.evm_exec.specs.Memory.{loaded_value, width_of_load}
use Rattle.evm_exec.specs.Registers.{register_of}
use Rattle.evm_exec.specs.Values.{is_taken, sum}
use Rattle.evm_exec.specs.declared.hart.Hart.{Hart}
use Rattle.evm_exec.specs.declared.outcome.Effect.{Effect}
use Rattle.evm_exec.specs.declared.outcome.Effect.TheVariants.{Next, Load, Store, Call, Break, Misaligned}
use Rattle.evm_isa.specs.Decoded.{decoded}
use Rattle.evm_isa.specs.declared.inst.Inst.{Inst}
use Rattle.evm_isa.specs.declared.inst.Inst.TheVariants.{Branch, Jal, Jalr}
use Rattle.evm_isa.specs.declared.inst.LoadOp.{LoadOp}
use Rattle.evm_model.specs.Calls.{call}
use Rattle.evm_model.specs.Current.{is_oob}
use Rattle.evm_model.specs.Devices.{Accessed, raise_line}
use Rattle.evm_model.specs.Harts.{set_register, advance}
use Rattle.evm_model.specs.Instructions.{fault, stop, on_access, finish_load, finish_store, finish, execute_inst, execute_word, execute}
use Rattle.evm_model.specs.Memory.{fetch, read, write}
use Rattle.evm_model.specs.Notices.{notify}
use Rattle.evm_model.specs.Rows.{step}
use Rattle.evm_model.specs.State.{Board, Parts, on_hart, on_parts}
use Rattle.evm_model.specs.declared.event.Answer.{Answer}
use Rattle.evm_model.specs.declared.fault.Fault.{Fault}
use Rattle.evm_model.specs.declared.fault.Fault.TheVariants.{Misaligned as Misaligned_target, Fetch, Illegal, Load as Bad_load, Store as Bad_store}
use Rattle.evm_model.specs.declared.notice.NoticeKind.TheVariants.{DemotedByFault}
use Rattle.evm_model.specs.declared.task.TaskState.TheVariants.{Faulted}
use Rattle.law_runs.specs.Timeless.{timeless, timeless_board, HasNoTimes, is_timed, is_ecall_inst, is_ecall_word, makes_timed_call}
use Rattle.law_runs.proofs.Alike.Timeless.{Clockless, at_once, onward, clockless_if, clockless_notify}
use Rattle.law_runs.proofs.Alike.TimelessEcalls.{is_timed_hart, clockless_call}
use Rattle.law_runs.proofs.Alike.TimelessTasks.{clockless_demote, clockless_end_task}

-- the second board is the first without the clock, and the first has no times
pub record ClocklessBoard (x y : Board) : Type 0 where
  pub same : y ≡ timeless_board x
  pub none : HasNoTimes x.parts

-- .. with the same answer
abbrev pub ClocklessAnswered : Board × Answer → Board × Answer → Type 0
ClocklessAnswered x y = ClocklessBoard x.0 y.0 × (y.1 ≡ x.1)

pub board_at_once : {x : Board} → HasNoTimes x.parts → ClocklessBoard x (timeless_board x)
board_at_once h = record { same = refl; none = h }

pub boards_by : (b : Board) (f : Parts → Parts) → Clockless (f b.parts) (f (timeless b.parts)) → ClocklessBoard (on_parts f b) (on_parts f (timeless_board b))
boards_by b f s = record { same = ap (λ p. record b { parts = p }) s.same; none = s.none }

pub board_onward : (f : Board → Board) {x y : Board} → ClocklessBoard x y → ((b : Board) → HasNoTimes b.parts → ClocklessBoard (f b) (f (timeless_board b))) → ClocklessBoard (f x) (f y)
board_onward f {x = x} s step = subst (λ y. ClocklessBoard (f x) (f y)) (sym s.same) (step x s.none)

pub answered_if : (b : Bool) {p q x y : Board × Answer} → ClocklessAnswered p q → ClocklessAnswered x y → ClocklessAnswered (if b then p else x) (if b then q else y)
answered_if true s d = s
answered_if false s d = d

-- ---- an instruction
clockless_fault : (p : Parts) → HasNoTimes p → (c t : ℕ) (f : Fault) → Clockless (fault c t f p) (fault c t f (timeless p))
clockless_fault p h c t f =
    clockless_if (is_oob (Some t) p.tasks) (onward (notify DemotedByFault t) (clockless_demote p h c t) (λ q k. clockless_notify q k DemotedByFault t)) (clockless_end_task p h c t (Faulted f))

pub clockless_line : (p : Parts) → HasNoTimes p → (o : Option ℕ) → Clockless (raise_line o p) (raise_line o (timeless p))
clockless_line p h None = at_once h
clockless_line p h (Some l) = at_once h

board_access : (b : Board) → HasNoTimes b.parts → (access : Accessed) → ClocklessBoard (on_access access b) (on_access access (timeless_board b))
board_access b h access = boards_by (record b { memory = access.memory }) (raise_line access.line) (clockless_line b.parts h access.line)

-- ECALL alone is a call
abbrev is_call : Effect → Bool
is_call Call = true
is_call _ = false

call_of-jump : (rd value target : ℕ) → is_call (jump_to rd value target) ≡ false
call_of-jump rd value target = elim (target % 4 == 0) as (λ b. is_call (if b then Next rd value target else Misaligned) ≡ false) [ true ↦ refl | false ↦ refl ]

call_of-branch : (taken : Bool) (target pc : ℕ) → is_call (branch_if taken target pc) ≡ false
call_of-branch true target pc = call_of-jump 0 0 target
call_of-branch false target pc = refl

call_of-inst : (inst : Inst) (x : List ℕ) (pc : ℕ) → is_call (does inst x pc) ≡ is_ecall_inst (Some inst)
unfolding does
call_of-inst (Jal rd i) x pc = call_of-jump rd (sum pc 4) (plus_signed pc i)
call_of-inst (Jalr rd rs1 i) x pc = call_of-jump rd (sum pc 4) (even (plus_signed (register_of x rs1) i))
call_of-inst (Branch op rs1 rs2 i) x pc = call_of-branch (is_taken op (register_of x rs1) (register_of x rs2)) (plus_signed pc i) pc
call_of-inst _ x pc = refl

module _ (b : Board) (h : HasNoTimes b.parts) (c t : ℕ) where
  board_load : (o : Option Accessed) (op : LoadOp) (rd : ℕ) → ClocklessBoard (finish_load o op rd c t b) (finish_load o op rd c t (timeless_board b))
  board_load None op rd = boards_by b (fault c t Bad_load) (clockless_fault b.parts h c t Bad_load)
  board_load (Some access) op rd = board_access (on_parts (on_hart t (λ hart. advance (set_register rd (loaded_value op access.number) hart))) b) h access

  board_store : (o : Option Accessed) → ClocklessBoard (finish_store o c t b) (finish_store o c t (timeless_board b))
  board_store None = boards_by b (fault c t Bad_store) (clockless_fault b.parts h c t Bad_store)
  board_store (Some access) = board_access (on_parts (on_hart t advance) b) h access

  board_finish : (effect : Effect) (hart : Hart) → slice_get b.parts.harts t ≡ Some hart → is_call effect && is_timed hart ≡ false
      → ClocklessBoard (finish effect c t b) (finish effect c t (timeless_board b))
  unfolding finish stop
  board_finish (Next rd value pc) hart there e = board_at_once h
  board_finish (Load op rd address) hart there e = board_load (read address (width_of_load op) b.memory) op rd
  board_finish (Store width address value) hart there e = board_store (write address width value b.memory)
  board_finish Call hart there e = boards_by b (call c t) (clockless_call b.parts h c t (ap is_timed_hart there ∙ e))
  board_finish Break hart there e = board_at_once h
  board_finish Misaligned hart there e = boards_by b (fault c t Misaligned_target) (clockless_fault b.parts h c t Misaligned_target)

  board_inst : (o : Option Inst) (hart : Hart) → slice_get b.parts.harts t ≡ Some hart → is_ecall_inst o && is_timed hart ≡ false
      → ClocklessBoard (execute_inst o hart c t b) (execute_inst o hart c t (timeless_board b))
  board_inst None hart there e = boards_by b (fault c t Illegal) (clockless_fault b.parts h c t Illegal)
  board_inst (Some inst) hart there e = board_finish (does inst hart.regs hart.pc) hart there (ap (λ call. call && is_timed hart) (call_of-inst inst hart.regs hart.pc) ∙ e)

  board_word : (o : Option ℕ) (hart : Hart) → slice_get b.parts.harts t ≡ Some hart → is_ecall_word o && is_timed hart ≡ false
      → ClocklessBoard (execute_word o hart c t b) (execute_word o hart c t (timeless_board b))
  board_word None hart there e = boards_by b (fault c t Fetch) (clockless_fault b.parts h c t Fetch)
  board_word (Some word) hart there e = board_inst (decoded word) hart there e

  pub board_execute : (hart : Hart) → slice_get b.parts.harts t ≡ Some hart → makes_timed_call (Some hart) b.memory ≡ false
      → ClocklessBoard (execute hart c t b) (execute hart c t (timeless_board b))
  unfolding execute
  board_execute hart there e = board_word (fetch hart.pc b.memory) hart there e
