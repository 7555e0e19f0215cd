-- What the ECALL of a task comes to.
use Rattle.std.specs.Prelude.{◌≡◌, ℕ}
use Rattle.evm_exec.specs.declared.hart.Hart.{Hart}
use Rattle.evm_model.specs.Calls.{call, call_on, call_stage, finish_call, perform}
use Rattle.evm_model.specs.State.{Parts}
use Rattle.evm_model.specs.declared.call.Call.{Call}
use Rattle.evm_parts.specs.evm_task.Asks.{AskedBy}
use Rattle.evm_parts.specs.evm_task.declared.harts.Asked.{Asked}

-- task t of processor c asks for this call, with these arguments
pub record IsAsked (named : Call) (asked : Asked) (c t : ℕ) (k : Parts) : Type 0 where
  pub hart : Hart
  pub by : AskedBy asked hart
  pub known : call_on (call_stage named) named hart c t k ≡ call c t k

-- .. and is on the stage of the call, which is done
pub record IsMade (named : Call) (asked : Asked) (c t : ℕ) (k : Parts) : Type 0 where
  pub hart : Hart
  pub by : AskedBy asked hart
  pub done : finish_call c t (perform named hart c t k) ≡ call c t k
