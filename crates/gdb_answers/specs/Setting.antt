-- How a command sets a register of a task.
use Rattle.std.specs.Prelude.{ℕ, List, Result, Ok, Err, length, if◌then◌else◌, ◌==◌}
use Rattle.evm_model.specs.Event.{Event}
use Rattle.evm_model.specs.State.{Parts}
use Rattle.evm_model.specs.declared.refusal.Refusal.{Refusal}
use Rattle.evm_model.specs.declared.refusal.Refusal.TheVariants.{BadRegister}
use Rattle.gdb_tape.specs.gdb_driving.Setting.{leading_word, register_setting, runner}

abbrev pub setting_on : Result ℕ Refusal → ℕ → ℕ → Result (List Event) Refusal
setting_on (Err refusal) r value = Err refusal
setting_on (Ok c) r value = register_setting c r value

-- the event by which register r of task t gets the number of 8 bytes, if a processor runs t
abbrev pub register_write : ℕ → ℕ → List ℕ → Parts → Result (List Event) Refusal
register_write t r bytes p = if length bytes == 8 then setting_on (runner t p) r (leading_word bytes) else Err BadRegister
