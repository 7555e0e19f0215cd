-- Settling out-of-band in two steps: the log is played, and then the best task becomes current.
use Rattle.std.specs.Prelude.{ℕ, Option, Some, None, Bool, false, not, if◌then◌else◌}
use Rattle.evm_model.specs.Pipes.{Pipe}
use Rattle.evm_model.specs.Settle.{play_oob_lines, run_best}
use Rattle.evm_model.specs.State.{Parts}

-- unless it is stalled the out-of-band log is played
abbrev pub play_oob_pipe : Option Pipe → Option ℕ → ℕ → Parts → Parts
play_oob_pipe None was c k = k
play_oob_pipe (Some pipe) was c k = if pipe.oob.stalled then k else play_oob_lines was c pipe.oob.lines k

-- and then the best task is to be current
abbrev pub chooses : Option Pipe → Bool
chooses None = false
chooses (Some pipe) = not pipe.oob.stalled

-- the best task is current, if it is to be
abbrev pub choose : Bool → ℕ → Parts → Parts
choose chosen c k = if chosen then run_best c k else k
