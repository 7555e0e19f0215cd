-- One processor's part of nudging.
use Rattle.std.specs.Prelude.{ℕ, Option, Some, None, ◌==◌, if◌then◌else◌, slice_get}
use Rattle.evm_model.specs.Pipes.{Pipe, raise}
use Rattle.evm_model.specs.Settle.{wants_nudge}
use Rattle.evm_model.specs.State.{Parts, on_pipe}

abbrev pub nudge_if : Option Pipe → ℕ → Parts → Parts
nudge_if None d k = k
nudge_if (Some pipe) d k = if wants_nudge d pipe k then on_pipe d (raise 1) k else k

-- line 1 is raised on d, unless it is c or doesn't want it
abbrev pub nudge_one : ℕ → ℕ → Parts → Parts
nudge_one c d k = if d == c then k else nudge_if (slice_get k.pipes d) d k
