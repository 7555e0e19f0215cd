-- Views of a machine.
use Rattle.std.specs.Prelude.{ℕ, List, Option, Some, None, slice_get}
use Rattle.evm_model.specs.Devices.{Attached}
use Rattle.evm_model.specs.Pipes.{Pipe, log_of}
use Rattle.evm_model.specs.State.{Parts}
use Rattle.evm_model.specs.declared.counts.Counts.{Counts}
use Rattle.evm_model.specs.declared.stage.Stage.{Stage}
use Rattle.evm_model.specs.declared.stage.StageLog.{StageLog}
use Rattle.evm_core.specs.declared.stages.Stages.{Stages}

-- the counts of line l, where there are a pipe and such a line
abbrev pub counts_on_line : Option Pipe → ℕ → Option Counts
counts_on_line None l = None
counts_on_line (Some pipe) l = slice_get pipe.counts l

-- the counts of line l of processor c
abbrev pub counts_at : ℕ → ℕ → Parts → Option Counts
counts_at c l k = counts_on_line (slice_get k.pipes c) l

-- the counts of each line, where there is a pipe
abbrev pub line_counts_of : Option Pipe → Option (List Counts)
line_counts_of None = None
line_counts_of (Some pipe) = Some pipe.counts

-- the counts of each line of processor c, of line l the l-th
abbrev pub line_counts_at : ℕ → Parts → Option (List Counts)
line_counts_at c k = line_counts_of (slice_get k.pipes c)

-- the log of a stage, where there is a pipe
abbrev pub log_in : Stage → Option Pipe → Option StageLog
log_in stage None = None
log_in stage (Some pipe) = Some (log_of stage pipe)

-- the lines on the wire, where there is a pipe
abbrev pub wire_of : Option Pipe → Option (List ℕ)
wire_of None = None
wire_of (Some pipe) = Some pipe.wire

-- the two logs and the wire, where there is a pipe
abbrev pub stages_in : Option Pipe → Option Stages
stages_in None = None
stages_in (Some pipe) = Some (record { oob = pipe.oob; in_band = pipe.in_band; wire = pipe.wire })

-- those of processor c
abbrev pub stages_at : ℕ → Parts → Option Stages
stages_at c k = stages_in (slice_get k.pipes c)

abbrev pub word_in_device : Option Attached → ℕ → Option ℕ
word_in_device None k = None
word_in_device (Some device) k = slice_get device.words k

-- word k of device i
abbrev pub device_word : ℕ → ℕ → List Attached → Option ℕ
device_word i k devices = word_in_device (slice_get devices i) k
