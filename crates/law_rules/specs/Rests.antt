-- A processor with nothing to settle.
use Rattle.std.specs.Prelude.{◌≡◌, ℕ, Some, None, false, slice_get, length}
use Rattle.evm_lines.specs.Lines.{least_line}
use Rattle.evm_model.specs.Current.{current, is_oob}
use Rattle.evm_model.specs.Good.{IsSettled}
use Rattle.evm_model.specs.Pipes.{Pipe}
use Rattle.evm_model.specs.State.{Parts}
use Rattle.evm_model.specs.Watch.{watch}
use Rattle.evm_model.specs.declared.processor.Processor.{Processor}

-- processor c runs task t, and nothing is on its wire
pub record IsClear (c t : ℕ) (k : Parts) : Type 0 where
  pub pipe : Pipe
  pub there : slice_get k.pipes c ≡ Some pipe
  pub clear : least_line pipe.wire ≡ None
  pub processor : Processor
  pub at : slice_get k.processors c ≡ Some processor
  pub runs : processor.current ≡ Some t

-- what settling and nudging look at
pub record IsAtRest (k : Parts) : Type 0 where
  pub settled : (c : ℕ) (pipe : Pipe) (p : Processor) → slice_get k.pipes c ≡ Some pipe → slice_get k.processors c ≡ Some p → IsSettled c pipe p k.mutexes k.tasks
  pub away : (c : ℕ) → is_oob (current c k) k.tasks ≡ false → watch c k ≡ 0
  pub pipes_count : length k.pipes ≡ length k.processors
