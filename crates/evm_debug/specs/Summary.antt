-- What is shown of a machine at the end of a replay.
use Rattle.std.specs.Prelude.{ℕ, zero, suc, List, [], ◌++◌, Option, Some, None, slice_get, length}
use Rattle.evm_journal.specs.evm_core.Views.{stages_at}
use Rattle.evm_journal.specs.evm_core.declared.stages.Stages.{Stages}
use Rattle.evm_model.specs.State.{Parts, State}
use Rattle.evm_model.specs.declared.processor.Processor.{Processor}
use Rattle.evm_debug.specs.Views.{stages_text, tasks_text, owners_text}

abbrev pub stages_or_none : ℕ → Option Processor → Option Stages → List ℕ
stages_or_none c None stages = []
stages_or_none c (Some p) None = []
stages_or_none c (Some p) (Some stages) = stages_text c p stages

-- the stages of the processors below a number, by their numbers
unfoldable pub stages_below : ℕ → Parts → List ℕ
stages_below zero k = []
stages_below (suc c) k = stages_below c k ++ stages_or_none c (slice_get k.processors c) (stages_at c k)

-- the stages of each processor, the tasks, and the owners of the mutexes
abbrev pub summary_text : State → List ℕ
summary_text s = stages_below (length s.board.parts.processors) s.board.parts ++ tasks_text s.board.parts ++ owners_text s.board.parts
