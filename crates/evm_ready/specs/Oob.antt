-- Whether any task is ready out-of-band.
use Rattle.std.specs.Prelude.{List, Bool}
use Rattle.std.specs.List.{list_any}
use Rattle.evm_model.specs.Ranks.{is_oob_ready}
use Rattle.evm_model.specs.declared.task.Task.{Task}

-- some task is ready out-of-band, on whichever processor
abbrev pub has_oob : List Task → Bool
has_oob tasks = list_any (λ task. is_oob_ready task.state) tasks
