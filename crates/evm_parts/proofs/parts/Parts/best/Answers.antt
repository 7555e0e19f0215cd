use Rattle.std.proofs.Common.{◌∙◌, ap}
use Rattle.evm_model.specs.Ranks.{best}
use Rattle.evm_model.specs.State.{Parts}
use Rattle.evm_parts.proofs.parts.Parts.best.Goals as goal

pub returns : goal.returns
returns c = c.best.ensures _ _ c.self.invariant ∙ ap (λ (k : Parts). best c.args.c k.mutexes k.tasks) c.self.view_is
