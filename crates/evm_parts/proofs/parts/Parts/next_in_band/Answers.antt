use Rattle.std.proofs.Common.{◌∙◌, ap}
use Rattle.evm_model.specs.Ranks.{next_in_band}
use Rattle.evm_model.specs.State.{Parts}
use Rattle.evm_parts.proofs.parts.Parts.next_in_band.Goals as goal

pub returns : goal.returns
returns c = c.next_in_band.ensures _ _ c.self.invariant ∙ ap (λ (k : Parts). next_in_band c.args.c k.tasks) c.self.view_is
