use Rattle.std.proofs.Common.{◌∙◌, ap}
use Rattle.evm_boost.specs.evm_ready.Oob.{has_oob}
use Rattle.evm_model.specs.State.{Parts}
use Rattle.evm_parts.proofs.parts.Parts.has_oob.Goals as goal

pub returns : goal.returns
returns c = c.has_oob.ensures _ _ c.self.invariant ∙ ap (λ (k : Parts). has_oob k.tasks) c.self.view_is
