use Rattle.std.proofs.Common.{◌∙◌, ap}
use Rattle.evm_model.specs.Waits.{first_waiter}
use Rattle.evm_parts.proofs.Chosen.{first_waiter-is}
use Rattle.evm_parts.proofs.parts.Parts.first_waiter.Goals as goal

pub returns : goal.returns
returns c = first_waiter-is _ _ _ (c.first_waiter.ensures _ _ c.self.invariant) ∙ ap (first_waiter c.args.wait) c.self.view_is
