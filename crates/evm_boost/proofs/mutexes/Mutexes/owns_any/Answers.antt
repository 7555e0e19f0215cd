use Rattle.std.proofs.Common.{◌∙◌, ap, sym}
use Rattle.std.specs.Prelude.{not}
use Rattle.evm_boost.proofs.Owning.{owns-set}
use Rattle.evm_boost.proofs.mutexes.Mutexes.owns_any.Goals as goal

pub returns : goal.returns
returns c = ap not c.is_empty.ensures.test ∙ sym (owns-set _ c.args.t _ c.owned.ensures.few c.owned.ensures.owned)
