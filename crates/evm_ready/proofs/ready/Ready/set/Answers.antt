use Rattle.std.proofs.Common.{◌∙◌, ap}
use Rattle.std.specs.Prelude.{is_some}
use Rattle.evm_ready.proofs.Same_entries.{change-none}
use Rattle.evm_ready.proofs.ready.Ready.set.Goals as goal

pub returns-else-is_some-2-clause-places : goal.returns-else-is_some-2-clause-places
returns-else-is_some-2-clause-places c = change-none _ c.args.t c.args.place (c.if-is_some.ensures ∙ ap is_some c.get.ensures) c.if-is_some-2.ensures
