use Rattle.std.proofs.Common.{◌∙◌, ap}
use Rattle.std.specs.Prelude.{is_some}
use Rattle.evm_wait.proofs.evm_ready.Same_entries.{change-none}
use Rattle.evm_wait.proofs.waiting.Waiting.set.Goals as goal

pub returns-else-is_some-2-clause-waiters : goal.returns-else-is_some-2-clause-waiters
returns-else-is_some-2-clause-waiters c = change-none _ c.args.t c.args.waiter (c.if-is_some.ensures ∙ ap is_some c.get.ensures) c.if-is_some-2.ensures
