use Rattle.std.proofs.Common.{subst}
use Rattle.evm_shared.specs.Ports.{MakesOne}
use Rattle.evm_shared.proofs.shared.Shared.command.Goals as goal

pub returns : goal.returns
returns g c = subst (λ e. MakesOne g.O.Origin.machine e c.one.result c.args.port.now c.one.new.port) c.lend.ensures c.one.ensures
