use Rattle.evm_shared.proofs.Locks.{tick_full}
use Rattle.evm_shared.proofs.locked.Locked.tick.Goals as goal

pub returns-clause-full : goal.returns-clause-full
returns-clause-full g c = tick_full g.O.Origin.machine c.one.result c.args.port.now c.one.new.port c.one.ensures
