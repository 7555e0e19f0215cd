use Rattle.evm_diagnostics.proofs.evm_journal.Machines.{machine_journal}
use Rattle.evm_serve.proofs.Replays.{replays_saved}
use Rattle.evm_serve.proofs.laws.replays_saved.Goals as goal

pub returns : goal.returns
returns g c = replays_saved c.args.machine.now c.rules.ensures.good.boot (machine_journal c.args.machine.now c.rules.ensures.good c.rules.ensures.journaled)
