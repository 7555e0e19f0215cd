use Rattle.std.proofs.Common.{◌≡◌, ap, arith}
use Rattle.evm_model.specs.declared.boot.Boot.{Boot}
use Rattle.run_schedule.proofs.Telling.{full-refuses}
use Rattle.run_schedule.proofs.running.go.Goals as goal

pub returns-clause-ends : goal.returns-clause-ends
returns-clause-ends g c =
    let same : c.events.machine.boot.capacity ≡ c.args.machine.now.boot.capacity = ap (λ (b : Boot). b.capacity) c.events.invariant.1 in
    full-refuses c.events.machine (omega arith)
