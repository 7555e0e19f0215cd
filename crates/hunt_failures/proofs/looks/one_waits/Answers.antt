use Rattle.std.proofs.Common.{◌≡◌, false, Option, refl, arith}
use Rattle.evm_model.specs.declared.task.Task.{Task}
use Rattle.hunt_failures.specs.Failures.{is_waiting_task}
use Rattle.hunt_failures.proofs.Lists.{all-below}
use Rattle.hunt_failures.proofs.looks.one_waits.Goals as goal

pub returns-clause-none : goal.returns-clause-none
returns-clause-none c = λ done t.
    let P : Option Task → Type 0 = λ task. is_waiting_task task ≡ false in
    all-below P c.args.machine.now.board.parts.tasks refl (λ u less. c.tasks.invariant u (omega arith)) t
