use Rattle.std.proofs.Common.{◌≡◌, false, Option, refl, arith}
use Rattle.evm_model.specs.declared.task.Task.{Task}
use Rattle.hunt_failures.specs.Awake.{is_ready_on}
use Rattle.hunt_failures.proofs.Lists.{all-below}
use Rattle.hunt_failures.proofs.waking.has_ready.Goals as goal

pub returns : goal.returns
returns c = record {
  none = λ done t.
      let P : Option Task → Type 0 = λ task. is_ready_on c.args.c task ≡ false in
      all-below P c.args.machine.now.board.parts.tasks refl (λ u less. c.tasks.invariant u (omega arith)) t;
}
