use Rattle.std.proofs.Common.{◌∙◌, sym, arith}
use Rattle.hunt_failures.proofs.waking.is_over.Goals as goal

pub returns : goal.returns
returns c still asleep = record {
  asleep = asleep;
  done = λ t less. c.tasks.invariant t (omega arith);
  pins = sym c.pins_are_still.ensures ∙ still;
}
