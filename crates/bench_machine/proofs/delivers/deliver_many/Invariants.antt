use Rattle.std.proofs.Common.{◌≡◌}
use Rattle.bench_machine.proofs.delivers.deliver_many.Given as goal

abbrev pub invariant-loop-made : goal.invariant-loop-made
invariant-loop-made g l = record {
  ringer : l.ringer.bells ≡ l.bells.id;
  taker : l.taker.bells ≡ l.bells.id;
}
