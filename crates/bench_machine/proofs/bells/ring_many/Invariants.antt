use Rattle.std.proofs.Common.{◌≡◌}
use Rattle.bench_machine.proofs.bells.ring_many.Given as goal

abbrev pub invariant-loop-ring : goal.invariant-loop-ring
invariant-loop-ring l = record { bells : l.ringer.bells ≡ l.bells.id }
