use Rattle.std.proofs.Common.{◌≡◌}
use Rattle.bench_machine.proofs.bells.take_many.Given as goal

abbrev pub invariant-loop : goal.invariant-loop
invariant-loop l = record { bells : l.taker.bells ≡ l.bells.id }
