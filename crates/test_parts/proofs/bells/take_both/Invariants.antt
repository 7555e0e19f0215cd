use Rattle.std.proofs.Common.{◌≡◌}
use Rattle.test_parts.proofs.bells.take_both.Given as goal

abbrev pub invariant-loop-cpu : goal.invariant-loop-cpu
invariant-loop-cpu l = record { bells : l.taker.bells ≡ l.bells.id }

abbrev pub invariant-loop : goal.invariant-loop
invariant-loop l = record { bells : l.taker.bells ≡ l.bells.id }
