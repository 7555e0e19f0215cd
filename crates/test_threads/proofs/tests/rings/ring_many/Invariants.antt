use Rattle.std.proofs.Common.{◌≡◌}
use Rattle.test_threads.proofs.tests.rings.ring_many.Given as goal

abbrev pub invariant-loop-round : goal.invariant-loop-round
invariant-loop-round l = record { bells : l.ringer.bells ≡ l.bells.id }
