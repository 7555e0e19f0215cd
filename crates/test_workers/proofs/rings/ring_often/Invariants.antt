use Rattle.std.proofs.Common.{◌≡◌}
use Rattle.test_workers.proofs.rings.ring_often.Given as goal

abbrev pub invariant-loop : goal.invariant-loop
invariant-loop l = record { bells : l.ringer.bells ≡ l.bells.id }
