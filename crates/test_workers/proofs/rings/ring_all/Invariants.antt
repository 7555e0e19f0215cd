use Rattle.std.proofs.Common.{◌≡◌}
use Rattle.test_workers.proofs.rings.ring_all.Given as goal

abbrev pub invariant-loop-cpu : goal.invariant-loop-cpu
invariant-loop-cpu l = record { bells : l.ringer.bells ≡ l.bells.id }
