use Rattle.std.proofs.Common.{◌≡◌}
use Rattle.test_workers.proofs.rings.ring_lines.Given as goal

abbrev pub invariant-loop-line : goal.invariant-loop-line
invariant-loop-line l = record { bells : l.ringer.bells ≡ l.bells.id }
