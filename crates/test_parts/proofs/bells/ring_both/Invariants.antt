use Rattle.std.proofs.Common.{◌≡◌}
use Rattle.test_parts.proofs.bells.ring_both.Given as goal

abbrev pub invariant-loop-cpu : goal.invariant-loop-cpu
invariant-loop-cpu l = record { bells : l.ringer.bells ≡ l.bells.id }

abbrev pub invariant-loop-round : goal.invariant-loop-round
invariant-loop-round l = record { bells : l.ringer.bells ≡ l.bells.id }
