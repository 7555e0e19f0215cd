use Rattle.std.proofs.Common.{◌≡◌}
use Rattle.view_picture.proofs.svg.mutex_lanes.Given as goal

abbrev pub invariant-loop-mutex : goal.invariant-loop-mutex
invariant-loop-mutex l = l.draft ≡ l.initial.draft
