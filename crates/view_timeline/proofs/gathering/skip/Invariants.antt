use Rattle.std.proofs.Common.{◌≡◌, ◌+◌, ◌*◌}
use Rattle.view_timeline.specs.declared.gathering.TheConstants.{SKIPPED}
use Rattle.run_walk.specs.Walks.{Follows, place}
use Rattle.view_timeline.proofs.gathering.skip.Given as goal

-- so many parts were skipped
abbrev pub invariant-loop-part : goal.invariant-loop-part
invariant-loop-part g l = (place l.walk ≡ place l.fn.walk + l._part * SKIPPED) × Follows l.fn.walk l.walk
