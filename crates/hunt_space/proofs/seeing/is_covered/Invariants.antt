use Rattle.std.proofs.Common.{◌≡◌}
use Rattle.hunt_space.specs.Standing.{BeginsAfresh, IsStanding}
use Rattle.hunt_space.proofs.seeing.is_covered.Given as goal

abbrev pub invariant-candidates : goal.invariant-candidates
invariant-candidates l = record {
  same : l.visited.places.items ≡ l.initial.visited.places.items;
  stands : IsStanding l.going.first.now l.visited.seen;
}
