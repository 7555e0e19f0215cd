use Rattle.std.proofs.Common.{◌≡◌}
use Rattle.hunt_space.proofs.visited.Visited.note.Given as goal

abbrev pub invariant-loop-turn : goal.invariant-loop-turn
invariant-loop-turn l = record {
  places : l.self.places ≡ l.initial.self.places;
  seen : l.self.seen ≡ l.initial.self.seen;
}
