use Rattle.std.proofs.Common.{◌<◌, ℕ}
use Rattle.hunt_states.specs.Places.{AreAlikeAt}
use Rattle.hunt_states.proofs.alike.alike_lists.Given as goal

abbrev pub invariant-places : goal.invariant-places
invariant-places g l = (j : ℕ) → j < l.i → AreAlikeAt j l.a.board.parts l.b.board.parts
