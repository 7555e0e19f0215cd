use Rattle.std.proofs.Common.{◌<◌, ℕ}
use Rattle.hunt_states.specs.Same.{AreSameAt}
use Rattle.hunt_states.proofs.lists.same_lists.Given as goal

abbrev pub invariant-places : goal.invariant-places
invariant-places g l = (j : ℕ) → j < l.i → AreSameAt j l.a.board.parts l.b.board.parts
