use Rattle.std.proofs.Common.{◌≡◌, ◌<◌, ℕ}
use Rattle.std.specs.Prelude.{slice_get}
use Rattle.hunt_states.proofs.alike.same_kept_notices.Given as goal

abbrev pub invariant-notices : goal.invariant-notices
invariant-notices g l = (j : ℕ) → j < l.i → slice_get l.a.board.parts.notices.kept j ≡ slice_get l.b.board.parts.notices.kept j
