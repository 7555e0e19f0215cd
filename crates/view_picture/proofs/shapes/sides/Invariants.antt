use Rattle.std.proofs.Common.{◌≡◌}
use Rattle.view_picture.proofs.shapes.sides.Given as goal

abbrev pub invariant-loop-key : goal.invariant-loop-key
invariant-loop-key l = l.draft ≡ l.initial.draft
