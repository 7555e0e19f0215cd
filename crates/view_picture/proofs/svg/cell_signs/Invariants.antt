use Rattle.std.proofs.Common.{◌≡◌}
use Rattle.view_picture.proofs.svg.cell_signs.Given as goal

abbrev pub invariant-loop-shown : goal.invariant-loop-shown
invariant-loop-shown l = l.draft ≡ l.initial.draft
