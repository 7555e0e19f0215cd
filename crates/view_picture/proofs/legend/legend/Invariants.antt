use Rattle.std.proofs.Common.{◌≡◌}
use Rattle.view_picture.proofs.legend.legend.Given as goal

abbrev pub invariant-loop-one : goal.invariant-loop-one
invariant-loop-one l = l.draft ≡ l.initial.draft
