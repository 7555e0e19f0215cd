use Rattle.std.proofs.Common.{◌≡◌}
use Rattle.view_picture.proofs.bars.bar_names.Given as goal

abbrev pub invariant-loop-i : goal.invariant-loop-i
invariant-loop-i l = l.draft ≡ l.initial.draft
