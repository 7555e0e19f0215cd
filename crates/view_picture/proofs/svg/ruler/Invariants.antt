use Rattle.std.proofs.Common.{◌≡◌}
use Rattle.view_picture.proofs.svg.ruler.Given as goal

abbrev pub invariant-loop-cell : goal.invariant-loop-cell
invariant-loop-cell l = l.draft ≡ l.initial.draft
