use Rattle.std.proofs.Common.{◌≡◌, ◌≢◌, ℕ, List, Some, length}
use Rattle.std.specs.Prelude.{slice_get}
use Rattle.evm_lines.specs.declared.TheConstants.{LINES}
use Rattle.evm_model.specs.declared.counts.Counts.{Counts}
use Rattle.run_marks.specs.Tallies.{DifferAt}
use Rattle.run_marks.proofs.Sets.{Told}
use Rattle.run_marks.proofs.line_marks.push_touched.Given as goal

-- those lines were told that are not left
abbrev pub invariant-lines : goal.invariant-lines
invariant-lines l = record {
  told : (row : List Counts) → slice_get l.fn.tally.rows l.cpu ≡ Some row → length row ≡ LINES → DifferAt l.fn.lines row l.counts → Told l.cpu l.fn.marks.items l.marks.items row l.counts l.left l.tally.rows;
  others : (d : ℕ) → d ≢ l.cpu → slice_get l.tally.rows d ≡ slice_get l.fn.tally.rows d;
}

abbrev pub decreases-lines : goal.decreases-lines
decreases-lines l = length l.left
