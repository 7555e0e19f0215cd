use Rattle.std.proofs.Common.{◌≡◌, ◌⊎◌, ℕ, ◌<◌, true, length}
use Rattle.evm_lines.specs.Lines.{has_line}
use Rattle.evm_lines.specs.declared.TheConstants.{LINES}
use Rattle.run_marks.proofs.tally.joined.Given as goal

-- the lines of the first set came, and those of the other or they are left
abbrev pub invariant-lines : goal.invariant-lines
invariant-lines l = record {
  one : (k : ℕ) → k < LINES → has_line l.fn.one k ≡ true → has_line l.all k ≡ true;
  other : (k : ℕ) → k < LINES → has_line l.fn.other k ≡ true → (has_line l.left k ≡ true) ⊎ (has_line l.all k ≡ true);
}

abbrev pub decreases-lines : goal.decreases-lines
decreases-lines l = length l.left
