use Rattle.std.proofs.Common.{◌≡◌, ℕ, ◌<◌, ◌≤◌, ◌+◌, true, false}
use Rattle.evm_lines.specs.Lines.{has_line}
use Rattle.evm_lines.specs.declared.TheConstants.{LINES}
use Rattle.evm_model.specs.declared.limits.TheConstants.{DEVICE_LINE}
use Rattle.run_marks.specs.Tallies.{SameRaised}
use Rattle.run_marks.proofs.tally.with_raised.Given as goal

-- the lines came, and those of the devices so far that were raised
abbrev pub invariant-loop-device : goal.invariant-loop-device
invariant-loop-device l = record {
  lines : (k : ℕ) → k < LINES → has_line l.fn.lines k ≡ true → has_line l.all k ≡ true;
  raised : (k : ℕ) → DEVICE_LINE ≤ k → k < DEVICE_LINE + l.device → has_line l.all k ≡ false → SameRaised k l.fn.before l.fn.after;
}
