use Rattle.std.proofs.Common.{◌≡◌, ◌-◌, length}
use Rattle.std.specs.Prelude.{slice_get}
use Rattle.evm_debug.specs.evm_text.Lines.{text_lines}
use Rattle.evm_diagnostics.proofs.lookup.line_numbered.Given as goal

-- the line stands behind so many of what is left
abbrev pub invariant-lines : goal.invariant-lines
invariant-lines l = slice_get (text_lines l.rest) l.before ≡ slice_get (text_lines l.text) (l.number - 1)

abbrev pub decreases-lines : goal.decreases-lines
decreases-lines l = length l.rest
