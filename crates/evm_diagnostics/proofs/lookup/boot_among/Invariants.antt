use Rattle.std.proofs.Common.{◌≡◌, length}
use Rattle.evm_debug.specs.evm_text.Lines.{text_lines}
use Rattle.evm_diagnostics.specs.Lookup.{boot_among}
use Rattle.evm_diagnostics.proofs.lookup.boot_among.Given as goal

-- the first boot line is in what is left
abbrev pub invariant-lines : goal.invariant-lines
invariant-lines l = boot_among (text_lines l.rest) ≡ boot_among (text_lines l.text)

abbrev pub decreases-lines : goal.decreases-lines
decreases-lines l = length l.rest
