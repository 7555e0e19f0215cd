-- the headers from here on decide
use Rattle.std.proofs.Common.{◌≡◌, ◌-◌}
use Rattle.evm_elf.specs.Details.{first_outside}
use Rattle.evm_elf.proofs.detail.first_outside.Given as goal

abbrev pub invariant-loop-i : goal.invariant-loop-i
invariant-loop-i l = first_outside l.file 0 l.count ≡ first_outside l.file l.i (l.count - l.i)
