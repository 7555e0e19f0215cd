use Rattle.std.proofs.Common.{◌≡◌, ◌-◌}
use Rattle.evm_asm.specs.Quoting.{behind_lines}
use Rattle.evm_asm.proofs.quoting.behind_lines.Given as goal

abbrev pub invariant-loop : goal.invariant-loop
invariant-loop l = behind_lines (l.lines - l.counter) l.rest ≡ behind_lines l.lines l.source
