use Rattle.std.proofs.Common.{◌≡◌, ◌-◌}
use Rattle.evm_asm.specs.Programs.{repeated}
use Rattle.evm_asm.proofs.output.push_repeated.Given as goal

abbrev pub invariant-loop : goal.invariant-loop
invariant-loop l = repeated (l.count - l.counter) l.unit l.bytes.items ≡ repeated l.count l.unit l.initial.bytes.items
