-- the headers from here on decide
use Rattle.std.proofs.Common.{◌≡◌, ◌-◌}
use Rattle.std.specs.List.{list_any}
use Rattle.evm_elf.specs.Fields.{headers_from}
use Rattle.evm_elf.specs.Faults.{is_dynamic}
use Rattle.evm_elf.proofs.segments.any_dynamic.Given as goal

abbrev pub invariant-loop-i : goal.invariant-loop-i
invariant-loop-i l = list_any is_dynamic (headers_from l.file 0 l.count) ≡ list_any is_dynamic (headers_from l.file l.i (l.count - l.i))
