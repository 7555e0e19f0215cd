-- the headers from here on decide
use Rattle.std.proofs.Common.{◌≡◌, ◌-◌}
use Rattle.std.specs.List.{list_any, filter_map}
use Rattle.evm_elf.specs.Fields.{headers_from}
use Rattle.evm_elf.specs.Faults.{is_overfull, load_of}
use Rattle.evm_elf.proofs.segments.any_overfull.Given as goal

abbrev pub invariant-loop-i : goal.invariant-loop-i
invariant-loop-i l = list_any is_overfull (filter_map load_of (headers_from l.file 0 l.count)) ≡ list_any is_overfull (filter_map load_of (headers_from l.file l.i (l.count - l.i)))
