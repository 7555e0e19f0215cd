-- those found, and those among the headers from here on
use Rattle.std.proofs.Common.{◌≡◌, ◌-◌, ◌++◌}
use Rattle.std.specs.List.{filter_map}
use Rattle.evm_elf.specs.Fields.{headers_from}
use Rattle.evm_elf.specs.Rising.{occupied_of}
use Rattle.evm_elf.proofs.overlap.occupied.Given as goal

abbrev pub invariant-loop-i : goal.invariant-loop-i
invariant-loop-i l = filter_map occupied_of (headers_from l.file 0 l.count) ≡ l.found.items ++ filter_map occupied_of (headers_from l.file l.i (l.count - l.i))
