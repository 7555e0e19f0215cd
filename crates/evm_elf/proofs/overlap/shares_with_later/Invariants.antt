-- the headers from here on decide
use Rattle.std.proofs.Common.{◌≡◌, ◌-◌}
use Rattle.std.specs.List.{list_any, filter_map}
use Rattle.evm_elf.specs.Fields.{headers_from}
use Rattle.evm_elf.specs.Faults.{load_of, share}
use Rattle.evm_elf.proofs.overlap.shares_with_later.Given as goal

abbrev pub invariant-loop-i : goal.invariant-loop-i
invariant-loop-i l = list_any (share l.header) (filter_map load_of (headers_from l.file l.first (l.count - l.first))) ≡ list_any (share l.header) (filter_map load_of (headers_from l.file l.i (l.count - l.i)))
