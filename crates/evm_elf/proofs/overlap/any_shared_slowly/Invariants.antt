-- the headers from here on decide
use Rattle.std.proofs.Common.{◌≡◌, ◌-◌}
use Rattle.std.specs.List.{filter_map}
use Rattle.evm_elf.specs.Fields.{headers_from}
use Rattle.evm_elf.specs.Faults.{load_of, share, some_two}
use Rattle.evm_elf.proofs.overlap.any_shared_slowly.Given as goal

abbrev pub invariant-loop-i : goal.invariant-loop-i
invariant-loop-i l = some_two share (filter_map load_of (headers_from l.file 0 l.count)) ≡ some_two share (filter_map load_of (headers_from l.file l.i (l.count - l.i)))
