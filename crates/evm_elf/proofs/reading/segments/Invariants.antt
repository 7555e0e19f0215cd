-- the segments so far, and those of the headers from here on
use Rattle.std.proofs.Common.{◌≡◌, ◌-◌, ◌++◌, map}
use Rattle.std.specs.List.{filter_map}
use Rattle.evm_elf.specs.Fields.{headers_from}
use Rattle.evm_elf.specs.Faults.{load_of, segment_of}
use Rattle.evm_elf.proofs.reading.segments.Given as goal

abbrev pub invariant-loop-i : goal.invariant-loop-i
invariant-loop-i l = map (segment_of l.file) (filter_map load_of (headers_from l.file 0 l.count)) ≡ l.loaded.items ++ map (segment_of l.file) (filter_map load_of (headers_from l.file l.i (l.count - l.i)))
