-- Messages of the faults of a file.
use Rattle.std.specs.Prelude.{ℕ, List, codes}
use Rattle.evm_elf.specs.declared.fault.ElfFault.{ElfFault}
use Rattle.evm_elf.specs.declared.fault.ElfFault.TheVariants.{Short, Magic, Class, Kind, MachineNumber, Compressed, Dynamic, SegmentOutside, SegmentOverlap, SizeOrder, Entry, NoMemory}

abbrev pub elf_message : ElfFault → List ℕ
elf_message Short = codes "shorter than a file header, 64 bytes"
elf_message Magic = codes "no ELF file"
elf_message Class = codes "not of 64 bits, little-endian and of version 1"
elf_message Kind = codes "no executable of version 1"
elf_message MachineNumber = codes "not for RISC-V"
elf_message Compressed = codes "compressed instructions"
elf_message Dynamic = codes "linked dynamically"
elf_message SegmentOutside = codes "segment outside 80000000..81000000, or outside the file"
elf_message SegmentOverlap = codes "two segments share an address"
elf_message SizeOrder = codes "segment with more bytes in the file than in memory"
elf_message Entry = codes "entry outside 80000000..81000000, or no multiple of 4"
elf_message NoMemory = codes "out of memory"
