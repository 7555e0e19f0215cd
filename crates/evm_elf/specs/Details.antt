-- Details of a faulty file, beside the message of its fault.
use Rattle.std.specs.Prelude.{ℕ, zero, suc, ◌+◌, Bool, true, false, ◌==◌, not, nat_lt, if◌then◌else◌, List, [], ◌∷◌, take, length, Option, Some, None, codes}
use Rattle.std.specs.Str.{bytes_eq}
use Rattle.evm_elf.specs.declared.detail.ImageDetail.{ImageDetail}
use Rattle.evm_elf.specs.declared.detail.ImageDetail.TheVariants.{Empty, NoElf, Bits32, BigEndian, Machine, Object, PositionIndependent, Compressed, HeaderSize, HeaderCut, Cut, Outside, Entry}
use Rattle.evm_elf.specs.declared.fault.ElfFault.{ElfFault}
use Rattle.evm_elf.specs.declared.fault.ElfFault.TheVariants as faults
use Rattle.evm_elf.specs.declared.header.Header.{Header}
use Rattle.evm_elf.specs.Fields.{class, encoding, file_kind, machine_number, entry_point, header_size, header_count, program_header}
use Rattle.evm_elf.specs.Faults.{is_load, passes_end, leaves_range, has_other_header_size}

-- ---- a file that is shorter than a file header

abbrev pub begins_as_elf : List ℕ → Bool
begins_as_elf file = bytes_eq (take 4 file) (0x7f ∷ 0x45 ∷ 0x4c ∷ 0x46 ∷ [])

abbrev pub short_detail : List ℕ → Option ImageDetail
short_detail file = if length file == 0 then Some Empty else (if begins_as_elf file then None else Some NoElf)

-- ---- the file header

abbrev pub class_detail : List ℕ → Option ImageDetail
class_detail file = if class file == 1 then Some Bits32 else (if encoding file == 2 then Some BigEndian else None)

abbrev pub machine_detail : List ℕ → Option ImageDetail
machine_detail file = Some (Machine (machine_number file))

-- ET_REL and ET_DYN; a file for another machine says that first
abbrev pub kind_detail : List ℕ → Option ImageDetail
kind_detail file =
    if not (machine_number file == 243) then machine_detail file
    else (if file_kind file == 1 then Some Object
    else (if file_kind file == 3 then Some PositionIndependent
    else None))

-- ---- the segments

-- why the segment of program header i is outside of a file of this length, or of the range of memory
abbrev pub outside_of : ℕ → ℕ → Header → Option ImageDetail
outside_of len i h =
    if passes_end len h then Some (Cut i (h.offset + h.filesz))
    else (if leaves_range h then Some (Outside i h.address (h.address + h.memsz))
    else None)

abbrev pub outside_at : ℕ → ℕ → Option Header → Option ImageDetail
outside_at len i None = Some (HeaderCut i)
outside_at len i (Some h) = if is_load h then outside_of len i h else None

abbrev pub first_image_detail : Option ImageDetail → Option ImageDetail → Option ImageDetail
first_image_detail (Some detail) next = Some detail
first_image_detail None next = next

-- the first of n program headers from number i on that is outside, and why
unfoldable pub first_outside : List ℕ → ℕ → ℕ → Option ImageDetail
first_outside file i zero = None
first_outside file i (suc n) = first_image_detail (outside_at (length file) i (program_header file i)) (first_outside file (i + 1) n)

abbrev pub segment_detail : List ℕ → Option ImageDetail
segment_detail file = if has_other_header_size file then Some (HeaderSize (header_size file)) else first_outside file 0 (header_count file)

-- ---- a file that has this fault

abbrev pub long_detail : List ℕ → ElfFault → Option ImageDetail
long_detail file faults.Class = class_detail file
long_detail file faults.Kind = kind_detail file
long_detail file faults.MachineNumber = machine_detail file
long_detail file faults.Compressed = Some Compressed
long_detail file faults.SegmentOutside = segment_detail file
long_detail file faults.Entry = Some (Entry (entry_point file))
long_detail file fault = None

abbrev pub image_detail : List ℕ → ElfFault → Option ImageDetail
image_detail file fault = if nat_lt (length file) 64 then short_detail file else long_detail file fault

-- what to do about it, for details that have no number
abbrev pub hint_of : ImageDetail → Option (List ℕ)
hint_of Empty = Some (codes "the file is empty, as `asm` leaves it after a fault")
hint_of NoElf = Some (codes "it is no ELF file")
hint_of Bits32 = Some (codes "it is of 32 bits: compile with -march=rv64i -mabi=lp64")
hint_of BigEndian = Some (codes "it is big-endian")
hint_of Object = Some (codes "it is an object file: link it")
hint_of PositionIndependent = Some (codes "it is position-independent: link with -static -no-pie")
hint_of Compressed = Some (codes "compile with -march=rv64i -mabi=lp64")
hint_of detail = None
