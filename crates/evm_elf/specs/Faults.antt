-- Which files are images, and what the image of a file is.
use Rattle.std.specs.Prelude.{◌≡◌, ◌<◌, ◌≤◌, ℕ, ◌+◌, ◌%◌, IfSome, slice_get, Bool, true, false, not, ◌&&◌, ◌||◌, ◌==◌, nat_lt, nat_le, min, max, if◌then◌else◌, List, [], ◌∷◌, map, take, drop, length, Option, Some, None}
use Rattle.std.specs.List.{list_any, filter_map, find}
use Rattle.evm_elf.specs.declared.fault.ElfFault.{ElfFault}
use Rattle.evm_elf.specs.declared.fault.ElfFault.TheVariants.{Short, Magic, Class, Kind, MachineNumber, Compressed, Dynamic, SegmentOutside, SegmentOverlap, SizeOrder, Entry, NoMemory}
use Rattle.evm_elf.specs.declared.header.Header.{Header}
use Rattle.evm_elf.specs.Fields.{magic, class, encoding, ident_version, file_kind, machine_number, version, entry_point, flags, header_size, header_count, headers}
use Rattle.evm_ram.specs.Images.{Loaded, Contents, Fills, byte_at, range_start, range_end}

-- a segment to be loaded
abbrev pub is_load : Header → Bool
is_load h = h.kind == 1

-- the header, where it is one of a segment to be loaded
abbrev pub load_of : Option Header → Option Header
load_of None = None
load_of (Some h) = if is_load h then Some h else None

-- the headers of the segments to be loaded, in the file's order
abbrev pub load_headers : List ℕ → List Header
load_headers file = filter_map load_of (headers file)

-- a header of dynamic linking, or of the name of an interpreter
abbrev pub is_dynamic : Option Header → Bool
is_dynamic None = false
is_dynamic (Some h) = h.kind == 2 || h.kind == 3

-- the segment's file bytes pass the end of the file, of which this is the length
abbrev pub passes_end : ℕ → Header → Bool
passes_end len h = not (h.filesz == 0) && nat_lt len (h.offset + h.filesz)

-- the segment's memory leaves the range
abbrev pub leaves_range : Header → Bool
leaves_range h = not (h.memsz == 0) && (nat_lt h.address range_start || nat_lt range_end (h.address + h.memsz))

-- the header passes the end of the file, or its segment does or leaves the range
abbrev pub is_outside : ℕ → Option Header → Bool
is_outside len None = true
is_outside len (Some h) = is_load h && (passes_end len h || leaves_range h)

-- the segment takes memory
abbrev pub occupies : Header → Bool
occupies h = not (h.memsz == 0)

-- some address is in the memory of both segments
abbrev pub share : Header → Header → Bool
share a b = nat_lt (max a.address b.address) (min (a.address + a.memsz) (b.address + b.memsz))

-- segment i takes the address
abbrev pub IsTaken : List Header → ℕ → ℕ → Type 0
IsTaken hs i address = IfSome (slice_get hs i) (λ h. (h.address ≤ address) × (address < h.address + h.memsz)) × (i < length hs)

-- two elements of a list, the one before the other, pass the test
abbrev pub some_two : {X : Type 0} → (X → X → Bool) → List X → Bool
some_two test [] = false
some_two test (x ∷ xs) = list_any (test x) xs || some_two test xs

-- segments i and j, of which i comes before j, both take some address
abbrev pub IsTakenTwice : List Header → Type 0
IsTakenTwice hs = (i : ℕ) × ((j : ℕ) × ((address : ℕ) × ((i < j) × IsTaken hs i address × IsTaken hs j address)))

-- there is more of the segment in the file than in memory
abbrev pub is_overfull : Header → Bool
is_overfull h = nat_lt h.memsz h.filesz

-- an instruction of an image can stand at the address
abbrev pub is_entry : ℕ → Bool
is_entry address = (address % 4 == 0) && (nat_le range_start address && nat_lt address range_end)

abbrev pub has_other_class : List ℕ → Bool
has_other_class file = not (class file == 2) || (not (encoding file == 1) || not (ident_version file == 1))

abbrev pub has_other_kind : List ℕ → Bool
has_other_kind file = not (file_kind file == 2) || not (version file == 1)

abbrev pub has_other_header_size : List ℕ → Bool
has_other_header_size file = not (header_count file == 0) && not (header_size file == 56)

-- whether a fault applies to a file
unfoldable pub file_has : List ℕ → ElfFault → Bool
file_has file Short = nat_lt (length file) 64
file_has file Magic = not (magic file == 0x464c_457f)
file_has file Class = has_other_class file
file_has file Kind = has_other_kind file
file_has file MachineNumber = not (machine_number file == 243)
file_has file Compressed = flags file % 2 == 1
file_has file Dynamic = list_any is_dynamic (headers file)
file_has file SegmentOutside = has_other_header_size file || list_any (is_outside (length file)) (headers file)
file_has file SegmentOverlap = some_two share (load_headers file)
file_has file SizeOrder = list_any is_overfull (load_headers file)
file_has file Entry = not (is_entry (entry_point file))
file_has file NoMemory = false

-- the faults of a file in the order of their numbers
abbrev pub faults : List ElfFault
faults =
    Short ∷ Magic ∷ Class ∷ Kind ∷ MachineNumber ∷ Compressed ∷ Dynamic ∷ SegmentOutside ∷ SegmentOverlap ∷ SizeOrder ∷ Entry ∷ []

-- the first of them that applies
unfoldable pub fault_of : List ℕ → Option ElfFault
fault_of file = find (file_has file) faults

-- what a header loads of the file
abbrev pub segment_of : List ℕ → Header → Loaded
segment_of file h = record { address = h.address; bytes = take h.filesz (drop h.offset file); memsz = h.memsz }

-- the image of a file
unfoldable pub image_of : List ℕ → Contents
image_of file = record { entry = entry_point file; segments = map (segment_of file) (load_headers file) }

-- the image is that of the file, and each address has the byte of the one segment that takes it, or zero
abbrev pub Loads : List ℕ → Contents → Type 0
Loads file image = (image ≡ image_of file) × ((address : ℕ) → Fills image.segments address (byte_at image address))

-- the number of a fault
abbrev pub file_fault_number : ElfFault → ℕ
file_fault_number Short = 1
file_fault_number Magic = 2
file_fault_number Class = 3
file_fault_number Kind = 4
file_fault_number MachineNumber = 5
file_fault_number Compressed = 6
file_fault_number Dynamic = 7
file_fault_number SegmentOutside = 8
file_fault_number SegmentOverlap = 9
file_fault_number SizeOrder = 10
file_fault_number Entry = 11
file_fault_number NoMemory = 12
