-- The file of an assembled program, read again.
use Rattle.std.specs.Prelude.{◌≡◌, ◌<◌, ℕ, ◌+◌, List, slice_index, All, Ok, None}
use Rattle.std.specs.Int.{w32, to_le_bytes}
use Rattle.evm_asm.specs.declared.output.ProgramLine.{ProgramLine}
use Rattle.evm_asm.specs.Assembled.{Assembled}
use Rattle.evm_asm.specs.Assembled.{program_of as assembled_of}
use Rattle.evm_ram.specs.Images.{Contents, byte_at}
use Rattle.evm_elf.specs.Faults.{fault_of, image_of}
use Rattle.evm_elf.specs.Files.{file_of, image_of_bytes}

-- The file of every assembled program has no fault, and its image is one segment of the program's bytes at the start of the range.
abbrev pub AssembledIsRead : Type 0
AssembledIsRead = (source : List ℕ) (p : Assembled) → assembled_of source ≡ Ok p → (fault_of (file_of p.bytes) ≡ None) × (image_of (file_of p.bytes) ≡ image_of_bytes p.bytes)

-- The four bytes from a line's address on are those of its word, the lowest first.
abbrev pub Holds : Contents → ProgramLine → Type 0
Holds image l = (i : ℕ) → i < 4 → byte_at image (l.address + i) ≡ slice_index (to_le_bytes w32 l.word) i

-- In that image the word of each line stands at the line's address.
abbrev pub WordsAreLoaded : Type 0
WordsAreLoaded = (source : List ℕ) (p : Assembled) → assembled_of source ≡ Ok p → All (Holds (image_of (file_of p.bytes))) p.lines
