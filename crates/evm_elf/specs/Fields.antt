-- The fields of an ELF64 file (System V gABI, chapters 4 and 5). Numbers are little-endian, and a byte past the end of the file counts as zero.
use Rattle.std.specs.Prelude.{ℕ, ◌+◌, ◌*◌, List, [], ◌∷◌, drop, length, nat_le, if◌then◌else◌, Option, Some, None, zero, suc}
use Rattle.byteorder.specs.Endian.{little_number}
use Rattle.evm_elf.specs.declared.header.Header.{Header}

-- the number in the n bytes at an offset
unfoldable pub number : ℕ → ℕ → List ℕ → ℕ
number n at file = little_number n (drop at file)

-- the fields of the file header
abbrev pub magic : List ℕ → ℕ
magic = number 4 0

abbrev pub class : List ℕ → ℕ
class = number 1 4

abbrev pub encoding : List ℕ → ℕ
encoding = number 1 5

abbrev pub ident_version : List ℕ → ℕ
ident_version = number 1 6

abbrev pub file_kind : List ℕ → ℕ
file_kind = number 2 16

abbrev pub machine_number : List ℕ → ℕ
machine_number = number 2 18

abbrev pub version : List ℕ → ℕ
version = number 4 20

abbrev pub entry_point : List ℕ → ℕ
entry_point = number 8 24

abbrev pub table_offset : List ℕ → ℕ
table_offset = number 8 32

abbrev pub flags : List ℕ → ℕ
flags = number 4 48

abbrev pub header_size : List ℕ → ℕ
header_size = number 2 54

abbrev pub header_count : List ℕ → ℕ
header_count = number 2 56

-- the program header at an offset
unfoldable pub header_at : ℕ → List ℕ → Header
header_at at file = record {
  kind = number 4 at file;
  offset = number 8 (at + 8) file;
  address = number 8 (at + 16) file;
  filesz = number 8 (at + 32) file;
  memsz = number 8 (at + 40) file;
}

-- program header i, or none where it passes the end of the file
unfoldable pub program_header : List ℕ → ℕ → Option Header
program_header file i =
    if nat_le (table_offset file + 56 * i + 56) (length file)
    then Some (header_at (table_offset file + 56 * i) file)
    else None

-- n program headers from number i on
abbrev pub headers_from : List ℕ → ℕ → ℕ → List (Option Header)
headers_from file i zero = []
headers_from file i (suc n) = program_header file i ∷ headers_from file (i + 1) n

-- all of them, in the file's order
abbrev pub headers : List ℕ → List (Option Header)
headers file = headers_from file 0 (header_count file)
