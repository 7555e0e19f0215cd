-- The file of a program whose bytes all lie at the start of the range.
use Rattle.std.specs.Prelude.{ℕ, List, [], ◌∷◌, ◌++◌, length, replicate}
use Rattle.byteorder.specs.Endian.{little_bytes}
use Rattle.evm_ram.specs.Images.{Contents, range_start}

-- a file header, and a program header, in bytes
abbrev pub file_header_size : ℕ
file_header_size = 64

abbrev pub program_header_size : ℕ
program_header_size = 56

-- 64 bits, little-endian, version 1
abbrev pub ident : List ℕ
ident = 0x7f ∷ 0x45 ∷ 0x4c ∷ 0x46 ∷ 2 ∷ 1 ∷ 1 ∷ replicate 9 0

-- an executable for RISC-V without flags, and with one program header right behind this header
abbrev pub file_header : List ℕ
file_header =
    ident
    ++ little_bytes 2 2
    ++ little_bytes 2 243
    ++ little_bytes 4 1
    ++ little_bytes 8 range_start
    ++ little_bytes 8 file_header_size
    ++ replicate 12 0
    ++ little_bytes 2 file_header_size
    ++ little_bytes 2 program_header_size
    ++ little_bytes 2 1
    ++ replicate 6 0

-- a segment of len bytes that is loaded at the start of the range, may be read, written and executed, and is aligned to 4
abbrev pub load_header : ℕ → List ℕ
load_header len =
    little_bytes 4 1
    ++ little_bytes 4 7
    ++ little_bytes 8 120
    ++ little_bytes 8 range_start
    ++ little_bytes 8 range_start
    ++ little_bytes 8 len
    ++ little_bytes 8 len
    ++ little_bytes 8 4

-- the file of these bytes
unfoldable pub file_of : List ℕ → List ℕ
file_of bytes = file_header ++ load_header (length bytes) ++ bytes

-- the image of these bytes
abbrev pub image_of_bytes : List ℕ → Contents
image_of_bytes bytes = record {
  entry = range_start;
  segments = record { address = range_start; bytes = bytes; memsz = length bytes } ∷ [];
}
