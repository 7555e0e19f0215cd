-- The sections of an ELF64 file, and which of them are its symbol table and that table's names (System V gABI, "Sections").
use Rattle.std.specs.Prelude.{ℕ, ◌+◌, ◌*◌, Bool, IsTrue, ◌&&◌, ◌==◌, nat_lt, nat_le, if◌then◌else◌, List, [], ◌∷◌, length, Option, Some, None, zero, suc}
use Rattle.std.specs.List.{find}
use Rattle.text_symbols.specs.declared.sections.Section.{Section}
use Rattle.text_symbols.specs.declared.sections.Tables.{Tables}
use Rattle.text_symbols.specs.declared.sections.Tables.TheVariants.{Absent, Damaged, Found}
use Rattle.text_symbols.specs.Fields.{field_at}

-- 64 bits, little-endian, with a whole header
abbrev pub is_elf64 : List ℕ → Bool
is_elf64 file = nat_le 64 (length file) && (field_at 4 0 file == 0x464c_457f && (field_at 1 4 file == 2 && field_at 1 5 file == 1))

-- where the section headers begin, how long each is, and how many there are
abbrev pub headers_offset : List ℕ → ℕ
headers_offset file = field_at 8 40 file

abbrev pub section_header_size : List ℕ → ℕ
section_header_size file = field_at 2 58 file

abbrev pub section_header_count : List ℕ → ℕ
section_header_count file = field_at 2 60 file

-- the section header at an offset
unfoldable pub section_at : ℕ → List ℕ → Section
section_at at file = record {
  kind = field_at 4 (at + 4) file;
  offset = field_at 8 (at + 24) file;
  size = field_at 8 (at + 32) file;
  link = field_at 4 (at + 40) file;
  entry_size = field_at 8 (at + 56) file;
}

-- section i
abbrev pub section : List ℕ → ℕ → Section
section file i = section_at (headers_offset file + 64 * i) file

-- n sections from number i on
abbrev pub sections_from : List ℕ → ℕ → ℕ → List Section
sections_from file i zero = []
sections_from file i (suc n) = section file i ∷ sections_from file (i + 1) n

-- the section headers lie in the file
abbrev pub has_headers : List ℕ → Bool
has_headers file = section_header_size file == 64 && nat_le (headers_offset file + 64 * section_header_count file) (length file)

-- the section's bytes lie in the file
abbrev pub is_whole : List ℕ → Section → Bool
is_whole file s = nat_le (s.offset + s.size) (length file)

-- SHT_SYMTAB, SHT_STRTAB
abbrev pub is_symbol_table : Section → Bool
is_symbol_table s = s.kind == 2

abbrev pub is_names : Section → Bool
is_names s = s.kind == 3

-- The symbol table s: its entries are of 24 bytes, and it is linked to a section of names.
abbrev pub linked : List ℕ → Section → Section → Tables
linked file s names = if is_names names && is_whole file names then Found s names else Damaged

abbrev pub tables_by : List ℕ → Option Section → Tables
tables_by file None = Absent
tables_by file (Some s) = if s.entry_size == 24 && (is_whole file s && nat_lt s.link (section_header_count file)) then linked file s (section file s.link) else Damaged

-- The symbol table is the first section of its kind.
abbrev pub tables_in : List ℕ → Tables
tables_in file = if has_headers file then tables_by file (find is_symbol_table (sections_from file 0 (section_header_count file))) else Damaged

unfoldable pub tables_of : List ℕ → Tables
tables_of file = if is_elf64 file then (if section_header_count file == 0 then Absent else tables_in file) else Absent

-- what was found lies in the file
abbrev pub AreInside : List ℕ → Tables → Type 0
AreInside file Absent = Unit {0}
AreInside file Damaged = Unit {0}
AreInside file (Found s names) = IsTrue (is_whole file s) × IsTrue (is_whole file names)
