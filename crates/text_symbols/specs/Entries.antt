-- The symbols of a file (System V gABI, "Symbol Table").
use Rattle.std.specs.Prelude.{ℕ, ◌+◌, ◌/◌, ◌%◌, Bool, false, ◌||◌, ◌==◌, if◌then◌else◌, List, [], take, drop, Option, Some, None, zero, suc, slice_index}
use Rattle.std.specs.List.{cons_option}
use Rattle.text_symbols.specs.declared.sections.Section.{Section}
use Rattle.text_symbols.specs.declared.sections.Tables.{Tables}
use Rattle.text_symbols.specs.declared.sections.Tables.TheVariants.{Absent, Damaged, Found}
use Rattle.text_symbols.specs.declared.symbol.SymbolKind.{SymbolKind}
use Rattle.text_symbols.specs.declared.symbol.SymbolKind.TheVariants.{Function, Object, Label, Absolute}
use Rattle.text_symbols.specs.declared.symbols.SymbolTable.TheVariants as tables
use Rattle.text_symbols.specs.Fields.{field_at}
use Rattle.text_symbols.specs.Sections.{tables_of}
use Rattle.text_symbols.specs.Names.{name_at}
use Rattle.text_symbols.specs.Named.{Named, FileSymbols}

-- what the type of a symbol and the number of its section say: section 0 is of symbols that are defined elsewhere, and section 0xfff1 of absolute ones
abbrev pub symbol_kind : ℕ → ℕ → Option SymbolKind
symbol_kind type section =
    if section == 0 then None
    else (if type == 2 then Some Function
    else (if type == 1 then Some Object
    else (if type == 0 then (if section == 0xfff1 then Some Absolute else Some Label) else None)))

-- A label that begins with `.` or `$` is the compiler's or the assembler's own.
abbrev pub is_own : SymbolKind → List ℕ → Bool
is_own Label name = slice_index name 0 == 46 || slice_index name 0 == 36
is_own kind name = false

abbrev pub symbol_of : ℕ → ℕ → Option SymbolKind → Option (List ℕ) → Option Named
symbol_of value size None name = None
symbol_of value size (Some kind) None = None
symbol_of value size (Some kind) (Some name) = if is_own kind name then None else Some (record { name = name; value = value; size = size; kind = kind })

-- the symbol of the entry at an offset, whose name is among these names: none where it has no name, is undefined, or is of another kind
unfoldable pub symbol_at : List ℕ → List ℕ → ℕ → Option Named
symbol_at file names at =
    symbol_of (field_at 8 (at + 8) file) (field_at 8 (at + 16) file) (symbol_kind (field_at 1 (at + 4) file % 16) (field_at 2 (at + 6) file)) (name_at (field_at 4 at file) names)

-- those of n entries from an offset on
abbrev pub symbols_from : List ℕ → List ℕ → ℕ → ℕ → List Named
symbols_from file names at zero = []
symbols_from file names at (suc n) = cons_option (symbol_at file names at) (symbols_from file names (at + 24) n)

-- a section's bytes
abbrev pub section_bytes : List ℕ → Section → List ℕ
section_bytes file s = take s.size (drop s.offset file)

-- what a file says of its symbols
abbrev pub known_by : List ℕ → Tables → FileSymbols
known_by file Absent = record { table = tables.Absent; symbols = [] }
known_by file Damaged = record { table = tables.Damaged; symbols = [] }
known_by file (Found s names) = record { table = tables.Read; symbols = symbols_from file (section_bytes file names) s.offset (s.size / 24) }

unfoldable pub symbols_of_file : List ℕ → FileSymbols
symbols_of_file file = known_by file (tables_of file)
