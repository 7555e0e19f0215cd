-- A symbol, without where it lies in memory.
use Rattle.std.specs.Prelude.{ℕ, List}
use Rattle.text_symbols.specs.declared.symbol.SymbolKind.{SymbolKind}
use Rattle.text_symbols.specs.declared.symbols.SymbolTable.{SymbolTable}

pub record Named : Type 0 where
  pub name : List ℕ
  pub value : ℕ
  pub size : ℕ
  pub kind : SymbolKind

-- what a file says of its symbols: whether it has a table, and the symbols with names, in its order
pub record FileSymbols : Type 0 where
  pub table : SymbolTable
  pub symbols : List Named
