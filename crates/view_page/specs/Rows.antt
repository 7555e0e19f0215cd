-- A row of numbers, as JSON.
use Rattle.std.specs.Prelude.{ℕ, List, [], ◌∷◌}
use Rattle.json.specs.Json.{Json, number, array, Items, no_items, item}
use Rattle.evm_text.specs.Written.{decimal}

abbrev pub row_items : List ℕ → Items
row_items [] = no_items
row_items (n ∷ ns) = item (number (decimal n)) (row_items ns)

-- a row of numbers
abbrev pub row_json : List ℕ → Json
row_json ns = array (row_items ns)
