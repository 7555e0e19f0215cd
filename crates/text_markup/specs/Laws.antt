-- What a JSON reader finds in the texts: the values that were written.
use Rattle.std.specs.Prelude.{◌≡◌, ◌<◌, ◌≤◌, ◌^◌, ℕ, List, Some}
use Rattle.json.specs.Json.{Json, array, object, Items, no_members, member, document}
use Rattle.json.specs.Print.{escape, IsNumber}
use Rattle.json.specs.Tree.{HasNumbers, ItemsHaveNumbers, depth, items_depth}
use Rattle.evm_text.specs.Written.{decimal}
use Rattle.text_markup.specs.Text.{text, listing}

-- A text is its value: for a reader that takes arrays and objects 128 deep.
abbrev pub ValuesAreJson : Type 0
ValuesAreJson = (j : Json) → HasNumbers j → depth j ≤ 128 → document (text j) ≡ Some j

abbrev pub ListingsAreJson : Type 0
ListingsAreJson = (key : List ℕ) (js : Items) → ItemsHaveNumbers js → items_depth js ≤ 126 → document (listing key js) ≡ Some (object (member key (array js) no_members))

-- Decimal digits are a number of JSON, and stand for themselves in a string.
abbrev pub DecimalsAreJson : Type 0
DecimalsAreJson = (n : ℕ) → (n < 2 ^ 64 → IsNumber (decimal n)) × (escape (decimal n) ≡ decimal n)
