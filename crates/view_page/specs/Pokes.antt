-- The bytes of a journal's pokes, as a header has them.
use Rattle.std.specs.Prelude.{ℕ, List, [], ◌∷◌, ◌++◌, Bool, Option, Some, None, codes}
use Rattle.json.specs.Json.{Items, no_items, item, string}
use Rattle.json.specs.Print.{quoted}
use Rattle.text_markup.specs.Text.{comma_if, shown_bytes}
use Rattle.evm_text.specs.Reading.{◌>>=◌, after_word, hexadecimal_at}

-- the bytes of a line that is a poke, in hexadecimal; none of another line
abbrev pub poke_bytes : List ℕ → Option (List ℕ)
poke_bytes line =
    after_word (codes "poke ") line >>= λ rest.
    hexadecimal_at rest >>= λ address.
    after_word (codes " ") address.1

abbrev pub poke_item : Option (List ℕ) → Items → Items
poke_item None more = more
poke_item (Some bytes) more = item (string (shown_bytes bytes)) more

-- of each line that is a poke the bytes, in their order
abbrev pub poke_items : List (List ℕ) → Items
poke_items [] = no_items
poke_items (line ∷ lines) = poke_item (poke_bytes line) (poke_items lines)

-- as it is written, behind a comma if another stands before
abbrev pub poke_text : Bool → List ℕ → List ℕ
poke_text later bytes = comma_if later ++ quoted (shown_bytes bytes)
