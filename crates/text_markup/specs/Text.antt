-- The text of a JSON value (RFC 8259), without spaces.
use Rattle.std.specs.Prelude.{ℕ, List, [], ◌∷◌, ◌++◌, map, Bool, true, false, nat_lt, ◌&&◌, if◌then◌else◌, codes}
use Rattle.json.specs.Json.{Json, null, boolean, number, string, array, object, Items, no_items, item, Members, no_members, member}
use Rattle.json.specs.Print.{quoted}

-- a comma, where something stands before
abbrev pub comma_if : Bool → List ℕ
comma_if later = if later then 44 ∷ [] else []

abbrev pub truth : Bool → List ℕ
truth true = codes "true"
truth false = codes "false"

abbrev mutual
  pub text : Json → List ℕ
  text null = codes "null"
  text (boolean b) = truth b
  text (number s) = s
  text (string s) = quoted s
  text (array js) = 91 ∷ items_text false js
  text (object ms) = 123 ∷ members_text false ms

  -- with the closing bracket
  pub items_text : Bool → Items → List ℕ
  items_text later no_items = 93 ∷ []
  items_text later (item j js) = comma_if later ++ (text j ++ items_text true js)

  pub members_text : Bool → Members → List ℕ
  members_text later no_members = 125 ∷ []
  members_text later (member k j ms) = comma_if later ++ (quoted k ++ 58 ∷ (text j ++ members_text true ms))

-- the items of an array, each on a line of its own, with the closing bracket
abbrev pub item_lines : Bool → Items → List ℕ
item_lines later no_items = 10 ∷ 93 ∷ []
item_lines later (item j js) = comma_if later ++ 10 ∷ (text j ++ item_lines true js)

-- an object of one member: an array with a line for each item
abbrev pub listing : List ℕ → Items → List ℕ
listing key js = 123 ∷ (quoted key ++ 58 ∷ 91 ∷ (item_lines false js ++ 125 ∷ []))

-- a byte of a string, where what is no printable ASCII character is a question mark
abbrev pub shown_byte : ℕ → ℕ
shown_byte byte = if nat_lt 31 byte && nat_lt byte 127 then byte else 63

abbrev pub shown_bytes : List ℕ → List ℕ
shown_bytes bytes = map shown_byte bytes
