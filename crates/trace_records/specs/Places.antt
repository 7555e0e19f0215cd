-- Places: what a task does, and where in the program, by the image's symbols.
use Rattle.std.specs.Prelude.{ℕ, ◌==◌, if◌then◌else◌, List, [], ◌∷◌, ◌++◌, Option, Some, None, codes, flat_map}
use Rattle.json.specs.Json.{Json, Items, no_items, item, no_members}
use Rattle.text_markup.specs.Text.{text, shown_bytes}
use Rattle.text_symbols.specs.Named.{Named}
use Rattle.text_symbols.specs.Nearest.{place_of, name_and_offset}
use Rattle.evm_text.specs.Written.{decimal, hexadecimal}
use Rattle.trace_records.specs.Entries.{trace_event, string_member}
use Rattle.trace_records.specs.declared.track.Track.TheVariants.{Task}
use Rattle.trace_records.specs.declared.place.Doing.{Doing}
use Rattle.trace_records.specs.declared.place.Doing.TheVariants.{Begins, Runs, Waits, Locks}
use Rattle.trace_records.specs.declared.place.CodePlace.{CodePlace}

abbrev pub doing_text : Doing → List ℕ
doing_text Begins = codes "begins at "
doing_text Runs = codes "runs at "
doing_text Waits = codes "waits at "
doing_text (Locks m) = codes "locks mutex " ++ (decimal m ++ codes " at ")

abbrev pub distance_text : ℕ → List ℕ
distance_text offset = if offset == 0 then [] else codes "+0x" ++ hexadecimal offset

-- what the task does, and the symbol with the offset
abbrev pub place_words : Doing → List ℕ × ℕ → List ℕ
place_words doing symbol = doing_text doing ++ (symbol.0 ++ distance_text symbol.1)

-- the instant of a place on the track of its task
abbrev pub place_json : CodePlace → List ℕ × ℕ → Json
place_json p symbol = trace_event (codes "i") (Task p.task) p.at (string_member (codes "name") (shown_bytes (place_words p.doing symbol)) (string_member (codes "s") (codes "t") no_members))

-- the symbol of a place, and how far behind it the place is
abbrev pub place_symbol : List Named → CodePlace → Option (List ℕ × ℕ)
place_symbol symbols p = name_and_offset p.address (place_of symbols p.address)

abbrev pub item_by : CodePlace → Option (List ℕ × ℕ) → Items → Items
item_by p None more = more
item_by p (Some symbol) more = item (place_json p symbol) more

-- an instant for each place that has a symbol
abbrev pub place_items : List Named → List CodePlace → Items
place_items symbols [] = no_items
place_items symbols (p ∷ places) = item_by p (place_symbol symbols p) (place_items symbols places)

-- ---- as it is written: behind a comma, on a line of its own
abbrev pub line_by : CodePlace → Option (List ℕ × ℕ) → List ℕ
line_by p None = []
line_by p (Some symbol) = 44 ∷ 10 ∷ text (place_json p symbol)

unfoldable pub place_line : List Named → CodePlace → List ℕ
place_line symbols p = line_by p (place_symbol symbols p)

abbrev pub place_lines : List Named → List CodePlace → List ℕ
place_lines symbols places = flat_map (place_line symbols) places
