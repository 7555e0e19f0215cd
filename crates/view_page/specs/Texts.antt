-- Texts that stand within the element of a script, and a run as it stands in a page.
use Rattle.std.specs.Prelude.{◌≡◌, ◌≢◌, ℕ, List, [], ◌∷◌, ◌++◌, flat_map, codes, if◌then◌else◌, ◌==◌}
use Rattle.text_markup.specs.Text.{shown_byte, text}
use Rattle.view_page.specs.Entries.{Entry, entries_text}
use Rattle.view_page.specs.Rows.{row_json}

-- a byte of JSON: `<`, which stands in strings alone, as JSON escapes it, and `?` for what is not printable
abbrev pub safe_byte : ℕ → List ℕ
safe_byte byte = if byte == 60 then codes "\\u003c" else shown_byte byte ∷ []

abbrev pub safe_text : List ℕ → List ℕ
safe_text bytes = flat_map safe_byte bytes

-- an element with its header, and one with its entries
abbrev pub run_text : List ℕ → List ℕ → List Entry → List ℕ
run_text header start entries =
    codes "<script type=\"application/json\" class=\"about\">" ++ (safe_text header
    ++ (codes "</script>\n<script type=\"application/json\" class=\"run\">" ++ (entries_text start entries ++ codes "</script>\n")))

-- ---- laws
-- a text without `<`: nothing in it ends an element, begins one, or begins a comment
abbrev pub IsSafe : List ℕ → Type 0
IsSafe [] = Unit {0}
IsSafe (byte ∷ bytes) = (byte ≢ 60) × IsSafe bytes

abbrev pub HeadersAreSafe : Type 0
HeadersAreSafe = (header : List ℕ) → IsSafe (safe_text header)

abbrev pub RowsAreSafe : Type 0
RowsAreSafe = (ns : List ℕ) → IsSafe (text (row_json ns))

-- entries end no element, whatever they tell of
abbrev pub RunsAreSafe : Type 0
RunsAreSafe = (start : List ℕ) (entries : List Entry) → IsSafe (entries_text start entries)
