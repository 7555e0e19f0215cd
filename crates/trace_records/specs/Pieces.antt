-- The lines of a name, and of a place or a wait, in the pieces in which they are written, for private clauses.
use Rattle.std.specs.Prelude.{ℕ, List, ◌++◌, codes}
use Rattle.json.specs.Print.{quoted}
use Rattle.text_markup.specs.Text.{shown_bytes}
use Rattle.evm_text.specs.Written.{decimal}

unfoldable pub name_pieces : ℕ → List ℕ → List ℕ
name_pieces thread name =
    codes ",\n{\"ph\":\"M\",\"pid\":2,\"tid\":" ++ decimal thread ++ codes ",\"ts\":0,\"name\":\"thread_name\",\"args\":{\"name\":" ++ quoted (shown_bytes name)
    ++ codes "}}"

unfoldable pub place_pieces : ℕ → ℕ → List ℕ → List ℕ
place_pieces thread at name =
    codes ",\n{\"ph\":\"i\",\"pid\":2,\"tid\":" ++ decimal thread ++ codes ",\"ts\":" ++ decimal at ++ codes ",\"name\":" ++ quoted (shown_bytes name)
    ++ codes ",\"s\":\"t\"}"
