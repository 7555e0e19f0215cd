-- A text by its lines.
use Rattle.std.specs.Prelude.{◌≡◌, ◌<◌, ℕ, List, [], ◌∷◌, ◌==◌, if◌then◌else◌, length}

abbrev pub NEWLINE : ℕ
NEWLINE = 10

-- a line that a newline ends, with the text behind it, or what stands behind the last newline
pub data Text : Type 0 where
  Ended : List ℕ → Text → Text
  Open : List ℕ → Text

-- a character in front of the first line
abbrev pub with_byte : ℕ → Text → Text
with_byte byte (Ended line text) = Ended (byte ∷ line) text
with_byte byte (Open line) = Open (byte ∷ line)

unfoldable pub text_of : List ℕ → Text
text_of [] = Open []
text_of (byte ∷ bytes) = if byte == NEWLINE then Ended [] (text_of bytes) else with_byte byte (text_of bytes)

-- its lines, without their newlines: the last may lack it, where it has a byte
abbrev pub lines_in : Text → List (List ℕ)
lines_in (Ended line text) = line ∷ lines_in text
lines_in (Open []) = []
lines_in (Open (byte ∷ line)) = (byte ∷ line) ∷ []

-- the lines of a text
unfoldable pub text_lines : List ℕ → List (List ℕ)
text_lines bytes = lines_in (text_of bytes)

-- the first line of a text, and the text behind it
pub record CutsLine (bytes line rest : List ℕ) : Type 0 where
  pub lines : text_lines bytes ≡ line ∷ text_lines rest
  pub shorter : length rest < length bytes
