-- The name at an offset of a section of names: the bytes up to the first zero.
use Rattle.std.specs.Prelude.{ℕ, ◌+◌, not, ◌&&◌, ◌==◌, if◌then◌else◌, List, [], ◌∷◌, take, drop, Option, Some, None}
use Rattle.std.specs.Str.{is_utf8}

-- how many bytes stand before the first zero, with the n before them
abbrev pub zero_from : ℕ → List ℕ → Option ℕ
zero_from n [] = None
zero_from n (byte ∷ bytes) = if byte == 0 then Some n else zero_from (n + 1) bytes

-- the text of n bytes, if it has any and is UTF-8
abbrev pub name_text : ℕ → List ℕ → Option (List ℕ)
name_text n bytes = if not (n == 0) && is_utf8 (take n bytes) then Some (take n bytes) else None

abbrev pub text_by : Option ℕ → List ℕ → Option (List ℕ)
text_by None bytes = None
text_by (Some n) bytes = name_text n bytes

-- the name at an offset, of 1 to 255 bytes
unfoldable pub name_at : ℕ → List ℕ → Option (List ℕ)
name_at at names = text_by (zero_from 0 (take 256 (drop at names))) (take 256 (drop at names))
