-- The bytes of a string.
use Rattle.std.proofs.Common.{◌≡◌, ◌≢◌, ℕ, ◌<◌, ◌≤◌, List, [], ◌∷◌, refl, ap, ◌∙◌, arith}
use Rattle.std.proofs.lemmas.Bool.{lt-ltb, le-ltb}
use Rattle.json.specs.Print.{escape_byte}
use Rattle.json.proofs.Printed.Strings.{escape_byte_plain}
use Rattle.text_markup.specs.Text.{shown_byte}

pub shown_printable : (byte : ℕ) → 31 < byte → byte < 127 → shown_byte byte ≡ byte
shown_printable byte low high =
    let e = lt-ltb 31 byte low in
    let f = lt-ltb byte 127 high in
    rw (e, f) refl

pub shown_low : (byte : ℕ) → byte ≤ 31 → shown_byte byte ≡ 63
shown_low byte low = let e = le-ltb 31 byte low in rw e refl

pub shown_high : (byte : ℕ) → 127 ≤ byte → shown_byte byte ≡ 63
shown_high byte high =
    let e = lt-ltb 31 byte (omega arith) in
    let f = le-ltb byte 127 high in
    rw (e, f) refl

pub escape_quote : escape_byte 34 ≡ 92 ∷ 34 ∷ []
unfolding escape_byte
escape_quote = refl

pub escape_backslash : escape_byte 92 ≡ 92 ∷ 92 ∷ []
unfolding escape_byte
escape_backslash = refl

pub escape_mark : escape_byte 63 ≡ 63 ∷ []
unfolding escape_byte
escape_mark = refl

pub escape_plain : (byte : ℕ) → 31 < byte → byte ≢ 34 → byte ≢ 92 → escape_byte byte ≡ byte ∷ []
escape_plain byte low q b = escape_byte_plain byte q b (omega arith)

pub ruleset bytes = (shown_printable, shown_low, shown_high, escape_quote, escape_backslash, escape_mark, escape_plain)
