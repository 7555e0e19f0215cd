-- No byte of a header or of a row is `<`.
use Rattle.std.proofs.Common.{◌≡◌, ◌≢◌, ℕ, zero, suc, ◌+◌, ◌/◌, ◌%◌, ◌<◌, ◌≤◌, Bool, true, false, List, [], ◌∷◌, ◌++◌, flat_map, refl, sym, ap, subst, ◌∙◌, arith, ◌==◌, inl, inr}
use Rattle.std.proofs.lemmas.Bool.{ne_eqb, cases_lt, lt-ltb, le-ltb, cases_eq}
use Rattle.std.specs.Prelude.{codes, if◌then◌else◌, nat_lt, ◌&&◌}
use Rattle.json.specs.Json.{Json, number, array, Items, no_items, item}
use Rattle.text_markup.specs.Text.{shown_byte, text, items_text}
use Rattle.evm_text.specs.Written.{character, numeral, decimal}
use Rattle.view_page.specs.Rows.{row_items, row_json}
use Rattle.view_page.specs.Texts.{IsSafe, safe_byte, safe_text}

-- ---- one byte
pub escaped : safe_byte 60 ≡ codes "\\u003c"
escaped = refl

pub plain : (byte : ℕ) → byte ≢ 60 → 31 < byte → byte < 127 → safe_byte byte ≡ byte ∷ []
plain byte other low high =
    let e = ne_eqb byte 60 other in
    let f = lt-ltb 31 byte low in
    let g = lt-ltb byte 127 high in
    rw (e, f, g) refl

pub low : (byte : ℕ) → byte ≤ 31 → safe_byte byte ≡ 63 ∷ []
low byte small =
    let e = ne_eqb byte 60 (λ same. omega (arith, same, small)) in
    let f = le-ltb 31 byte small in
    rw (e, f) refl

pub high : (byte : ℕ) → 127 ≤ byte → safe_byte byte ≡ 63 ∷ []
high byte large =
    let e = ne_eqb byte 60 (λ same. omega (arith, same, large)) in
    let f = lt-ltb 31 byte (omega (arith, large)) in
    let g = le-ltb byte 127 large in
    rw (e, f, g) refl

pub ruleset bytes = (escaped, plain, low, high)

-- ---- lists
pub safe-append : (xs ys : List ℕ) → IsSafe xs → IsSafe ys → IsSafe (xs ++ ys)
safe-append [] ys one two = two
safe-append (x ∷ xs) ys one two = (one.0, safe-append xs ys one.1 two)

-- ---- headers
shown : (byte : ℕ) → byte ≢ 60 → shown_byte byte ≢ 60
shown byte other =
    elim (cases_lt 31 byte) [
      | inl above ↦
          let e = lt-ltb 31 byte above in
          elim (cases_lt byte 127) [
            | inl under ↦ let f = lt-ltb byte 127 under in rw (e, f) other
            | inr over ↦ let f = le-ltb byte 127 over in rw (e, f) (λ same. omega (arith, same))
          ]
      | inr under ↦ let e = le-ltb 31 byte under in rw e (λ same. omega (arith, same))
    ]

differs : (a : ℕ) → 60 < a → a ≢ 60
differs a h same = omega (arith, h, same)

less : (a : ℕ) → a < 60 → a ≢ 60
less a h same = omega (arith, h, same)

safe-escape : IsSafe (safe_byte 60)
safe-escape =
    (differs 92 (omega arith), (differs 117 (omega arith), (less 48 (omega arith), (less 48 (omega arith), (less 51 (omega arith), (differs 99 (omega arith), tt))))))

safe-byte : (byte : ℕ) → IsSafe (safe_byte byte)
safe-byte byte =
    elim (cases_eq byte 60) [
      | inl same ↦ subst (λ b. IsSafe (safe_byte b)) (sym same) safe-escape
      | inr other ↦ let e = ne_eqb byte 60 other in rw e (shown byte other, tt)
    ]

pub safe-header : (header : List ℕ) → IsSafe (safe_text header)
safe-header [] = tt
safe-header (byte ∷ header) = safe-append (safe_byte byte) (safe_text header) (safe-byte byte) (safe-header header)

-- ---- rows
digit : (n : ℕ) → character n ≢ 60
digit n =
    elim (cases_lt n 10) [
      | inl small ↦ let e = lt-ltb n 10 small in rw e (λ same. omega (arith, same, small))
      | inr large ↦ let e = le-ltb n 10 large in rw e (λ same. omega (arith, same))
    ]

safe-numeral : (divisions n : ℕ) → IsSafe (numeral 10 divisions n)
unfolding numeral
safe-numeral zero n = (digit n, tt)
safe-numeral (suc divisions) n =
    elim (cases_lt n 10) [
      | inl small ↦
          let e = lt-ltb n 10 small in
          let one : numeral 10 (suc divisions) n ≡ character n ∷ [] = rw e refl in
          subst IsSafe (sym one) (digit n, tt)
      | inr large ↦
          let e = le-ltb n 10 large in
          let more : numeral 10 (suc divisions) n ≡ numeral 10 divisions (n / 10) ++ character (n % 10) ∷ [] = rw e refl in
          subst IsSafe (sym more) (safe-append (numeral 10 divisions (n / 10)) (character (n % 10) ∷ []) (safe-numeral divisions (n / 10)) (digit (n % 10), tt))
    ]

safe-items : (ns : List ℕ) → IsSafe (items_text true (row_items ns))
safe-items [] = (differs 93 (omega arith), tt)
safe-items (n ∷ ns) = (less 44 (omega arith), safe-append (decimal n) (items_text true (row_items ns)) (safe-numeral 19 n) (safe-items ns))

pub safe-row : (ns : List ℕ) → IsSafe (text (row_json ns))
safe-row [] = (differs 91 (omega arith), (differs 93 (omega arith), tt))
safe-row (n ∷ ns) = (differs 91 (omega arith), safe-append (decimal n) (items_text true (row_items ns)) (safe-numeral 19 n) (safe-items ns))
