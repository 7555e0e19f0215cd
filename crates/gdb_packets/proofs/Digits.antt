-- Bytes as digits, and back.
use Rattle.std.proofs.Common.{◌≡◌, ℕ, ◌+◌, ◌*◌, ◌-◌, ◌/◌, ◌%◌, ◌<◌, ◌≤◌, ltb, List, [], ◌∷◌, ◌++◌, length, get_or, take, drop, Some, refl, sym, ap, ◌∙◌, append_assoc, arith}
use Rattle.std.proofs.lemmas.List.{append-nil, take_more, take_all}
use Rattle.std.proofs.lemmas.Bool.{lt-ltb, ltb-true}
use Rattle.std.proofs.lemmas.Nat.{div-mul-add, mod-mul-add, div-add-mod', mod_below}
use Rattle.std.specs.List.{AllByRecursion}
use Rattle.evm_text.specs.Written.{character, pairs}
use Rattle.evm_text.specs.Reading.{worth}
use Rattle.evm_text.proofs.Digits.{worth-character, character-worth}
use Rattle.evm_text.proofs.Options.{guard_some}
use Rattle.gdb_packets.specs.Hexadecimal.{bytes_on, bytes_of_digits}

-- ---- written

pairs-append : (xs ys : List ℕ) → pairs (xs ++ ys) ≡ pairs xs ++ pairs ys
unfolding pairs
pairs-append [] ys = refl
pairs-append (x ∷ xs) ys = ap (λ (text : List ℕ). character (x / 16) ∷ character (x % 16) ∷ text) (pairs-append xs ys)

pairs_one : (x : ℕ) → pairs (x ∷ []) ≡ character (x / 16) ∷ character (x % 16) ∷ []
unfolding pairs
pairs_one x = refl

pub pairs_none : (old : List ℕ) → old ≡ old ++ pairs []
unfolding pairs
pairs_none old = sym (append-nil old)

pub pairs_next : (old bytes : List ℕ) (i : ℕ) → i < length bytes
    → ((old ++ pairs (take i bytes)) ++ character (get_or bytes i 0 / 16) ∷ []) ++ character (get_or bytes i 0 % 16) ∷ [] ≡ old ++ pairs (take (i + 1) bytes)
pairs_next old bytes i lt =
    let x = get_or bytes i 0 in
    append_assoc (old ++ pairs (take i bytes)) (character (x / 16) ∷ []) (character (x % 16) ∷ [])
    ∙ ap (λ (t : List ℕ). (old ++ pairs (take i bytes)) ++ t) (sym (pairs_one x))
    ∙ append_assoc old (pairs (take i bytes)) (pairs (x ∷ []))
    ∙ ap (λ (t : List ℕ). old ++ t) (sym (pairs-append (take i bytes) (x ∷ [])) ∙ ap pairs (sym (take_more bytes i 0 lt)))

-- ---- read

record Takes (so_far bytes digits : List ℕ) : Type 0 where
  more : List ℕ
  whole : digits ≡ pairs more
  bytes-is : bytes ≡ so_far ++ more
  each : AllByRecursion (λ byte. byte < 256) more

bytes_on-takes : (so_far bytes digits : List ℕ) → bytes_on so_far digits ≡ Some bytes → Takes so_far bytes digits
unfolding bytes_on pairs
bytes_on-takes so_far bytes [] read =
    let same : so_far ≡ bytes = cc in
    record { more = []; whole = refl; bytes-is = sym same ∙ sym (append-nil so_far); each = tt }
bytes_on-takes so_far bytes (high ∷ []) read = absurd cc
bytes_on-takes so_far bytes (high ∷ low ∷ digits) read =
    let byte = worth high * 16 + worth low in
    let first = guard_some (ltb (worth high) 16) _ bytes read in
    let second = guard_some (ltb (worth low) 16) _ bytes first.1 in
    let high_lt = ltb-true (worth high) 16 first.0 in
    let low_lt = ltb-true (worth low) 16 second.0 in
    let others = bytes_on-takes (so_far ++ byte ∷ []) bytes digits second.1 in
    let front = div-mul-add (worth high) 16 (worth low) low_lt in
    let last = mod-mul-add (worth high) 16 (worth low) low_lt in
    let high-is = character-worth high high_lt in
    let low-is = character-worth low low_lt in
    record {
      more = byte ∷ others.more;
      whole = rw (front, last, high-is, low-is) (ap (λ (t : List ℕ). high ∷ low ∷ t) others.whole);
      bytes-is = others.bytes-is ∙ append_assoc so_far (byte ∷ []) others.more;
      each = (omega arith, others.each);
    }

bytes_on-again : (so_far more : List ℕ) → AllByRecursion (λ byte. byte < 256) more → bytes_on so_far (pairs more) ≡ Some (so_far ++ more)
unfolding bytes_on pairs
bytes_on-again so_far [] each = ap Some (sym (append-nil so_far))
bytes_on-again so_far (byte ∷ more) each =
    let low_lt = mod_below byte 16 (omega arith) in
    let high_lt : byte / 16 < 16 = omega (arith, each.0) in
    let high = worth-character (byte / 16) high_lt in
    let low = worth-character (byte % 16) low_lt in
    let high_digit = lt-ltb (byte / 16) 16 high_lt in
    let low_digit = lt-ltb (byte % 16) 16 low_lt in
    let back = div-add-mod' byte 16 in
    rw (high, low, high_digit, low_digit, back) (bytes_on-again (so_far ++ byte ∷ []) more each.1 ∙ ap Some (append_assoc so_far (byte ∷ []) more))

pub bytes_of_digits-takes : (bytes digits : List ℕ) → bytes_of_digits digits ≡ Some bytes → (digits ≡ pairs bytes) × AllByRecursion (λ byte. byte < 256) bytes
bytes_of_digits-takes bytes digits read =
    let t = bytes_on-takes [] bytes digits read in (
      t.whole ∙ ap pairs (sym t.bytes-is),
      rw t.bytes-is t.each,
    )

pub bytes_of_digits-again : (bytes digits : List ℕ) → (digits ≡ pairs bytes) × AllByRecursion (λ byte. byte < 256) bytes → bytes_of_digits digits ≡ Some bytes
bytes_of_digits-again bytes digits h = rw h.0 (bytes_on-again [] bytes h.1)

-- one more pair
pub bytes_on_more : (so_far rest : List ℕ) → 2 ≤ length rest → worth (get_or rest 0 0) < 16 → worth (get_or rest 1 0) < 16
    → bytes_on so_far rest ≡ bytes_on (so_far ++ (worth (get_or rest 0 0) * 16 + worth (get_or rest 1 0)) ∷ []) (take (length rest - 2) (drop 2 rest))
unfolding bytes_on
bytes_on_more so_far [] long high low = absurd (omega arith)
bytes_on_more so_far (a ∷ []) long high low = absurd (omega arith)
bytes_on_more so_far (a ∷ b ∷ bytes) long high low =
    let h = lt-ltb (worth a) 16 high in
    let l = lt-ltb (worth b) 16 low in
    let whole : take (length (a ∷ b ∷ bytes) - 2) bytes ≡ bytes = take_all _ bytes (omega arith) in
    rw (h, l, whole) refl
