-- Pairs of hexadecimal digits.
use Rattle.std.proofs.Common.{◌≡◌, ℕ, ◌+◌, ◌*◌, ◌-◌, ◌/◌, ◌%◌, inl, inr, ◌<◌, ◌≤◌, false, cond, eqb, ltb, List, [], ◌∷◌, ◌++◌, length, get_or, take, drop, Option, Some, None, refl, sym, ap, ◌∙◌, arith}
use Rattle.std.proofs.lemmas.List.{take_all}
use Rattle.std.proofs.lemmas.Bool.{lt-ltb}
use Rattle.std.proofs.lemmas.List.{append-nil, append_assoc, length-append}
use Rattle.std.proofs.lemmas.Option.{some_pair_parts}
use Rattle.std.proofs.lemmas.Bool.{cases_Bool, ltb-true, eqb-false, ne_eqb}
use Rattle.std.proofs.lemmas.Nat.{div-mul-add, mod-mul-add, div-add-mod', mod_below}
use Rattle.std.specs.List.{AllByRecursion}
use Rattle.evm_text.specs.Written.{pairs}
use Rattle.evm_text.specs.Reading.{worth, begins_with_digit, pairs_on, pairs_at}
use Rattle.evm_text.specs.Laws.{Splits, IsBlock}
use Rattle.evm_text.proofs.Digits.{worth-character, character-worth}
use Rattle.evm_text.proofs.Options.{bind_some, guard_some, refuse_some}

-- one more pair
pub pairs_on_more : (so_far rest : List ℕ) → 2 ≤ length rest → worth (get_or rest 0 0) < 16 → worth (get_or rest 1 0) < 16 → length so_far < 64
    → pairs_on so_far rest ≡ pairs_on (so_far ++ (worth (get_or rest 0 0) * 16 + worth (get_or rest 1 0)) ∷ []) (take (length rest - 2) (drop 2 rest))
unfolding pairs_on
pairs_on_more so_far [] long high low room = absurd (omega arith)
pairs_on_more so_far (a ∷ []) long high low room = absurd (omega arith)
pairs_on_more so_far (a ∷ b ∷ bytes) long high low room =
    let h = lt-ltb (worth a) 16 high in
    let l = lt-ltb (worth b) 16 low in
    let r = lt-ltb (length so_far) 64 room in
    let whole : take (length (a ∷ b ∷ bytes) - 2) bytes ≡ bytes = take_all _ bytes (omega arith) in
    rw (h, l, r, whole) refl

-- what was read
record Takes (so_far block bytes rest : List ℕ) : Type 0 where
  more : List ℕ
  whole : bytes ≡ pairs more ++ rest
  block-is : block ≡ so_far ++ more
  each : AllByRecursion (λ byte. byte < 256) more
  most : length block ≤ 64
  apart : begins_with_digit 16 rest ≡ false

none_more : (so_far block bytes rest : List ℕ) → length so_far ≤ 64 → ◌≡◌ {A = Option (List ℕ × List ℕ)} (Some (so_far, bytes)) (Some (block, rest)) → begins_with_digit 16 bytes ≡ false → Takes so_far block bytes rest
unfolding pairs
none_more so_far block bytes rest room same apart =
    let parts = some_pair_parts so_far block bytes rest same in
    record { more = []; whole = parts.1; block-is = sym parts.0 ∙ sym (append-nil so_far); each = tt; most = omega (arith, ap (length {A = ℕ}) parts.0); apart = rw parts.1 at apart }

pairs_on-takes : (so_far block bytes rest : List ℕ) → length so_far ≤ 64 → pairs_on so_far bytes ≡ Some (block, rest) → Takes so_far block bytes rest
unfolding pairs_on pairs
pairs_on-takes so_far block [] rest room read = none_more so_far block [] rest room read refl
pairs_on-takes so_far block (high ∷ []) rest room read =
    let g = refuse_some (ltb (worth high) 16) (Some (so_far, high ∷ [])) (block, rest) read in
    none_more so_far block (high ∷ []) rest room g.1 g.0
pairs_on-takes so_far block (high ∷ low ∷ bytes) rest room read =
    elim (cases_Bool (ltb (worth high) 16)) [
      | inl digit ↦
          let byte = worth high * 16 + worth low in
          let next = so_far ++ byte ∷ [] in
          let second = guard_some (ltb (worth low) 16) (cond (ltb (length so_far) 64) (pairs_on next bytes) None) (block, rest) (rw digit at read) in
          let third = guard_some (ltb (length so_far) 64) (pairs_on next bytes) (block, rest) second.1 in
          let high_lt = ltb-true (worth high) 16 digit in
          let low_lt = ltb-true (worth low) 16 second.0 in
          let room_lt = ltb-true (length so_far) 64 third.0 in
          let others = pairs_on-takes next block bytes rest (omega (arith, length-append so_far (byte ∷ []))) third.1 in
          let front = div-mul-add (worth high) 16 (worth low) low_lt in
          let last = mod-mul-add (worth high) 16 (worth low) low_lt in
          let high-is = character-worth high high_lt in
          let low-is = character-worth low low_lt in
          record {
            more = byte ∷ others.more;
            whole = rw (front, last, high-is, low-is) (ap (λ (t : List ℕ). high ∷ low ∷ t) others.whole);
            block-is = others.block-is ∙ append_assoc so_far (byte ∷ []) others.more;
            each = (omega arith, others.each);
            most = others.most;
            apart = others.apart;
          }
      | inr other ↦ none_more so_far block (high ∷ low ∷ bytes) rest room (rw other at read) other
    ]

pairs_on-ends : (so_far rest : List ℕ) → begins_with_digit 16 rest ≡ false → pairs_on so_far rest ≡ Some (so_far, rest)
unfolding pairs_on
pairs_on-ends so_far [] apart = refl
pairs_on-ends so_far (a ∷ []) apart = rw apart refl
pairs_on-ends so_far (a ∷ b ∷ rest) apart = rw apart refl

pairs_on-again : (so_far more rest : List ℕ) → length so_far + length more ≤ 64 → AllByRecursion (λ byte. byte < 256) more → begins_with_digit 16 rest ≡ false → pairs_on so_far (pairs more ++ rest) ≡ Some (so_far ++ more, rest)
unfolding pairs_on pairs
pairs_on-again so_far [] rest room each apart = pairs_on-ends so_far rest apart ∙ ap (λ (block : List ℕ). Some (block, rest)) (sym (append-nil so_far))
pairs_on-again so_far (byte ∷ more) rest room each apart =
    let low_lt = mod_below byte 16 (omega arith) in
    let high_lt : byte / 16 < 16 = omega (arith, each.0) in
    let high = worth-character (byte / 16) high_lt in
    let low = worth-character (byte % 16) low_lt in
    let high_digit = lt-ltb (byte / 16) 16 high_lt in
    let low_digit = lt-ltb (byte % 16) 16 low_lt in
    let fits = lt-ltb (length so_far) 64 (omega arith) in
    let back = div-add-mod' byte 16 in
    let others = pairs_on-again (so_far ++ byte ∷ []) more rest (omega (arith, length-append so_far (byte ∷ []))) each.1 apart in
    rw (high, low, high_digit, low_digit, fits, back) (others ∙ ap (λ (block : List ℕ). Some (block, rest)) (append_assoc so_far (byte ∷ []) more))

pub pairs_at-takes : (block rest bytes : List ℕ) → pairs_at bytes ≡ Some (block, rest) → Splits 16 (pairs block) rest bytes × IsBlock block
unfolding pairs_at
pairs_at-takes block rest bytes read =
    let b = bind_some (pairs_on [] bytes) (λ x. cond (eqb (length x.0) 0) None (Some x)) (block, rest) read in
    let g = refuse_some (eqb (length b.0.0) 0) (Some b.0) (block, rest) b.2 in
    let t = pairs_on-takes [] b.0.0 bytes b.0.1 (omega arith) b.1 in
    let same = some_pair_parts b.0.0 block b.0.1 rest g.1 in
    let empty : eqb (length block) 0 ≡ false = rw same.0 at g.0 in
    let ne = eqb-false (length block) 0 empty in
    let some : 0 < length block = omega arith in
    let more-is : t.more ≡ block = sym t.block-is ∙ same.0 in (
      record { whole = t.whole ∙ rw (more-is, same.1) refl; apart = rw same.1 at t.apart },
      record { some = some; most = rw same.0 at t.most; each = rw more-is at t.each },
    )

pub pairs_at-again : (block rest : List ℕ) → IsBlock block → begins_with_digit 16 rest ≡ false → pairs_at (pairs block ++ rest) ≡ Some (block, rest)
unfolding pairs_at
pairs_at-again block rest is apart =
    let read = pairs_on-again [] block rest (omega (arith, is.most)) is.each apart in
    let some = ne_eqb (length block) 0 (omega (arith, is.some)) in
    rw (read, some) refl
