-- A label at the front of a line is found, with the place before the line's statement, or stands twice.
use Rattle.std.proofs.Common.{◌≡◌, ◌∙◌, ℕ, zero, suc, ◌+◌, ◌-◌, ◌<◌, ◌≤◌, Bool, true, false, cond, List, [], ◌∷◌, ◌++◌, length, Option, Some, None, is_some, Result, Ok, Err, ap, refl, sym, subst, arith, ⊎_elim, inl, inr, ◌⊎◌, append_assoc}
use Rattle.std.specs.List.{slice_get}
use Rattle.std.specs.Option.{option_map}
use Rattle.std.specs.Str.{bytes_eq}
use Rattle.std.proofs.lemmas.Slice.Eq.{bytes_eq-Decides}
use Rattle.evm_asm.specs.evm_asm_lexer.Characters.{colon}
use Rattle.evm_asm.specs.evm_asm_lexer.declared.source_fault.SourceFaultKind.{SourceFaultKind}
use Rattle.evm_asm.specs.evm_asm_lexer.Text.{before, after, has_byte}
use Rattle.evm_asm.specs.evm_asm_lexer.Names.{named}
use Rattle.evm_asm.specs.evm_asm_parser.declared.spot.Spot.{Spot}
use Rattle.evm_asm.specs.evm_asm_parser.Operands.{Spots, name_in}
use Rattle.evm_asm.specs.declared.place.SectionPlace.{SectionPlace}
use Rattle.evm_asm.specs.Places.{here}
use Rattle.evm_asm.specs.Sources.{source_lines, code_of, label_at, behind_labels, Defined, with_label, defined, outcome, measured, line_defined, line_laid, Laid, nothing_laid, with_line_laid, laid, statement_text}
use Rattle.evm_asm.specs.Items.{address, and_then, layout_of, meaning_of}
use Rattle.evm_asm.specs.Programs.{nothing_spelled, spelled}
use Rattle.evm_asm.specs.Assembled.{Assembled, assembled, program_of}
use Rattle.evm_asm.specs.Sizes.{size_of_text, place_before}
use Rattle.claims_texts.specs.Standing.{HasLabel, labels_at, labels_of}
use Rattle.evm_asm.proofs.Line_by_line.{named-addressed, after-shorter, behind_labels-none, one_label, one_defined}
use Rattle.evm_asm.proofs.Placed_where_laid.{none_ignored, laid-append, lines_none, line_none, place_is}
use Rattle.evm_asm.proofs.Results.{and_then_ok, same_program}
use Rattle.claims_texts.specs.HasFault.{StandsAmong, SomeTwice, HasLabelTwice}
use Rattle.std.proofs.lemmas.List.{append-nil}

bytes_eq_self : (xs : List ℕ) → bytes_eq xs xs ≡ true
bytes_eq_self xs = (bytes_eq-Decides xs xs).1 refl

named-append : (xs ys : Spots) (name : List ℕ) (v : Spot) → named xs name ≡ Some v → named (xs ++ ys) name ≡ Some v
named-append [] ys name v h = cc
named-append (x ∷ xs) ys name v h = by (bytes_eq name x.0) (λ k. named-append xs ys name v k) h
  where
    by : (t : Bool) → (named xs name ≡ Some v → named (xs ++ ys) name ≡ Some v) → cond t (Some x.1) (named xs name) ≡ Some v → cond t (Some x.1) (named (xs ++ ys) name) ≡ Some v
    by true rest k = k
    by false rest k = rest k

named-new : (xs : Spots) (name : List ℕ) (v : Spot) → named xs name ≡ None → named (xs ++ (name, v) ∷ []) name ≡ Some v
named-new [] name v h = ap (λ (t : Bool). cond t (Some v) None) (bytes_eq_self name)
named-new (x ∷ xs) name v h = by (bytes_eq name x.0) (λ k. named-new xs name v k) h
  where
    by : (t : Bool) → (named xs name ≡ None → named (xs ++ (name, v) ∷ []) name ≡ Some v) → cond t (Some x.1) (named xs name) ≡ None → cond t (Some x.1) (named (xs ++ (name, v) ∷ []) name) ≡ Some v
    by true rest k = cc
    by false rest k = rest k

kept_by : (name : List ℕ) (spot : Spot) (d : Defined) (t : Bool) (q : List ℕ) (v : Spot) → named d.labels q ≡ Some v
    → named (cond {A = Defined} t (record { labels = d.labels; twice = true }) (record { labels = d.labels ++ (name, spot) ∷ []; twice = d.twice })).labels q ≡ Some v
kept_by name spot d true q v h = h
kept_by name spot d false q v h = named-append d.labels ((name, spot) ∷ []) q v h

label_keeps : (name : List ℕ) (spot : Spot) (d : Defined) (q : List ℕ) (v : Spot) → named d.labels q ≡ Some v → named (with_label spot name d).labels q ≡ Some v
unfolding with_label
label_keeps name spot d q v h = kept_by name spot d (is_some (named d.labels name)) q v h

new_by : (name : List ℕ) (spot : Spot) (d : Defined) (o : Option Spot) → named d.labels name ≡ o
    → (cond {A = Defined} (is_some o) (record { labels = d.labels; twice = true }) (record { labels = d.labels ++ (name, spot) ∷ []; twice = d.twice })).twice ≡ false
    → (named (cond {A = Defined} (is_some o) (record { labels = d.labels; twice = true }) (record { labels = d.labels ++ (name, spot) ∷ []; twice = d.twice })).labels name ≡ Some spot) × (d.twice ≡ false)
new_by name spot d (Some v) e h = cc
new_by name spot d None e h = (named-new d.labels name spot e, h)

-- a label that doesn't come twice is found
label_new : (name : List ℕ) (spot : Spot) (d : Defined) → (with_label spot name d).twice ≡ false → (named (with_label spot name d).labels name ≡ Some spot) × (d.twice ≡ false)
unfolding with_label
label_new name spot d h = new_by name spot d (named d.labels name) refl h

behind_zero : (text : List ℕ) → behind_labels 0 text ≡ text
unfolding behind_labels
behind_zero text = refl

same_name : (label : List ℕ × List ℕ) (name rest : List ℕ) → ◌≡◌ {A = Option (List ℕ × List ℕ)} (Some label) (Some (name, rest)) → label.0 ≡ name
same_name label name rest h = let e : ◌≡◌ {A = List ℕ × List ℕ} label (name, rest) = cc in ap (λ (l : List ℕ × List ℕ). l.0) e

module _ (spot : Spot) where
  keeps_by : (m : ℕ) (d : Defined) (o : Option (List ℕ × List ℕ)) (q : List ℕ) (v : Spot) → ((t : List ℕ) (e : Defined) → named e.labels q ≡ Some v → named (defined m spot t e).labels q ≡ Some v)
      → named d.labels q ≡ Some v → named (elim o as (λ _. Defined) [ None ↦ d | Some label ↦ defined m spot label.1 (with_label spot label.0 d) ]).labels q ≡ Some v
  keeps_by m d None q v more h = h
  keeps_by m d (Some label) q v more h = more label.1 (with_label spot label.0 d) (label_keeps label.0 spot d q v h)

  keeps : (m : ℕ) (text : List ℕ) (d : Defined) (q : List ℕ) (v : Spot) → named d.labels q ≡ Some v → named (defined m spot text d).labels q ≡ Some v
  unfolding defined
  keeps zero text d q v h = h
  keeps (suc m) text d q v h = keeps_by m d (label_at text) q v (λ t e k. keeps m t e q v k) h

  once_by : (m : ℕ) (d : Defined) (o : Option (List ℕ × List ℕ)) → ((t : List ℕ) (e : Defined) → (defined m spot t e).twice ≡ false → e.twice ≡ false)
      → (elim o as (λ _. Defined) [ None ↦ d | Some label ↦ defined m spot label.1 (with_label spot label.0 d) ]).twice ≡ false → d.twice ≡ false
  once_by m d None more h = h
  once_by m d (Some label) more h = (label_new label.0 spot d (more label.1 (with_label spot label.0 d) h)).1

  once : (m : ℕ) (text : List ℕ) (d : Defined) → (defined m spot text d).twice ≡ false → d.twice ≡ false
  unfolding defined
  once zero text d h = h
  once (suc m) text d h = once_by m d (label_at text) (λ t e k. once m t e k) h

  -- label j of a text is found, if none comes twice
  found : (m j : ℕ) (text : List ℕ) (d : Defined) (o : Option (List ℕ × List ℕ)) (name rest : List ℕ) → label_at text ≡ o → j < m → label_at (behind_labels j text) ≡ Some (name, rest)
      → (defined m spot text d).twice ≡ false → named (defined m spot text d).labels name ≡ Some spot
  found zero j text d o name rest e less h clean = absurd (omega arith)
  found (suc m) j text d None name rest e less h clean = let same : label_at text ≡ Some (name, rest) = ap (λ (t : List ℕ). label_at t) (sym (behind_labels-none j text e)) ∙ h in cc
  found (suc m) zero text d (Some label) name rest e less h clean =
      let next = one_defined m spot text label.0 label.1 d e in
      let with : Defined = with_label spot label.0 d in
      let clean' : (defined m spot label.1 with).twice ≡ false = ap (λ (x : Defined). x.twice) (sym next) ∙ clean in
      let first : label_at text ≡ Some (name, rest) = ap (λ (t : List ℕ). label_at t) (sym (behind_zero text)) ∙ h in
      let name_is : label.0 ≡ name = same_name label name rest (sym e ∙ first) in
      ap (λ (x : Defined). named x.labels name) next
      ∙ subst (λ (q : List ℕ). named (defined m spot label.1 with).labels q ≡ Some spot) name_is
      (keeps m label.1 with label.0 spot (label_new label.0 spot d (once m label.1 with clean')).0)
  found (suc m) (suc j) text d (Some label) name rest e less h clean =
      let next = one_defined m spot text label.0 label.1 d e in
      let with : Defined = with_label spot label.0 d in
      let clean' : (defined m spot label.1 with).twice ≡ false = ap (λ (x : Defined). x.twice) (sym next) ∙ clean in
      let later : label_at (behind_labels j label.1) ≡ Some (name, rest) = ap (λ (t : List ℕ). label_at t) (sym (one_label j text label.0 label.1 e)) ∙ h in
      ap (λ (x : Defined). named x.labels name) next ∙ found m j label.1 with (label_at label.1) name rest refl (omega arith) later clean'

no_label : label_at [] ≡ None
unfolding label_at
no_label = refl

shorter_by : (t : Bool) (o : Option (List ℕ)) (b : ℕ) (bs : List ℕ) (label : List ℕ × List ℕ) → cond t (option_map (λ name. (name, after colon (b ∷ bs))) o) None ≡ Some label → length label.1 ≤ length bs
shorter_by true (Some name) b bs label h =
    let e : ◌≡◌ {A = List ℕ × List ℕ} (name, after colon (b ∷ bs)) label = cc in
    let rest : length (after colon (b ∷ bs)) ≡ length label.1 = ap (λ (l : List ℕ × List ℕ). length l.1) e in
    let less = after-shorter colon b bs in omega arith
shorter_by true None b bs label h = cc
shorter_by false o b bs label h = cc

shorter : (text : List ℕ) (label : List ℕ × List ℕ) → label_at text ≡ Some label → length label.1 < length text
unfolding label_at
shorter [] label h = cc
shorter (b ∷ bs) label h = let k = shorter_by (has_byte colon (b ∷ bs)) (name_in (before colon (b ∷ bs))) b bs label h in omega arith

-- a text has fewer labels at its front than bytes
few : (j : ℕ) (text : List ℕ) (o : Option (List ℕ × List ℕ)) (label : List ℕ × List ℕ) → label_at text ≡ o → label_at (behind_labels j text) ≡ Some label → j < length text
few zero text o label e h = let k = shorter text label (ap (λ (t : List ℕ). label_at t) (sym (behind_zero text)) ∙ h) in omega arith
few (suc j) text None label e h = let same : label_at text ≡ Some label = ap (λ (t : List ℕ). label_at t) (sym (behind_labels-none (suc j) text e)) ∙ h in cc
few (suc j) text (Some first) label e h =
    let less = shorter text first e in
    let others = few j first.1 (label_at first.1) label refl (ap (λ (t : List ℕ). label_at t) (sym (one_label j text first.0 first.1 e)) ∙ h) in
    omega arith

pub once_told : (place : SectionPlace) (twice : Bool) (r : Result SectionPlace SourceFaultKind) → (outcome place twice r).1 ≡ None → twice ≡ false
once_told place false r h = refl
once_told place true (Ok next) h = cc
once_told place true (Err kind) h = cc

-- a label of a line without a fault is found behind the line
line_found : (s : Laid) (line : List ℕ) (j : ℕ) (name rest : List ℕ) → (with_line_laid s line).first ≡ None → label_at (behind_labels j (code_of line)) ≡ Some (name, rest) → named (with_line_laid s line).labels name ≡ Some (here s.place)
unfolding with_line_laid line_laid
line_found s line j name rest none h =
    let code : List ℕ = code_of line in
    let d = line_defined s.labels s.place code in
    let clean : d.twice ≡ false = once_told s.place d.twice (measured d.labels s.place (statement_text code)) (line_none s line none).1 in
    found (here s.place) (length code) j code (record { labels = s.labels; twice = false }) (label_at code) name rest refl (few j code (label_at code) (name, rest) refl h) h clean

lines_keep : (s : Laid) (lines : List (List ℕ)) (name : List ℕ) (v : Spot) → named s.labels name ≡ Some v → named (laid s lines).labels name ≡ Some v
unfolding laid with_line_laid line_laid
lines_keep s [] name v h = h
lines_keep s (line ∷ lines) name v h = lines_keep (with_line_laid s line) lines name v (keeps (here s.place) (length (code_of line)) (code_of line) (record { labels = s.labels; twice = false }) name v h)

split_at : (lines : List (List ℕ)) (k : ℕ) (line : List ℕ) → slice_get lines k ≡ Some line → (front back : List (List ℕ)) × (lines ≡ front ++ line ∷ back) × (length front ≡ k)
split_at [] k line h = cc
split_at (x ∷ lines) zero line h = let e : x ≡ line = cc in ([], lines, ap (λ (l : List ℕ). l ∷ lines) e, refl)
split_at (x ∷ lines) (suc k) line h = let s = split_at lines k line h in (x ∷ s.0, s.1, ap (λ (ls : List (List ℕ)). x ∷ ls) s.2, ap (λ (m : ℕ). suc m) s.3)

label_found : (source : List ℕ) (n : ℕ) (name : List ℕ) → HasLabel source n name → (layout_of source).first ≡ None → named (layout_of source).labels name ≡ Some (here (place_before source n))
unfolding laid
label_found source n name h none =
    let split = split_at (source_lines source) (n - 1) h.line h.is_line in
    let one = h.from_one in
    let number : n ≡ length split.0 + 1 = omega (arith, split.3) in
    let s : Laid = laid nothing_laid split.0 in
    let whole : layout_of source ≡ laid (with_line_laid s h.line) split.1 = ap (λ (ls : List (List ℕ)). laid nothing_laid ls) split.2 ∙ laid-append nothing_laid split.0 (h.line ∷ split.1) in
    let clean : (with_line_laid s h.line).first ≡ None = lines_none (with_line_laid s h.line) split.1 (ap (λ (l : Laid). l.first) (sym whole) ∙ none) in
    let there : s.place ≡ place_before source n = sym (place_is source split.0 h.line split.1 split.2 n number) in
    ap (λ (l : Laid). named l.labels name) whole
    ∙ lines_keep (with_line_laid s h.line) split.1 name (here s.place) (line_found s h.line h.others name h.behind clean h.is_label)
    ∙ ap (λ (p : SectionPlace). Some (here p)) there

pub labels_found : (source : List ℕ) (p : Assembled) → program_of source ≡ Ok p → (n : ℕ) (name : List ℕ) → HasLabel source n name
    → named p.labels name ≡ Some (address (size_of_text source) (here (place_before source n)))
unfolding program_of
labels_found source p h n name has =
    let meant = and_then_ok (meaning_of source) (λ items. and_then (spelled items nothing_spelled) (λ s. Ok (assembled (layout_of source).place.text_size (layout_of source).labels s))) p h in
    let spelt = and_then_ok (spelled meant.0 nothing_spelled) (λ s. Ok (assembled (layout_of source).place.text_size (layout_of source).labels s)) p meant.2 in
    ap (λ (q : Assembled). named q.labels name) (sym (same_program _ p spelt.2))
    ∙ named-addressed (address (size_of_text source)) (layout_of source).labels name
    ∙ ap (λ (o : Option Spot). option_map (address (size_of_text source)) o) (label_found source n name has (none_ignored source meant.0 meant.1))

-- ---- labels that stand twice

one_of_more : (name : List ℕ) (xs ys : List (List ℕ)) → StandsAmong name xs → StandsAmong name (xs ++ ys)
one_of_more name [] ys h = absurd h
one_of_more name (x ∷ xs) ys h = ⊎_elim (λ e. inl e) (λ k. inr (one_of_more name xs ys k)) h

one_of_last : (name : List ℕ) (xs : List (List ℕ)) → StandsAmong name (xs ++ name ∷ [])
one_of_last name [] = inl refl
one_of_last name (x ∷ xs) = inr (one_of_last name xs)

one_of_either : (name : List ℕ) (xs : List (List ℕ)) (y : List ℕ) → StandsAmong name (xs ++ y ∷ []) → StandsAmong name xs ⊎ (name ≡ y)
one_of_either name [] y h = ⊎_elim (λ e. inr e) (λ k. absurd k) h
one_of_either name (x ∷ xs) y h = ⊎_elim (λ e. inl (inl e)) (λ k. ⊎_elim (λ a. inl (inr a)) (λ b. inr b) (one_of_either name xs y k)) h

abbrev Knows : Spots → List ℕ → Type 0
Knows labels name = is_some (named labels name) ≡ true

some_spot : (o : Option Spot) → is_some o ≡ true → (v : Spot) × (o ≡ Some v)
some_spot (Some v) h = (v, refl)
some_spot None h = cc

knows_more : (xs ys : Spots) (name : List ℕ) → Knows xs name → Knows (xs ++ ys) name
knows_more xs ys name h = let s = some_spot (named xs name) h in ap (λ (o : Option Spot). is_some o) (named-append xs ys name s.0 s.1)

knows_last : (xs : Spots) (name : List ℕ) (v : Spot) → Knows (xs ++ (name, v) ∷ []) name
knows_last [] name v = ap (λ (t : Bool). is_some (cond t (Some v) None)) (bytes_eq_self name)
knows_last (x ∷ xs) name v = by (bytes_eq name x.0) (knows_last xs name v)
  where
    by : (t : Bool) → Knows (xs ++ (name, v) ∷ []) name → is_some (cond t (Some x.1) (named (xs ++ (name, v) ∷ []) name)) ≡ true
    by true k = refl
    by false k = k

knows_either : (xs : Spots) (other : List ℕ) (v : Spot) (name : List ℕ) → Knows (xs ++ (other, v) ∷ []) name → Knows xs name ⊎ (name ≡ other)
knows_either [] other v name h = by (bytes_eq name other) refl h
  where
    by : (t : Bool) → bytes_eq name other ≡ t → is_some (cond t (Some v) None) ≡ true → Knows [] name ⊎ (name ≡ other)
    by true e k = inr ((bytes_eq-Decides name other).0 e)
    by false e k = cc
knows_either (x ∷ xs) other v name h = by (bytes_eq name x.0) (λ k. knows_either xs other v name k) h
  where
    by : (t : Bool) → (Knows (xs ++ (other, v) ∷ []) name → Knows xs name ⊎ (name ≡ other)) → is_some (cond t (Some x.1) (named (xs ++ (other, v) ∷ []) name)) ≡ true
        → (is_some (cond t (Some x.1) (named xs name)) ≡ true) ⊎ (name ≡ other)
    by true rest k = inl refl
    by false rest k = rest k

-- the labels have these names
record HasNames (labels : Spots) (names : List (List ℕ)) : Type 0 where
  pub to : (name : List ℕ) → Knows labels name → StandsAmong name names
  pub from : (name : List ℕ) → StandsAmong name names → Knows labels name

label_named_by : (spot : Spot) (name : List ℕ) (d : Defined) (names : List (List ℕ)) (t : Bool) → is_some (named d.labels name) ≡ t → HasNames d.labels names
    → HasNames (cond {A = Defined} t (record { labels = d.labels; twice = true }) (record { labels = d.labels ++ (name, spot) ∷ []; twice = d.twice })).labels (names ++ name ∷ [])
label_named_by spot name d names true e h = record {
  to = λ q k. one_of_more q names (name ∷ []) (h.to q k);
  from = λ q k. ⊎_elim (λ x. h.from q x) (λ same. ap (λ (n : List ℕ). is_some (named d.labels n)) same ∙ e) (one_of_either q names name k);
}
label_named_by spot name d names false e h = record {
  to = λ q k. ⊎_elim (λ x. one_of_more q names (name ∷ []) (h.to q x))
      (λ same. subst (λ (n : List ℕ). StandsAmong n (names ++ name ∷ [])) (sym same) (one_of_last name names)) (knows_either d.labels name spot q k);
  from = λ q k. ⊎_elim (λ x. knows_more d.labels ((name, spot) ∷ []) q (h.from q x))
      (λ same. subst (λ (n : List ℕ). Knows (d.labels ++ (name, spot) ∷ []) n) (sym same) (knows_last d.labels name spot)) (one_of_either q names name k);
}

label_named : (spot : Spot) (name : List ℕ) (d : Defined) (names : List (List ℕ)) → HasNames d.labels names → HasNames (with_label spot name d).labels (names ++ name ∷ [])
unfolding with_label
label_named spot name d names h = label_named_by spot name d names (is_some (named d.labels name)) refl h

label_tells_by : (spot : Spot) (name : List ℕ) (d : Defined) (t : Bool) (r : Bool)
    → r ≡ (cond {A = Defined} t (record { labels = d.labels; twice = true }) (record { labels = d.labels ++ (name, spot) ∷ []; twice = d.twice })).twice
    → (r ≡ true → (d.twice ≡ true) ⊎ (t ≡ true)) × ((d.twice ≡ true) ⊎ (t ≡ true) → r ≡ true)
label_tells_by spot name d true r is = ((λ h. inr refl), λ h. is)
label_tells_by spot name d false r is = ((λ h. inl (sym is ∙ h)), λ h. ⊎_elim (λ x. is ∙ x) (λ x. cc) h)

label_tells : (spot : Spot) (name : List ℕ) (d : Defined)
    → ((with_label spot name d).twice ≡ true → (d.twice ≡ true) ⊎ Knows d.labels name) × ((d.twice ≡ true) ⊎ Knows d.labels name → (with_label spot name d).twice ≡ true)
unfolding with_label
label_tells spot name d = label_tells_by spot name d (is_some (named d.labels name)) _ refl

-- what becomes of labels that have names, where labels of further names come behind
record Grows (names more : List (List ℕ)) (d e : Defined) : Type 0 where
  pub named_so : HasNames e.labels (names ++ more)
  pub to : e.twice ≡ true → (d.twice ≡ true) ⊎ SomeTwice names more
  pub from : (d.twice ≡ true) ⊎ SomeTwice names more → e.twice ≡ true

none_grows : (names : List (List ℕ)) (d : Defined) → HasNames d.labels names → Grows names [] d d
none_grows names d h = record {
  named_so = subst (HasNames d.labels) (sym (append-nil names)) h;
  to = λ k. inl k;
  from = λ k. ⊎_elim (λ x. x) (λ x. absurd x) k;
}

module _ (spot : Spot) (m : ℕ) where
  one_grows : (names : List (List ℕ)) (d : Defined) (name text : List ℕ) → HasNames d.labels names
      → Grows (names ++ name ∷ []) (labels_at m text) (with_label spot name d) (defined m spot text (with_label spot name d)) → Grows names (name ∷ labels_at m text) d (defined m spot text (with_label spot name d))
  one_grows names d name text h more =
      let tells = label_tells spot name d in
      record {
        named_so = subst (HasNames (defined m spot text (with_label spot name d)).labels) (append_assoc names (name ∷ []) (labels_at m text)) more.named_so;
        to = λ k. ⊎_elim (λ x. ⊎_elim (λ y. inl y) (λ y. inr (inl (h.to name y))) (tells.0 x)) (λ x. inr (inr x)) (more.to k);
        from = λ k. more.from (⊎_elim (λ x. inl (tells.1 (inl x))) (λ x. ⊎_elim (λ y. inl (tells.1 (inr (h.from name y)))) (λ y. inr y) x) k);
      }

  grows_by : (names : List (List ℕ)) (d : Defined) (o : Option (List ℕ × List ℕ)) → HasNames d.labels names
      → ((text : List ℕ) (e : Defined) (ns : List (List ℕ)) → HasNames e.labels ns → Grows ns (labels_at m text) e (defined m spot text e))
      → Grows names (elim o as (λ _. List (List ℕ)) [ None ↦ [] | Some label ↦ label.0 ∷ labels_at m label.1 ]) d
      (elim o as (λ _. Defined) [ None ↦ d | Some label ↦ defined m spot label.1 (with_label spot label.0 d) ])
  grows_by names d None h more = none_grows names d h
  grows_by names d (Some label) h more = one_grows names d label.0 label.1 h (more label.1 (with_label spot label.0 d) (names ++ label.0 ∷ []) (label_named spot label.0 d names h))

grows : (spot : Spot) (m : ℕ) (text : List ℕ) (d : Defined) (names : List (List ℕ)) → HasNames d.labels names → Grows names (labels_at m text) d (defined m spot text d)
unfolding defined labels_at
grows spot zero text d names h = none_grows names d h
grows spot (suc m) text d names h = grows_by spot m names d (label_at text) h (λ t e ns k. grows spot m t e ns k)

laid_named : (s : Laid) (lines : List (List ℕ)) (names : List (List ℕ)) → HasNames s.labels names → HasNames (laid s lines).labels (names ++ labels_of lines)
unfolding laid labels_of with_line_laid line_laid
laid_named s [] names h = subst (HasNames s.labels) (sym (append-nil names)) h
laid_named s (line ∷ lines) names h =
    let code : List ℕ = code_of line in
    let one = grows (here s.place) (length code) code (record { labels = s.labels; twice = false }) names h in
    subst (HasNames (laid (with_line_laid s line) lines).labels) (append_assoc names (labels_at (length code) code) (labels_of lines))
    (laid_named (with_line_laid s line) lines (names ++ labels_at (length code) code) one.named_so)

none_named : HasNames [] []
none_named = record { to = λ name h. cc; from = λ name h. absurd h }

-- a label is told to stand twice if and only if an earlier line has it too, or the line itself before
pub label_twice : (earlier : List (List ℕ)) (line : List ℕ)
    → ((line_defined (laid nothing_laid earlier).labels (laid nothing_laid earlier).place (code_of line)).twice ≡ true → HasLabelTwice earlier line)
    × (HasLabelTwice earlier line → (line_defined (laid nothing_laid earlier).labels (laid nothing_laid earlier).place (code_of line)).twice ≡ true)
label_twice earlier line =
    let s = laid nothing_laid earlier in
    let code : List ℕ = code_of line in
    let grown = grows (here s.place) (length code) code (record { labels = s.labels; twice = false }) (labels_of earlier) (laid_named nothing_laid earlier [] none_named) in
    ((λ h. ⊎_elim (λ x. cc) (λ x. x) (grown.to h)), λ h. grown.from (inr h))
