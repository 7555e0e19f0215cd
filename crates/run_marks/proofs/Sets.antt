-- Sets of lines that are gone through from the least line on.
use Rattle.std.proofs.Common.{◌≡◌, ◌≢◌, inl, inr, ℕ, zero, suc, ◌+◌, ◌<◌, ◌≤◌, ◌⊎◌, List, [], ◌∷◌, ◌++◌, length, Bool, true, false, ◌||◌, cond, filter, nat_eq, Option, Some, None, refl, sym, ap, subst, ◌∙◌, append_assoc, arith}
use Rattle.std.specs.Prelude.{◌-◌, nat_lt, slice_get}
use Rattle.std.specs.List.{range_with_len}
use Rattle.std.proofs.lemmas.Bool.{cases_eq, ltb-false, ltb-true}
use Rattle.std.proofs.lemmas.List.{append-nil}
use Rattle.std.proofs.lemmas.Option.{slice_get_past}
use Rattle.std.proofs.lemmas.Bool.Decides.{nat_tests}
use Rattle.evm_lines.specs.Laws.{has_line-with_other, has_line-with_same}
use Rattle.evm_lines.specs.Lines.{IsLineSet, all_lines, has_line, with_line}
use Rattle.evm_lines.specs.declared.TheConstants.{LINES}
use Rattle.evm_model.proofs.Lists.{same_elements}
use Rattle.evm_model.specs.Pipes.{Pipe}
use Rattle.evm_model.specs.declared.counts.Counts.{Counts}
use Rattle.run_marks.proofs.Following.{same_line}
use Rattle.run_marks.proofs.Lemmas.{below-more, below-none}
use Rattle.run_marks.specs.Lists.{below}
use Rattle.run_marks.specs.Marks.{line_marks, lines_marks}
use Rattle.run_marks.specs.Tallies.{DifferAt, waits_in}
use Rattle.run_marks.specs.declared.mark.Mark.{Mark}

-- ---- members
first_or_rest : (a b : Bool) → (a || b) ≡ true → (a ≡ true) ⊎ (b ≡ true)
first_or_rest true b h = inl refl
first_or_rest false b h = inr h

same : (x l : ℕ) → nat_eq x l ≡ true → x ≡ l
same x l e = grind (arith, nat_tests)

-- a line of a set is its first or one of the others
pub cut : (old new : List ℕ) (first l : ℕ) → old ≡ first ∷ new → has_line old l ≡ true → (first ≡ l) ⊎ (has_line new l ≡ true)
cut old new first l e h = elim (first_or_rest (nat_eq first l) (has_line new l) (subst (λ (lines : List ℕ). has_line lines l ≡ true) e h)) [
  | inl here ↦ inl (same first l here)
  | inr there ↦ inr there
]

-- what was in a set is there still when another line came
pub still : (set : List ℕ) (line l : ℕ) → l < LINES → has_line set l ≡ true → has_line (with_line set line) l ≡ true
still set line l h is = elim (cases_eq l line) [
  | inl here ↦ subst (λ k. has_line (with_line set line) k ≡ true) (sym here) (has_line-with_same set line (omega (arith, h, here)))
  | inr other ↦ has_line-with_other set line l other h ∙ is
]

pub either : (b : Bool) (P : Type 0) → (b ≡ true → P) → (b ≡ false → P) → P
either true P f g = f refl
either false P f g = g refl

-- a line that waits is on the wire or in one of the logs
pub waits : (o : Option Pipe) (l : ℕ) (P : Type 0) → waits_in l o ≡ true → ((p : Pipe) → o ≡ Some p → (has_line p.wire l ≡ true) ⊎ ((has_line p.oob.lines l ≡ true) ⊎ (has_line p.in_band.lines l ≡ true)) → P) → P
waits None l P w f = absurd cc
waits (Some p) l P w f = f p refl (elim (first_or_rest (has_line p.wire l) (has_line p.oob.lines l || has_line p.in_band.lines l) w) [
  | inl on ↦ inl on
  | inr logged ↦ inr (first_or_rest (has_line p.oob.lines l) (has_line p.in_band.lines l) logged)
])

-- ---- rising lists
-- the lines of a list rise, from a number on
abbrev pub Rises : ℕ → List ℕ → Type 0
Rises n [] = Unit {0}
Rises n (x ∷ xs) = (n ≤ x) × (x < LINES) × Rises (x + 1) xs

rises_from : (a b : ℕ) (xs : List ℕ) → a ≤ b → Rises b xs → Rises a xs
rises_from a b [] h r = tt
rises_from a b (x ∷ xs) h r = let low = r.0 in (omega (arith, h, low), r.1, r.2)

rises_if : (b : Bool) (a : ℕ) (xs : List ℕ) → a < LINES → Rises (a + 1) xs → Rises a (cond b (a ∷ xs) xs)
rises_if true a xs h r = (omega arith, h, r)
rises_if false a xs h r = rises_from a (a + 1) xs (omega arith) r

rises_among : (test : ℕ → Bool) (a n : ℕ) → a + n ≤ LINES → Rises a (filter test (range_with_len a n))
rises_among test a zero h = tt
rises_among test a (suc n) h = rises_if (test a) a (filter test (range_with_len (a + 1) n)) (omega (arith, h)) (rises_among test (a + 1) n (omega (arith, h)))

pub rises : (set : List ℕ) → IsLineSet set → Rises 0 set
unfolding all_lines
rises set is = subst (λ (s : List ℕ). Rises 0 s) (sym is.members) (rises_among (has_line set) 0 LINES (omega arith))

no_member : (n l : ℕ) (xs : List ℕ) → Rises n xs → l < n → has_line xs l ≡ false
no_member n l [] r h = refl
no_member n l (x ∷ xs) r h =
    let low = r.0 in
    let other : nat_eq x l ≡ false = (let e : x ≢ l = omega (arith, low, h) in grind (arith, nat_tests)) in
    rw (other, no_member (x + 1) l xs r.2 (omega (arith, low, h))) refl

-- ---- a row that follows the lines of a set
below_gap : (f : ℕ → List Mark) (a n : ℕ) → ((l : ℕ) → a ≤ l → l < a + n → f l ≡ []) → below f (a + n) ≡ below f a
below_gap f a zero h = ap (below f) (omega arith)
below_gap f a (suc n) h =
    let more : below f (a + n + 1) ≡ below f (a + n) ++ f (a + n) = below-more f (a + n) in
    let none : f (a + n) ≡ [] = h (a + n) (omega arith) (omega arith) in
    let rest = below_gap f a n (λ l low high. h l low (omega (arith, high))) in
    ap (below f) (omega arith) ∙ more ∙ rw (none, rest) (append-nil (below f a))

abbrev its_marks : ℕ → List Counts → List Counts → ℕ → List Mark
its_marks c before after l = line_marks c l (slice_get before l) (slice_get after l)

-- the lines below a number are told, and the row has their counts; those from there on that are not left are as they were
pub record Told (c : ℕ) (old new : List Mark) (before after : List Counts) (left : List ℕ) (rows : List (List Counts)) : Type 0 where
  pub upto : ℕ
  pub few : upto ≤ LINES
  pub rises : Rises upto left
  pub marks : new ≡ old ++ below (its_marks c before after) upto
  pub others : (l : ℕ) → upto ≤ l → l < LINES → has_line left l ≡ false → slice_get after l ≡ slice_get before l
  pub row : List Counts
  pub there : slice_get rows c ≡ Some row
  pub done : (l : ℕ) → l < upto → slice_get row l ≡ slice_get after l
  pub rest : (l : ℕ) → upto ≤ l → slice_get row l ≡ slice_get before l

pub begins : (c : ℕ) (old : List Mark) (before after : List Counts) (lines : List ℕ) (rows : List (List Counts)) → IsLineSet lines → slice_get rows c ≡ Some before → DifferAt lines before after → Told c old old before after lines rows
begins c old before after lines rows is there differ = record {
  upto = 0;
  few = omega arith;
  rises = rises lines is;
  marks = sym (ap (λ l. old ++ l) (below-none (its_marks c before after)) ∙ append-nil old);
  others = λ l low high none. differ l high none;
  row = before;
  there = there;
  done = λ l h. absurd (omega (arith, h));
  rest = λ l h. refl;
}

-- one line more: its marks, and its counts
pub goes : (c line : ℕ) (old mid new : List Mark) (before after was : List Counts) (left rest : List ℕ) (rows later : List (List Counts)) → Told c old mid before after left rows → left ≡ line ∷ rest
    → slice_get rows c ≡ Some was → new ≡ mid ++ line_marks c line (slice_get was line) (slice_get after line)
    → ((row : List Counts) → slice_get rows c ≡ Some row → (kept : List Counts) × (slice_get later c ≡ Some kept) × (slice_get kept line ≡ slice_get after line) × ((l : ℕ) → l ≢ line → slice_get kept l ≡ slice_get row l))
    → Told c old new before after rest later
goes c line old mid new before after was left rest rows later told cuts here more keeps =
    let up : Rises told.upto (line ∷ rest) = subst (λ (s : List ℕ). Rises told.upto s) cuts told.rises in
    let low = up.0 in
    let small = up.1 in
    let f : ℕ → List Mark = its_marks c before after in
    let k = keeps told.row told.there in
    let row_is : was ≡ told.row = (let e : Some was ≡ Some told.row = sym here ∙ told.there in cc) in
    let passed : (l : ℕ) → told.upto ≤ l → l < line → slice_get after l ≡ slice_get before l =
    λ l high less. told.others l high (omega (arith, less, small)) (ap (λ s. has_line s l) cuts ∙ no_member line l (line ∷ rest) (omega arith, small, up.2) less) in
    let gap : below f line ≡ below f told.upto =
    (let n = line - told.upto in
    let at : told.upto + n ≡ line = omega (arith, low) in
    ap (below f) (sym at) ∙ below_gap f told.upto n (λ l high less. ap (λ o. line_marks c l (slice_get before l) o) (passed l high (omega (arith, less, at))) ∙ same_line c l (slice_get before l))) in
    let its : line_marks c line (slice_get was line) (slice_get after line) ≡ f line =
    ap (λ o. line_marks c line o (slice_get after line)) (ap (λ x. slice_get x line) row_is ∙ told.rest line low) in
    record {
      upto = line + 1;
      few = omega (arith, small);
      rises = up.2;
      marks = more ∙ ap (λ l. mid ++ l) its ∙ ap (λ l. l ++ f line) told.marks ∙ append_assoc old (below f told.upto) (f line)
          ∙ ap (λ l. old ++ l) (ap (λ l. l ++ f line) (sym gap) ∙ sym (below-more f line));
      others = λ l high less none. told.others l (omega (arith, low, high)) less (ap (λ s. has_line s l) cuts ∙ not_first line l rest high none);
      row = k.0;
      there = k.1;
      done = λ l less. elim (cases_eq l line) [
        | inl same ↦ ap (slice_get k.0) same ∙ k.2 ∙ ap (slice_get after) (sym same)
        | inr other ↦ k.3 l other ∙ either (nat_lt l told.upto) (slice_get told.row l ≡ slice_get after l)
            (λ e. told.done l (ltb-true l told.upto e))
            (λ e. let high = ltb-false l told.upto e in told.rest l (omega (arith, high)) ∙ sym (passed l (omega (arith, high)) (omega (arith, less, other))))
      ];
      rest = λ l high. k.3 l (omega (arith, high)) ∙ told.rest l (omega (arith, high, low));
    }
  where
    not_first : (x l : ℕ) (xs : List ℕ) → x + 1 ≤ l → has_line xs l ≡ false → has_line (x ∷ xs) l ≡ false
    not_first x l xs h none = let other : nat_eq x l ≡ false = (let e : x ≢ l = omega (arith, h) in grind (arith, nat_tests)) in rw (other, none) refl

-- none is left
pub ends : (c : ℕ) (old new : List Mark) (before after : List Counts) (left : List ℕ) (rows : List (List Counts)) → Told c old new before after left rows → left ≡ [] → length before ≡ LINES → length after ≡ LINES
    → (new ≡ old ++ lines_marks c before after) × (slice_get rows c ≡ Some after)
unfolding lines_marks
ends c old new before after left rows told none all all_after =
    let f : ℕ → List Mark = its_marks c before after in
    let passed : (l : ℕ) → told.upto ≤ l → l < LINES → slice_get after l ≡ slice_get before l = λ l high less. told.others l high less (ap (λ s. has_line s l) none) in
    let few = told.few in
    let gap : below f LINES ≡ below f told.upto =
    (let n = LINES - told.upto in
    let at : told.upto + n ≡ LINES = omega (arith, few) in
    ap (below f) (sym at) ∙ below_gap f told.upto n (λ l high less. ap (λ o. line_marks c l (slice_get before l) o) (passed l high (omega (arith, less, at))) ∙ same_line c l (slice_get before l))) in
    let whole : told.row ≡ after = same_elements told.row after (λ l. either (nat_lt l told.upto) (slice_get told.row l ≡ slice_get after l)
    (λ e. told.done l (ltb-true l told.upto e))
    (λ e. let high = ltb-false l told.upto e in told.rest l (omega (arith, high)) ∙ either (nat_lt l LINES) (slice_get before l ≡ slice_get after l)
    (λ g. sym (passed l (omega (arith, high)) (ltb-true l LINES g)))
    (λ g. let far = ltb-false l LINES g in slice_get_past before l (omega (arith, far, all)) ∙ sym (slice_get_past after l (omega (arith, far, all_after)))))) in
    (told.marks ∙ ap (λ l. old ++ l) (sym gap), told.there ∙ ap Some whole)
