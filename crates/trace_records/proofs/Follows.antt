-- The slices of a track follow one another, and the notes are kept.
use Rattle.std.proofs.Common.{◌≡◌, ℕ, zero, suc, ◌+◌, ◌-◌, ◌≤◌, ◌==◌, cond, max, Bool, true, false, List, [], ◌∷◌, ◌++◌, Option, Some, None, refl, sym, ap, subst, ◌∙◌, arith, inl, inr}
use Rattle.std.specs.Prelude.{slice_get, slice_set, replicate}
use Rattle.std.proofs.Math.Nat.{le-max_left}
use Rattle.std.proofs.lemmas.Bool.{cases_Bool, eqb-true, eqb-false}
use Rattle.trace_records.specs.declared.change.Change.{Change}
use Rattle.trace_records.specs.declared.change.Change.TheVariants.{Shows, Noted}
use Rattle.trace_records.specs.declared.note.Note.{Note}
use Rattle.trace_records.specs.declared.state.State.{State}
use Rattle.trace_records.specs.declared.track.Track.{Track}
use Rattle.trace_records.specs.declared.tracks.Span.{Span}
use Rattle.trace_records.specs.Entries.{Slice, Record, slice, note, first_note}
use Rattle.trace_records.specs.Changes.{Spans, track_row, span_opened, is_shown, closed, records_by, spans_with_change, records_of, no_spans, in_order, trace_of}
use Rattle.trace_records.specs.Laws.{slices_at, Follow, notes_in, notes_of}

-- ---- lists

get-set_same : (xs : Spans) (i : ℕ) (x y : Option Span) → slice_get xs i ≡ Some x → slice_get (slice_set xs i y) i ≡ Some y
get-set_same [] i x y e = cc
get-set_same (z ∷ xs) zero x y e = refl
get-set_same (z ∷ xs) (suc i) x y e = get-set_same xs i x y e

get-set_other : (xs : Spans) (i j : ℕ) (y : Option Span) → (j ≡ i → ⊥) → slice_get (slice_set xs i y) j ≡ slice_get xs j
get-set_other [] i j y e = refl
get-set_other (x ∷ xs) zero zero y e = absurd (e refl)
get-set_other (x ∷ xs) zero (suc j) y e = refl
get-set_other (x ∷ xs) (suc i) zero y e = refl
get-set_other (x ∷ xs) (suc i) (suc j) y e = get-set_other xs i j y (λ same. e (ap suc same))

get-replicate : (n i : ℕ) (x : Option Span) → slice_get (replicate n None) i ≡ Some x → x ≡ None
get-replicate zero i x e = cc
get-replicate (suc n) zero x e = cc
get-replicate (suc n) (suc i) x e = get-replicate n i x e

-- ---- the notes

notes-append : (xs ys : List Record) → notes_in (xs ++ ys) ≡ notes_in xs ++ notes_in ys
notes-append [] ys = refl
notes-append (slice s ∷ xs) ys = notes-append xs ys
notes-append (note n ∷ xs) ys = ap (λ (ns : List Note). n ∷ ns) (notes-append xs ys)

notes-closed : (b : Bool) (track : Track) (span : Option (Option Span)) (at : ℕ) → notes_in (cond b [] (closed track span at)) ≡ []
notes-closed true track span at = refl
notes-closed false track None at = refl
notes-closed false track (Some None) at = refl
notes-closed false track (Some (Some span)) at = refl

notes-kept : (spans : Spans) (changes : List Change) → notes_in (records_of spans changes) ≡ notes_of changes
notes-kept spans [] = refl
notes-kept spans (Noted n ∷ changes) = ap (λ (ns : List Note). n ∷ ns) (notes-kept spans changes)
notes-kept spans (Shows track state at ∷ changes) =
    let now = slice_get spans (track_row track) in
    let next = spans_with_change spans (Shows track state at) in
    notes-append (records_by spans (Shows track state at)) (records_of next changes)
    ∙ ap (λ (ns : List Note). ns ++ notes_in (records_of next changes)) (notes-closed (is_shown now state) track now at) ∙ notes-kept next changes

notes-order : (last : ℕ) (changes : List Change) → notes_of (in_order last changes) ≡ notes_of changes
notes-order last [] = refl
notes-order last (Shows track state at ∷ changes) = notes-order (max last at) changes
notes-order last (Noted n ∷ changes) = ap (λ (ns : List Note). n ∷ ns) (notes-order last changes)

pub notes_kept : (changes : List Change) → notes_in (trace_of changes) ≡ first_note ∷ notes_of changes
notes_kept changes = ap (λ (ns : List Note). first_note ∷ ns) (notes-kept no_spans (in_order 0 changes) ∙ notes-order 0 changes)

-- ---- the slices

-- no change comes before one that stands in front of it
abbrev AreInOrder : ℕ → List Change → Type 0
AreInOrder last [] = Unit {0}
AreInOrder last (Shows track state at ∷ changes) = (last ≤ at) × AreInOrder at changes
AreInOrder last (Noted n ∷ changes) = AreInOrder last changes

ordered : (last : ℕ) (changes : List Change) → AreInOrder last (in_order last changes)
ordered last [] = tt
ordered last (Shows track state at ∷ changes) = (le-max_left last at, ordered (max last at) changes)
ordered last (Noted n ∷ changes) = ordered last changes

-- the tick from which the next slice of a track begins
abbrev start : ℕ → Option (Option Span) → ℕ
start now None = now
start now (Some None) = now
start now (Some (Some span)) = span.from

Follow-le : (a b : ℕ) (ss : List Slice) → a ≤ b → Follow b ss → Follow a ss
Follow-le a b [] le h = tt
Follow-le a b (s ∷ ss) le h = (omega (arith, h.0), h.1)

start-le : (now at : ℕ) (span : Option (Option Span)) → now ≤ at → start now span ≤ start at span
start-le now at None le = le
start-le now at (Some None) le = le
start-le now at (Some (Some span)) le = omega arith

start-before : (now at : ℕ) (span : Option (Option Span)) → start now span ≤ now → now ≤ at → start at span ≤ at
start-before now at None h le = omega arith
start-before now at (Some None) h le = omega arith
start-before now at (Some (Some span)) h le = omega arith

start-opened : (at : ℕ) (state : Option State) → start at (Some (span_opened state at)) ≡ at
start-opened at None = refl
start-opened at (Some state) = refl

either-append : (b : Bool) (s : Slice) (xs ys zs : List Slice) → zs ≡ xs ++ ys → cond b (s ∷ zs) zs ≡ cond b (s ∷ xs) xs ++ ys
either-append true s xs ys zs e = ap (λ (ss : List Slice). s ∷ ss) e
either-append false s xs ys zs e = e

slices-append : (r : ℕ) (xs ys : List Record) → slices_at r (xs ++ ys) ≡ slices_at r xs ++ slices_at r ys
slices-append r [] ys = refl
slices-append r (note n ∷ xs) ys = slices-append r xs ys
slices-append r (slice s ∷ xs) ys = either-append (track_row s.track == r) s (slices_at r xs) (slices_at r ys) (slices_at r (xs ++ ys)) (slices-append r xs ys)

-- a slice of another track is none of this one
slices-other : (r : ℕ) (track : Track) (span : Option (Option Span)) (at : ℕ) → (track_row track == r) ≡ false → slices_at r (closed track span at) ≡ []
slices-other r track None at other = refl
slices-other r track (Some None) at other = refl
slices-other r track (Some (Some span)) at other = rw other refl

-- what the track showed is a slice, and the next one begins where it ends
Follow-closed : (r : ℕ) (track : Track) (span : Option (Option Span)) (now at : ℕ) (rest : List Slice) → (track_row track == r) ≡ true → start now span ≤ now → now ≤ at → Follow at rest
    → Follow (start now span) (slices_at r (closed track span at) ++ rest)
Follow-closed r track None now at rest this h le follow = Follow-le now at rest le follow
Follow-closed r track (Some None) now at rest this h le follow = Follow-le now at rest le follow
Follow-closed r track (Some (Some span)) now at rest this h le follow =
    let end : span.from + (at - span.from) ≡ at = omega arith in
    rw (this, end) (omega arith, follow)

-- a track's row within the list, if it shows something new
within : (span : Option (Option Span)) (state : Option State) → is_shown span state ≡ false → (x : Option Span) × (span ≡ Some x)
within None state new = cc
within (Some x) state new = (x, refl)

abbrev Goes : ℕ → List Change → Type 0
Goes r changes = (spans : Spans) (now : ℕ) → start now (slice_get spans r) ≤ now → AreInOrder now changes → Follow (start now (slice_get spans r)) (slices_at r (records_of spans changes))

goes-shows : (r : ℕ) (track : Track) (state : Option State) (at : ℕ) (changes : List Change) → Goes r changes → Goes r (Shows track state at ∷ changes)
goes-shows r track state at changes more spans now before order =
    let here = slice_get spans r in
    let there = slice_get spans (track_row track) in
    elim (cases_Bool (is_shown there state)) [
      | inl same ↦
          let rest = more spans at (start-before now at here before order.0) order.1 in
          rw same (Follow-le (start now here) (start at here) (slices_at r (records_of spans changes)) (start-le now at here order.0) rest)
      | inr new ↦
          let next = slice_set spans (track_row track) (span_opened state at) in
          let split = slices-append r (closed track there at) (records_of next changes) in
          elim (cases_Bool (track_row track == r)) [
            | inl this ↦
                let place : track_row track ≡ r = eqb-true (track_row track) r this in
                let old = within there state new in
                let set : slice_get next (track_row track) ≡ Some (span_opened state at) = get-set_same spans (track_row track) old.0 (span_opened state at) old.1 in
                let set_here : slice_get next r ≡ Some (span_opened state at) = subst (λ (i : ℕ). slice_get next i ≡ Some (span_opened state at)) place set in
                let begins : start at (slice_get next r) ≡ at = ap (start at) set_here ∙ start-opened at state in
                let follow : Follow at (slices_at r (records_of next changes)) = subst (λ (a : ℕ). Follow a (slices_at r (records_of next changes))) begins (more next at (omega (arith, begins)) order.1) in
                let same_place : slice_get spans (track_row track) ≡ slice_get spans r = ap (slice_get spans) place in
                let before_there : start now there ≤ now = subst (λ (o : Option (Option Span)). start now o ≤ now) (sym same_place) before in
                let whole = Follow-closed r track there now at (slices_at r (records_of next changes)) this before_there order.0 follow in
                rw (new, split) (subst (λ (o : Option (Option Span)). Follow (start now o) (slices_at r (closed track there at) ++ slices_at r (records_of next changes))) same_place whole)
            | inr other ↦
                let apart : r ≡ track_row track → ⊥ = λ (e : r ≡ track_row track). eqb-false (track_row track) r other (sym e) in
                let kept : slice_get next r ≡ here = get-set_other spans (track_row track) r (span_opened state at) apart in
                let rest = subst (λ (o : Option (Option Span)). Follow (start at o) (slices_at r (records_of next changes))) kept (more next at (subst (λ (o : Option (Option Span)). start at o ≤ at) (sym kept) (start-before now at here before order.0)) order.1) in
                let none = slices-other r track there at other in
                rw (new, split, none) (Follow-le (start now here) (start at here) (slices_at r (records_of next changes)) (start-le now at here order.0) rest)
          ]
    ]

goes : (r : ℕ) (changes : List Change) → Goes r changes
goes r [] spans now before order = tt
goes r (Noted n ∷ changes) spans now before order = goes r changes spans now before order
goes r (Shows track state at ∷ changes) spans now before order = goes-shows r track state at changes (goes r changes) spans now before order

nothing_shown : (r : ℕ) (o : Option (Option Span)) → ((x : Option Span) → o ≡ Some x → x ≡ None) → start 0 o ≡ 0
nothing_shown r None none = refl
nothing_shown r (Some None) none = refl
nothing_shown r (Some (Some span)) none = let e : Some span ≡ None = none (Some span) refl in cc

pub follows : (changes : List Change) (track : Track) → Follow 0 (slices_at (track_row track) (trace_of changes))
follows changes track =
    let r = track_row track in
    let given = in_order 0 changes in
    let begins : start 0 (slice_get no_spans r) ≡ 0 = nothing_shown r (slice_get no_spans r) (λ (x : Option Span) (e : slice_get no_spans r ≡ Some x). get-replicate 1536 r x e) in
    subst (λ (a : ℕ). Follow a (slices_at r (records_of no_spans given))) begins (goes r given no_spans 0 (omega (arith, begins)) (ordered 0 changes))
