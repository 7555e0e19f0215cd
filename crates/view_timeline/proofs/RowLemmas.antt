-- Rows of cells that grow and are joined.
use Rattle.std.proofs.Common.{◌≡◌, ℕ, ◌+◌, ◌<◌, ◌≤◌, ◌^◌, List, [], ◌∷◌, ◌++◌, zero, suc, drop, take, get_or, length, replicate, Bool, true, false, refl, sym, ap, ◌∙◌, subst, arith}
use Rattle.std.proofs.Math.Dec.{ltb}
use Rattle.std.proofs.Math.Seq.{drop-cons}
use Rattle.std.proofs.lemmas.Bool.{ltb-true}
use Rattle.std.proofs.lemmas.List.{drop-drop, length-append, length-replicate}
use Rattle.std.specs.Prelude.{OnOk, Some, None, Result, Ok, Err, slice_get, slice_set, ◌==◌, if◌then◌else◌}
use Rattle.view_timeline.specs.Rows.{Halves, IsRow, Outline, Summarizes, count_on, event_lane, stretch}
use Rattle.view_timeline.specs.declared.cells.Cell.{Cell}
use Rattle.view_timeline.specs.declared.cells.TheConstants.{LANE_LIMIT}

-- ---- the events of lanes
-- one list behind another
pub count-append : (lane : ℕ) (front back : List Outline) → count_on lane (front ++ back) ≡ count_on lane front + count_on lane back
unfolding count_on
count-append lane [] back = omega arith
count-append lane (event ∷ front) back = let h = count-append lane front back in omega (arith, h)

if-one : (b : Bool) (n m : ℕ) → m ≡ (if b then n else 0) → (if b then 1 else 0) + m ≡ (if b then suc n else 0)
if-one true n m e = omega (arith, e)
if-one false n m e = omega (arith, e)

if-none : (b : Bool) → ◌≡◌ {A = ℕ} 0 (if b then 0 else 0)
if-none true = refl
if-none false = refl

-- equal ones
pub count-alike : (lane n : ℕ) (event : Outline) → count_on lane (replicate n event) ≡ (if event_lane event == lane then n else 0)
unfolding count_on
count-alike lane zero event = if-none (event_lane event == lane)
count-alike lane (suc n) event = if-one (event_lane event == lane) n (count_on lane (replicate n event)) (count-alike lane n event)

if-most : (b : Bool) → (if b then 1 else 0) ≤ 1
if-most true = omega arith
if-most false = omega arith

-- no more than there are
pub count-most : (lane : ℕ) (events : List Outline) → count_on lane events ≤ length events
unfolding count_on
count-most lane [] = omega arith
count-most lane (event ∷ events) = let h = count-most lane events in let k = if-most (event_lane event == lane) in omega (arith, h, k)

-- ---- events one behind the other
none-taken : {X : Type 0} (b : ℕ) → ◌≡◌ {A = List X} [] (take b [])
none-taken zero = refl
none-taken (suc b) = refl

take-add : {X : Type 0} (a b : ℕ) (xs : List X) → take (a + b) xs ≡ take a xs ++ take b (drop a xs)
take-add zero b xs = let n : zero + b ≡ b = omega arith in ap (λ k. take k xs) n
take-add (suc a) b [] = sym (none-taken (suc a + b)) ∙ none-taken b
take-add (suc a) b (x ∷ xs) = let n : suc a + b ≡ suc (a + b) = omega arith in rw n (ap (λ l. x ∷ l) (take-add a b xs))

pub stretch-add : (events : List Outline) (first a b : ℕ) → stretch events first (a + b) ≡ stretch events first a ++ stretch events (first + a) b
stretch-add events first a b =
    take-add a b (drop first events) ∙ ap (λ l. take a (drop first events) ++ take b l) (drop-drop a first events)

first-append : (front back : List Outline) (x : Outline) → slice_get front 0 ≡ Some x → slice_get (front ++ back) 0 ≡ Some x
first-append [] back x e = absurd cc
first-append (y ∷ front) back x e = e

first-alike : (n : ℕ) (x : Outline) → 0 < n → slice_get (replicate n x) 0 ≡ Some x
first-alike zero x h = absurd (omega (arith, h))
first-alike (suc n) x h = refl

-- ---- cells
-- a cell of an item
pub tells-item : (cell : Cell) (n : ℕ) (event : Outline) → cell.count ≡ n → cell.event ≡ event → ((lane : ℕ) → lane < LANE_LIMIT → get_or cell.shares lane 0 ≡ (if event_lane event == lane then n else 0)) → 0 < n
    → Summarizes cell (replicate n event)
tells-item cell n event count is shares some =
    record { count = count ∙ sym (length-replicate n event); event = first-alike n event some ∙ ap (λ e. Some e) (sym is); shares = λ lane h. shares lane h ∙ sym (count-alike lane n event) }

-- two that were joined
pub tells-joined : (one two cell : Cell) (front back : List Outline) → (one.count + two.count < 2 ^ 64 → cell.count ≡ one.count + two.count) → cell.event ≡ one.event
    → ((lane : ℕ) → lane < LANE_LIMIT → get_or one.shares lane 0 + get_or two.shares lane 0 < 2 ^ 64 → get_or cell.shares lane 0 ≡ get_or one.shares lane 0 + get_or two.shares lane 0)
    → one.count + two.count < 2 ^ 64 → Summarizes one front → Summarizes two back → Summarizes cell (front ++ back)
tells-joined one two cell front back count is shares fits a b =
    let long = length-append front back in
    record {
      count = let c = count fits in let x = a.count in let y = b.count in omega (arith, long, c, x, y);
      event = first-append front back one.event a.event ∙ ap (λ e. Some e) (sym is);
      shares = λ lane h.
          let x = a.shares lane h in
          let y = b.shares lane h in
          let p = count-most lane front in
          let q = count-most lane back in
          let both = a.count in
          let other = b.count in
          let few : get_or one.shares lane 0 + get_or two.shares lane 0 < 2 ^ 64 = omega (arith, x, y, p, q, both, other, fits) in
          let s = shares lane h few in
          let t = count-append lane front back in
          omega (arith, s, t, x, y);
    }

-- events of an item that were joined to a cell
pub tells-more : (one cell : Cell) (n : ℕ) (event : Outline) (front : List Outline) → (one.count + n < 2 ^ 64 → cell.count ≡ one.count + n) → cell.event ≡ one.event
    → ((lane : ℕ) → lane < LANE_LIMIT → get_or one.shares lane 0 + n < 2 ^ 64 → get_or cell.shares lane 0 ≡ get_or one.shares lane 0 + (if event_lane event == lane then n else 0))
    → one.count + n < 2 ^ 64 → Summarizes one front → Summarizes cell (front ++ replicate n event)
tells-more one cell n event front count is shares fits a =
    let long = length-append front (replicate n event) in
    let many = length-replicate n event in
    record {
      count = let c = count fits in let x = a.count in omega (arith, long, many, c, x);
      event = first-append front (replicate n event) one.event a.event ∙ ap (λ e. Some e) (sym is);
      shares = λ lane h.
          let x = a.shares lane h in
          let p = count-most lane front in
          let both = a.count in
          let few : get_or one.shares lane 0 + n < 2 ^ 64 = omega (arith, x, p, both, fits) in
          let s = shares lane h few in
          let t = count-append lane front (replicate n event) in
          let e = count-alike lane n event in
          omega (arith, s, t, x, e);
    }

-- ---- rows
-- a row doesn't end before it begins
pub row-rises : (events : List Outline) (from : ℕ) (cells : List Cell) (to : ℕ) → IsRow events from cells to → from ≤ to
row-rises events from [] to row = omega (arith, row)
row-rises events from (cell ∷ cells) to row = let h = row-rises events (from + cell.count) cells to row.3 in omega (arith, h)

-- a cell more
pub row-more : (events : List Outline) (from : ℕ) (cells : List Cell) (mid to : ℕ) (cell : Cell) → IsRow events from cells mid → cell.first ≡ mid → 0 < cell.count → Summarizes cell (stretch events mid cell.count) → to ≡ mid + cell.count
    → IsRow events from (cells ++ cell ∷ []) to
row-more events from [] mid to cell row first some tells ends =
    let begins : cell.first ≡ from = first ∙ sym row in let h : from + cell.count ≡ to = rw (row, ends) refl in (begins, some, rw row tells, h)
row-more events from (one ∷ cells) mid to cell row first some tells ends = (row.0, row.1, row.2, row-more events (from + one.count) cells mid to cell row.3 first some tells ends)

-- without the last cell
pub record Split (events : List Outline) (from : ℕ) (cells : List Cell) (last : Cell) (to : ℕ) : Type 0 where
  pub before : IsRow events from cells last.first
  pub some : 0 < last.count
  pub tells : Summarizes last (stretch events last.first last.count)
  pub ends : last.first + last.count ≡ to

pub row-split : (events : List Outline) (from : ℕ) (cells : List Cell) (last : Cell) (to : ℕ) → IsRow events from (cells ++ last ∷ []) to → Split events from cells last to
row-split events from [] last to row = record { before = sym row.0; some = row.1; tells = subst (λ x. Summarizes last (stretch events x last.count)) (sym row.0) row.2; ends = rw row.0 row.3 }
row-split events from (one ∷ cells) last to row =
    let rest = row-split events (from + one.count) cells last to row.3 in record { before = (row.0, row.1, row.2, rest.before); some = rest.some; tells = rest.tells; ends = rest.ends }

-- the last cell of some, and another in its place
split-last : (cells : List Cell) (i : ℕ) (last : Cell) → length cells ≡ i + 1 → slice_get cells i ≡ Some last
    → (before : List Cell) × (cells ≡ before ++ last ∷ []) × ((one : Cell) → slice_set cells i one ≡ before ++ one ∷ [])
split-last [] i last long at = absurd (omega arith)
split-last (cell ∷ []) zero last long at = let is : cell ≡ last = cc in ([], ap (λ (c : Cell). c ∷ []) is, λ one. refl)
split-last (cell ∷ []) (suc i) last long at = absurd (omega arith)
split-last (cell ∷ next ∷ cells) zero last long at = absurd (omega arith)
split-last (cell ∷ next ∷ cells) (suc i) last long at =
    let rest = split-last (next ∷ cells) i last (omega arith) at in
    (cell ∷ rest.0, ap (λ (cs : List Cell). cell ∷ cs) rest.1, λ one. ap (λ (cs : List Cell). cell ∷ cs) (rest.2 one))

-- events joined to the last cell, where that stands
pub joins-last : (items : List Cell) (i : ℕ) (last one : Cell) (first count : ℕ) → length items ≡ i + 1 → slice_get items i ≡ Some last → one.first ≡ last.first
    → (events : List Outline) (from : ℕ) → first + count < 2 ^ 64 → 0 < count → length (stretch events first count) ≡ count
    → ((front : List Outline) → last.count + count < 2 ^ 64 → Summarizes last front → Summarizes one (front ++ stretch events first count))
    → IsRow events from items first → IsRow events from (slice_set items i one) (first + count)
joins-last items i last one first count long at begins events from fits some many told row =
    let found = split-last items i last long at in
    let split = row-split events from found.0 last first (subst (λ x. IsRow events from x first) found.1 row) in
    let ends : last.first + last.count ≡ first = split.ends in
    let sum : last.count + count < 2 ^ 64 = omega (arith, ends, fits) in
    let both = told (stretch events last.first last.count) sum split.tells in
    let joined = length-append (stretch events last.first last.count) (stretch events first count) in
    let counts : one.count ≡ last.count + count = let a = both.count in let b = split.tells.count in omega (arith, joined, a, b, many) in
    let all : stretch events last.first last.count ++ stretch events first count ≡ stretch events last.first one.count =
    ap (λ n. stretch events last.first last.count ++ stretch events n count) (sym ends) ∙ sym (stretch-add events last.first last.count count) ∙ ap (stretch events last.first) (sym counts) in
    let more : 0 < one.count = omega (arith, counts, some) in
    let to : first + count ≡ last.first + one.count = omega (arith, counts, ends) in
    subst (λ x. IsRow events from x (first + count)) (sym (found.2 one))
    (row-more events from found.0 last.first (first + count) one split.before begins more (subst (Summarizes one) all both) to)

-- an item joined to the last cell, where that stands
pub item-joins-last : (items : List Cell) (i : ℕ) (last one : Cell) (first count : ℕ) (event : Outline) → length items ≡ i + 1 → slice_get items i ≡ Some last → one.first ≡ last.first
    → ((front : List Outline) → last.count + count < 2 ^ 64 → Summarizes last front → Summarizes one (front ++ replicate count event))
    → (events : List Outline) (from : ℕ) → first + count < 2 ^ 64 → 0 < count → stretch events first count ≡ replicate count event → IsRow events from items first
    → IsRow events from (slice_set items i one) (first + count)
item-joins-last items i last one first count event long at begins told events from fits some alike row =
    joins-last items i last one first count long at begins events from fits some (ap (λ es. length es) alike ∙ length-replicate count event)
    (λ front sum h. subst (λ es. Summarizes one (front ++ es)) (sym alike) (told front sum h)) row

-- a cell behind the last
pub stands : {A E : Type 0} → (r : Result A E) (items out : List Cell) (cell : Cell) → OnOk r (out ≡ items ++ cell ∷ [])
    → (events : List Outline) (from : ℕ) → cell.first + cell.count < 2 ^ 64 → 0 < cell.count → Summarizes cell (stretch events cell.first cell.count) → IsRow events from items cell.first
    → OnOk r (IsRow events from out (cell.first + cell.count))
stands (Err e) items out cell written events from fits some tells row = tt
stands (Ok a) items out cell written events from fits some tells row =
    subst (λ x. IsRow events from x (cell.first + cell.count)) (sym written) (row-more events from items cell.first (cell.first + cell.count) cell row refl some tells refl)

-- a cell of an item, behind the last
pub item-stands : {A E : Type 0} → (r : Result A E) (items out : List Cell) (cell : Cell) (first n : ℕ) (event : Outline) → cell.first ≡ first → cell.count ≡ n
    → (0 < n → Summarizes cell (replicate n event)) → OnOk r (out ≡ items ++ cell ∷ [])
    → (events : List Outline) (from : ℕ) → first + n < 2 ^ 64 → 0 < n → stretch events first n ≡ replicate n event → IsRow events from items first
    → OnOk r (IsRow events from out (first + n))
item-stands r items out cell first n event begins count tells written events from fits some alike row =
    let at : cell.first + cell.count ≡ first + n = omega (arith, begins, count) in
    let few : cell.first + cell.count < 2 ^ 64 = omega (arith, at, fits) in
    let one : 0 < cell.count = omega (arith, count, some) in
    let same : stretch events cell.first cell.count ≡ replicate n event =
    ap (λ (k : ℕ). stretch events k cell.count) begins ∙ ap (λ (k : ℕ). stretch events first k) count ∙ alike in
    subst (λ (k : ℕ). OnOk r (IsRow events from out k)) at
    (stands r items out cell written events from few one (subst (λ (es : List Outline). Summarizes cell es) (sym same) (tells some)) (subst (λ (k : ℕ). IsRow events from items k) (sym begins) row))

-- the cells from one of them on
drop-at : (cells : List Cell) (i : ℕ) (cell : Cell) → true ≡ ltb i (length cells) → cell ≡ get_or cells i cell → drop i cells ≡ cell ∷ drop (i + 1) cells
drop-at cells i cell within at =
    let below : i < length cells = ltb-true i (length cells) (sym within) in
    let n : i + 1 ≡ suc i = omega arith in
    rw n (drop-cons cells i cell below ∙ ap (λ c. c ∷ drop (suc i) cells) (sym at))

drop-past : (cells : List Cell) (i : ℕ) → slice_get cells i ≡ None → drop i cells ≡ drop (i + 1) cells
drop-past [] zero e = refl
drop-past [] (suc i) e = let n : suc i + 1 ≡ suc (i + 1) = omega arith in rw n refl
drop-past (x ∷ cells) zero e = cc
drop-past (x ∷ cells) (suc i) e = let n : suc i + 1 ≡ suc (i + 1) = omega arith in rw n (drop-past cells i e)

-- a cell goes from those that are left to those that were joined
pub halves-more : {A E : Type 0} → (r : Result A E) (cells : List Cell) (i : ℕ) (cell : Cell) (old new : List Cell) → true ≡ ltb i (length cells) → cell ≡ get_or cells i cell
    → ((events : List Outline) (from : ℕ) → cell.first + cell.count < 2 ^ 64 → 0 < cell.count → Summarizes cell (stretch events cell.first cell.count) → IsRow events from old cell.first
    → OnOk r (IsRow events from new (cell.first + cell.count)))
    → (events : List Outline) (from to : ℕ) → to < 2 ^ 64 → Halves events from (drop i cells) to old → OnOk r (Halves events from (drop (i + 1) cells) to new)
halves-more (Err e) cells i cell old new within at put events from to below half = tt
halves-more (Ok a) cells i cell old new within at put events from to below half =
    let left : IsRow events half.0 (cell ∷ drop (i + 1) cells) to = subst (λ x. IsRow events half.0 x to) (drop-at cells i cell within at) half.2 in
    let begins : cell.first ≡ half.0 = left.0 in
    let next : IsRow events (half.0 + cell.count) (drop (i + 1) cells) to = left.3 in
    let rises = row-rises events (half.0 + cell.count) (drop (i + 1) cells) to next in
    let fits : cell.first + cell.count < 2 ^ 64 = omega (arith, rises, begins, below) in
    let row : IsRow events from old cell.first = subst (λ x. IsRow events from old x) (sym begins) half.1 in
    let tells : Summarizes cell (stretch events cell.first cell.count) = subst (λ x. Summarizes cell (stretch events x cell.count)) (sym begins) left.2 in
    (cell.first + cell.count, put events from fits left.1 tells row, subst (λ x. IsRow events (x + cell.count) (drop (i + 1) cells) to) (sym begins) next)

pub halves-none : {A E : Type 0} → (r : Result A E) (cells : List Cell) (i : ℕ) (old new : List Cell) → slice_get cells i ≡ None → new ≡ old
    → (events : List Outline) (from to : ℕ) → to < 2 ^ 64 → Halves events from (drop i cells) to old → OnOk r (Halves events from (drop (i + 1) cells) to new)
halves-none (Err e) cells i old new at same events from to below half = tt
halves-none (Ok a) cells i old new at same events from to below half =
    (half.0, subst (λ x. IsRow events from x half.0) (sym same) half.1, subst (λ x. IsRow events half.0 x to) (drop-past cells i at) half.2)
