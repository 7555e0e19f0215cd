-- A window that is walked, item by item.
use Rattle.std.proofs.Common.{◌≡◌, ℕ, ◌+◌, ◌-◌, ◌<◌, ◌≤◌, ◌^◌, List, [], ◌∷◌, zero, suc, drop, take, length, map, replicate, refl, sym, ap, ◌∙◌, ◌⊎◌, inl, inr, subst, arith}
use Rattle.std.proofs.Math.Nat.{le-max_right, max-le, min-eq_left, min-eq_right, min-le_right}
use Rattle.std.proofs.lemmas.List.{length-map}
use Rattle.std.specs.Prelude.{Some, max, min}
use Rattle.view_timeline.proofs.RowLemmas.{row-rises}
use Rattle.view_timeline.specs.Rows.{IsRow, IsWindow, Outline, stretch, window_from, window_to}
use Rattle.view_timeline.specs.declared.cells.Cell.{Cell}
use Rattle.view_timeline.specs.declared.gathering.Window.{Window}
use Rattle.run_walk.specs.Items.{outline}
use Rattle.run_walk.specs.Walks.{Follows, IsNext, Walked, place}
use Rattle.run_walk.specs.declared.item.Item.{Item}

-- ---- outlines of a stretch
map-drop : {X Y : Type 0} (f : X → Y) (n : ℕ) (xs : List X) → drop n (map f xs) ≡ map f (drop n xs)
map-drop f zero xs = refl
map-drop f (suc n) [] = refl
map-drop f (suc n) (x ∷ xs) = map-drop f n xs

map-take : {X Y : Type 0} (f : X → Y) (n : ℕ) (xs : List X) → take n (map f xs) ≡ map f (take n xs)
map-take f zero xs = refl
map-take f (suc n) [] = refl
map-take f (suc n) (x ∷ xs) = ap (λ l. f x ∷ l) (map-take f n xs)

follow : (a b c : Walked) → Follows a b → Follows b c → Follows a c
follow a b c one two = record { events = two.events ∙ one.events; replays = λ first h. two.replays first (one.replays first h) }

-- what is true of a walk, the place where it began, the cells so far and the number of rounds
abbrev pub Comes : Walked → Walked → ℕ → ℕ → ℕ → List Cell → Type 0
Comes start walk first to at cells =
    IsRow (map outline start.events) first cells (place walk) × Follows start walk × (at ≤ place walk) × (place walk ≤ max first to) × (place walk ≤ length walk.events)

-- an item more
pub going : (start before after : Walked) (item : Item) (first to left at : ℕ) (cells new : List Cell) → Comes start before first to at cells → left ≡ to - place before → 0 < left
    → IsNext left before (Some item) after → Follows before after → place after < 2 ^ 64 → place after ≤ length after.events
    → ((events : List Outline) (from : ℕ) → item.first + item.count < 2 ^ 64 → 0 < item.count → stretch events item.first item.count ≡ replicate item.count item.event → IsRow events from cells item.first
    → IsRow events from new (item.first + item.count))
    → Comes start after first to (at + 1) new
going start before after item first to left at cells new comes rest some next follows small within add =
    let events : List Outline = map outline start.events in
    let begins : item.first ≡ place before = next.0 in
    let ends : place after ≡ item.first + item.count = next.3 in
    let fits : item.first + item.count < 2 ^ 64 = omega (arith, ends, small) in
    let alike : stretch events item.first item.count ≡ replicate item.count item.event =
    ap (take item.count) (map-drop outline item.first start.events) ∙ map-take outline item.count (drop item.first start.events)
    ∙ ap (λ es. map outline (take item.count (drop item.first es))) (sym comes.1.events) ∙ next.4 in
    let row : IsRow events first new (place after) =
    subst (λ n. IsRow events first new n) (sym ends) (add events first fits next.1 alike (subst (λ n. IsRow events first cells n) (sym begins) comes.0)) in
    let most : item.count ≤ left = next.2 some in
    let one = next.1 in
    let was = comes.2 in
    let top = le-max_right first to in
    (row, follow start before after comes.1 follows, omega (arith, was, ends, begins, one), omega (arith, ends, begins, most, rest, some, top), within)

-- ---- the end
-- all events of the window, where the walk came to its end
reached : (p first to n : ℕ) → first ≤ p → p ≤ n → p ≤ max first to → to ≤ p → p ≡ max first (min to n)
reached p first to n a b c d =
    let least : min to n ≡ to = min-eq_left (omega (arith, b, d)) in
    let most = max-le {a = first} {b = to} {k = p} a d in
    rw least (omega (arith, c, most))

-- .. or to that of the journal
shifted : (a b : ℕ) → (a ≤ b) ⊎ (b ≤ a) → (suc a ≤ suc b) ⊎ (suc b ≤ suc a)
shifted a b (inl h) = inl (omega (arith, h))
shifted a b (inr h) = inr (omega (arith, h))

split : (a b : ℕ) → (a ≤ b) ⊎ (b ≤ a)
split zero b = inl (omega arith)
split (suc a) zero = inr (omega arith)
split (suc a) (suc b) = shifted a b (split a b)

least-kept : (p first to n : ℕ) → p ≡ n → p ≤ max first to → (to ≤ n) ⊎ (n ≤ to) → p ≤ max first (min to n)
least-kept p first to n e c (inl h) = rw (min-eq_left h) c
least-kept p first to n e c (inr h) = let k = le-max_right first n in rw (min-eq_right h) (omega (arith, e, k))

ran_out : (p first to n : ℕ) → first ≤ p → p ≡ n → p ≤ max first to → p ≡ max first (min to n)
ran_out p first to n a b c =
    let low = min-le_right to n in
    let most = max-le {a = first} {b = min to n} {k = p} a (omega (arith, b, low)) in
    let least = least-kept p first to n b c (split to n) in
    omega (arith, most, least)

window-by : (window : Window) (start walk : Walked) (first at : ℕ) (cells : List Cell) → Comes start walk first window.to at cells → first ≡ min window.from (length start.events)
    → place walk ≡ max first (min window.to (length start.events)) → IsWindow window (map outline start.events) cells
window-by window start walk first at cells comes begins ends =
    let events : List Outline = map outline start.events in
    let long : length events ≡ length start.events = length-map start.events outline in
    let from : first ≡ window_from window events = rw long begins in
    let to : place walk ≡ window_to window events = rw (← from, long) ends in
    subst (λ n. IsRow events n cells (window_to window events)) from (subst (λ n. IsRow events first cells n) to comes.0)

pub window-reached : (window : Window) (start walk : Walked) (first at : ℕ) (cells : List Cell) → Comes start walk first window.to at cells → first ≡ min window.from (length start.events)
    → window.to ≤ place walk → IsWindow window (map outline start.events) cells
window-reached window start walk first at cells comes begins came =
    let most : place walk ≤ length start.events = subst (λ es. place walk ≤ length es) comes.1.events comes.4 in
    let rises = row-rises (map outline start.events) first cells (place walk) comes.0 in
    window-by window start walk first at cells comes begins (reached (place walk) first window.to (length start.events) rises most comes.3 came)

pub window-ended : (window : Window) (start walk : Walked) (first at : ℕ) (cells : List Cell) → Comes start walk first window.to at cells → first ≡ min window.from (length start.events)
    → place walk ≡ length walk.events → IsWindow window (map outline start.events) cells
window-ended window start walk first at cells comes begins all =
    let rises = row-rises (map outline start.events) first cells (place walk) comes.0 in
    let n : place walk ≡ length start.events = all ∙ ap (λ es. length es) comes.1.events in
    window-by window start walk first at cells comes begins (ran_out (place walk) first window.to (length start.events) rises n comes.3)
