-- Sums over views, and how one changed view changes them.
use Rattle.std.proofs.Common.{◌≡◌, ℕ, zero, suc, ◌+◌, ◌≤◌, List, [], ◌∷◌, ◌++◌, set, sym, refl, ap, arith}
use mathlib.Core.Option.{some, some-injective, some-ne-none}
use lib.ListN.{get_elem?}
use Rattle.evm_bells.specs.Batches.{Batch, count}
use Rattle.evm_bells.specs.Rule.{total, WeighsNothing, WeighNothing}
use Rattle.evm_bells.specs.declared.rule.SeatView.{SeatView}

pub total_set : (f : SeatView → ℕ) (views : List SeatView) (id : ℕ) (v w : SeatView) → get_elem? views id ≡ some v → total f (set views id w) + f v ≡ total f views + f w
total_set f [] id v w at = absurd (some-ne-none v (sym at))
total_set f (u ∷ views) zero v w at = omega (arith, ap f (some-injective u v at))
total_set f (u ∷ views) (suc id) v w at = omega (arith, total_set f views id v w at)

pub total_snoc : (f : SeatView → ℕ) (views : List SeatView) (v : SeatView) → total f (views ++ v ∷ []) ≡ total f views + f v
total_snoc f [] v = omega arith
total_snoc f (u ∷ views) v = omega (arith, total_snoc f views v)

pub idle_set : (views : List SeatView) (id : ℕ) (w : SeatView) → WeighsNothing w → WeighNothing views → WeighNothing (set views id w)
idle_set [] id w i all = tt
idle_set (u ∷ views) zero w i all = (i, all.1)
idle_set (u ∷ views) (suc id) w i all = (all.0, idle_set views id w i all.1)

pub idle_snoc : (views : List SeatView) (w : SeatView) → WeighsNothing w → WeighNothing views → WeighNothing (views ++ w ∷ [])
idle_snoc [] w i all = (i, tt)
idle_snoc (u ∷ views) w i all = (all.0, idle_snoc views w i all.1)

pub weight_below : (views : List SeatView) (id : ℕ) (v : SeatView) → get_elem? views id ≡ some v → v.weight ≤ total (λ u. u.weight) views
weight_below [] id v at = absurd (some-ne-none v (sym at))
weight_below (u ∷ views) zero v at = omega (arith, ap (λ (x : SeatView). x.weight) (some-injective u v at))
weight_below (u ∷ views) (suc id) v at = omega (arith, weight_below views id v at)

-- views of no weight count nothing
pub nothing : (f : SeatView → ℕ) → ((v : SeatView) → WeighsNothing v → v.weight ≡ 0 → f v ≡ 0) → (views : List SeatView) → WeighNothing views → total (λ u. u.weight) views ≡ 0 → total f views ≡ 0
nothing f none [] all zero_weight = refl
nothing f none (u ∷ views) all zero_weight =
    omega (arith, none u all.0 (omega arith), nothing f none views all.1 (omega arith))

-- a view with all the weight counts all
pub alone : (f : SeatView → ℕ) → ((v : SeatView) → WeighsNothing v → v.weight ≡ 0 → f v ≡ 0) → (views : List SeatView) (id : ℕ) (v : SeatView) → WeighNothing views
    → get_elem? views id ≡ some v → total (λ u. u.weight) views ≡ v.weight → total f views ≡ f v
alone f none [] id v all at all_weight = absurd (some-ne-none v (sym at))
alone f none (u ∷ views) zero v all at all_weight =
    let same = some-injective u v at in
    let weights : u.weight ≡ v.weight = ap (λ (x : SeatView). x.weight) same in
    omega (arith, ap f same, nothing f none views all.1 (omega arith))
alone f none (u ∷ views) (suc id) v all at all_weight =
    let low = weight_below views id v at in
    omega (arith, none u all.0 (omega arith), alone f none views id v all.1 at (omega arith))

-- ---- batches
pub count-append : (xs ys : List Batch) (c l : ℕ) → count (xs ++ ys) c l ≡ count xs c l + count ys c l
count-append [] ys c l = omega arith
count-append (m ∷ xs) ys c l = omega (arith, count-append xs ys c l)
