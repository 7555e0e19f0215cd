-- A place moves up: the steps by which a task comes to its place in a queue, or goes from it.
use Rattle.std.proofs.Common.{◌≡◌, ℕ, zero, suc, ◌-◌, ◌<◌, ◌≤◌, List, [], ◌∷◌, Some, true, length, set, inl, inr, ap, refl, arith}
use Rattle.std.specs.Prelude.{slice_get, insert, remove}
use Rattle.std.proofs.lemmas.Bool.{cases_lt}
use Rattle.evm_model.proofs.Lists.{slice_get-below}
use Rattle.evm_ready.specs.Queues.{precedes, IsInOrder}
use Rattle.evm_ready.proofs.Members.{has-at}
use Rattle.evm_ready.proofs.Preceding.{precedes-trans}
use Rattle.evm_ready.specs.declared.turn.Turn.{Turn}

insert-suc : (xs queue : List ℕ) (q t u : ℕ) → suc q ≤ length queue → slice_get xs q ≡ Some u → set xs (suc q) t ≡ insert queue (suc q) t
    → set (set xs (suc q) u) q t ≡ insert queue q t
insert-suc [] queue q t u h at same = cc
insert-suc (x ∷ xs) [] q t u h at same = absurd (omega arith)
insert-suc (x ∷ []) (v ∷ queue) zero t u h at same = cc
insert-suc (x ∷ y ∷ xs) (v ∷ queue) zero t u h at same = cc
insert-suc (x ∷ xs) (v ∷ queue) (suc q) t u h at same =
    let rest = insert-suc xs queue q t u (omega arith) at (cc) in cc

-- task t was to come to a place, and comes to the one before
pub insert-shift : (xs queue : List ℕ) (place t u : ℕ) → 0 < place → place ≤ length queue → slice_get xs (place - 1) ≡ Some u → set xs place t ≡ insert queue place t
    → set (set xs place u) (place - 1) t ≡ insert queue (place - 1) t
insert-shift xs queue zero t u some h at same = absurd (omega arith)
insert-shift xs queue (suc q) t u some h at same =
    let e : suc q - 1 ≡ q = omega arith in rw e (insert-suc xs queue q t u h (rw e at at) same)

shift-suc : (xs queue : List ℕ) (q t : ℕ) → suc q ≤ length queue → set xs (suc q) t ≡ insert queue (suc q) t → slice_get xs q ≡ slice_get queue q
shift-suc xs [] q t h same = absurd (omega arith)
shift-suc [] (v ∷ queue) zero t h same = cc
shift-suc [] (v ∷ queue) (suc q) t h same = cc
shift-suc (x ∷ xs) (v ∷ queue) zero t h same = cc
shift-suc (x ∷ xs) (v ∷ queue) (suc q) t h same = shift-suc xs queue q t (omega arith) (cc)

-- those before the place are where they were
pub shift-before : (xs queue : List ℕ) (place t u : ℕ) → 0 < place → place ≤ length queue → slice_get xs (place - 1) ≡ Some u → set xs place t ≡ insert queue place t
    → slice_get queue (place - 1) ≡ Some u
shift-before xs queue zero t u some h at same = absurd (omega arith)
shift-before xs queue (suc q) t u some h at same =
    let e : suc q - 1 ≡ q = omega arith in let before = shift-suc xs queue q t h same in let here = rw e at at in rw e (cc)

remove-suc : (xs : List ℕ) (q u : ℕ) → suc q < length xs → slice_get xs q ≡ Some u → remove (set xs (suc q) u) q ≡ remove xs (suc q)
remove-suc [] q u h at = cc
remove-suc (x ∷ []) q u h at = absurd (omega arith)
remove-suc (x ∷ y ∷ xs) zero u h at = cc
remove-suc (x ∷ y ∷ xs) (suc q) u h at = ap (λ rest. x ∷ rest) (remove-suc (y ∷ xs) q u (omega arith) at)

-- the one before a place moves to the place, and is removed in its stead
pub remove-shift : (xs : List ℕ) (place u : ℕ) → 0 < place → place < length xs → slice_get xs (place - 1) ≡ Some u → remove (set xs place u) (place - 1) ≡ remove xs place
remove-shift xs zero u some h at = absurd (omega arith)
remove-shift xs (suc q) u some h at = let e : suc q - 1 ≡ q = omega arith in rw e (remove-suc xs q u h (rw e at at))

-- a task that precedes those behind a place, and the one before it
pub behind-shift : (turns : List Turn) (queue : List ℕ) (t u place : ℕ) → slice_get queue (place - 1) ≡ Some u → precedes turns t u ≡ true
    → ((i v : ℕ) → place ≤ i → slice_get queue i ≡ Some v → precedes turns t v ≡ true)
    → (i v : ℕ) → place - 1 ≤ i → slice_get queue i ≡ Some v → precedes turns t v ≡ true
behind-shift turns queue t u place at goes behind i v h e =
    elim (cases_lt i place) [
      | inl low ↦
          let is : i ≡ place - 1 = omega arith in
          let here : slice_get queue i ≡ Some u = rw is at in
          let same : v ≡ u = cc in
          rw same goes
      | inr high ↦ behind i v high e
    ]

-- a task that precedes the first precedes all
pub leads-all : (turns : List Turn) (queue : List ℕ) (t : ℕ) → IsInOrder turns queue → ((u : ℕ) → slice_get queue 0 ≡ Some u → precedes turns t u ≡ true)
    → (i u : ℕ) → slice_get queue i ≡ Some u → precedes turns t u ≡ true
leads-all turns [] t order first i u e = let below = slice_get-below [] i u e in absurd (omega arith)
leads-all turns (v ∷ queue) t order first zero u e = first u e
leads-all turns (v ∷ queue) t order first (suc i) u e = precedes-trans turns t v u (first v refl) (order.0 u (has-at queue i u e))
