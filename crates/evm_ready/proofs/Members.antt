-- Who is in a queue, as tasks come and go.
use Rattle.std.proofs.Common.{◌≡◌, ℕ, zero, suc, ◌+◌, ◌<◌, ◌≤◌, List, [], ◌∷◌, Some, Bool, true, false, length, refl, ap, sym, ◌∙◌, ◌⊎◌, inl, inr, arith}
use Rattle.std.specs.Prelude.{slice_get, insert, remove, ◌||◌, ◌&&◌, ◌==◌, not}
use Rattle.std.proofs.lemmas.Bool.Decides.{nat_tests}
use Rattle.std.proofs.lemmas.List.Edits.{length-remove}
use Rattle.evm_model.proofs.Lists.{slice_get-within, slice_get-below}
use Rattle.evm_ready.specs.declared.turn.Turn.{Turn}
use Rattle.evm_ready.specs.Queues.{has, precedes, IsInOrder}
use Rattle.evm_ready.proofs.Preceding.{precedes-trans, precedes-total, precedes-itself}

either : (a b : Bool) → (a || b) ≡ true → (a ≡ true) ⊎ (b ≡ true)
either true b h = inl refl
either false b h = inr h

or-right : (a b : Bool) → b ≡ true → (a || b) ≡ true
or-right true b h = refl
or-right false b h = h

or-swap : (a b c : Bool) → (a || (b || c)) ≡ (b || (a || c))
or-swap true true c = refl
or-swap true false c = refl
or-swap false b c = refl

same-test : (t u : ℕ) → (t == u) ≡ true → t ≡ u
same-test t u h = grind (arith, nat_tests)

test-same : (t : ℕ) → (t == t) ≡ true
test-same t = grind (arith, nat_tests)

test-other : (t u : ℕ) → (t ≡ u → ⊥) → (t == u) ≡ false
test-other t u h = grind (arith, nat_tests)

false-true : (b : Bool) → (b ≡ true → ⊥) → b ≡ false
false-true true h = absurd (h refl)
false-true false h = refl

-- ---- by place
pub has-at : (queue : List ℕ) (i t : ℕ) → slice_get queue i ≡ Some t → has queue t ≡ true
has-at [] i t e = cc
has-at (u ∷ queue) zero t e = let is : u ≡ t = cc in rw is (ap (λ b. b || has queue t) (test-same t))
has-at (u ∷ queue) (suc i) t e = or-right (u == t) (has queue t) (has-at queue i t e)

pub at-has : (queue : List ℕ) (t : ℕ) → has queue t ≡ true → (i : ℕ) × (slice_get queue i ≡ Some t)
at-has [] t h = cc
at-has (u ∷ queue) t h = elim (either (u == t) (has queue t) h) [
  | inl e ↦ (0, ap Some (same-test u t e))
  | inr e ↦ let rest = at-has queue t e in (suc rest.0, rest.1)
]

pub has-none : (queue : List ℕ) (t : ℕ) → ((i u : ℕ) → slice_get queue i ≡ Some u → u ≡ t → ⊥) → has queue t ≡ false
has-none queue t h = false-true (has queue t) (λ is. let at = at-has queue t is in h at.0 t at.1 refl)

-- ---- one comes
pub has-insert : (queue : List ℕ) (at t u : ℕ) → at ≤ length queue → has (insert queue at t) u ≡ has (t ∷ queue) u
has-insert queue zero t u h = refl
has-insert [] (suc at) t u h = absurd (omega arith)
has-insert (v ∷ queue) (suc at) t u h = ap (λ b. (v == u) || b) (has-insert queue at t u (omega arith)) ∙ or-swap (v == u) (t == u) (has queue u)

-- ---- one goes
pub has-removed : (queue : List ℕ) (i u : ℕ) → has (remove queue i) u ≡ true → has queue u ≡ true
has-removed [] zero u h = h
has-removed [] (suc i) u h = h
has-removed (v ∷ queue) zero u h = or-right (v == u) (has queue u) h
has-removed (v ∷ queue) (suc i) u h = elim (either (v == u) (has (remove queue i) u) h) [
  | inl e ↦ ap (λ b. b || has queue u) e
  | inr e ↦ or-right (v == u) (has queue u) (has-removed queue i u e)
]

gone-here : (same rest : Bool) → (same ≡ true → rest ≡ false) → rest ≡ (not same && (same || rest))
gone-here true rest h = h refl
gone-here false rest h = refl

gone-rest : (here same rest : Bool) → (here ≡ true → same ≡ false) → (here || (not same && rest)) ≡ (not same && (here || rest))
gone-rest true same rest h = rw (h refl) refl
gone-rest false same rest h = refl

-- it is in the queue no more, and the others are
pub has-remove : (turns : List Turn) (queue : List ℕ) (i t u : ℕ) → IsInOrder turns queue → slice_get queue i ≡ Some t
    → has (remove queue i) u ≡ (not (t == u) && has queue u)
has-remove turns [] i t u order e = cc
has-remove turns (v ∷ queue) zero t u order e =
    let is : v ≡ t = cc in
    rw is (gone-here (t == u) (has queue u) (λ same. false-true (has queue u) (λ h.
    let before = order.0 u h in
    let at : v ≡ u = is ∙ same-test t u same in
    let itself : precedes turns u u ≡ true = rw at at before in
    let never = precedes-itself turns u in cc)))
has-remove turns (v ∷ queue) (suc i) t u order e =
    ap (λ b. (v == u) || b) (has-remove turns queue i t u order.1 e)
    ∙ gone-rest (v == u) (t == u) (has queue u) (λ here. test-other t u (λ same.
    let at : v ≡ t = same-test v u here ∙ sym same in
    let before = order.0 t (has-at queue i t e) in
    let itself : precedes turns t t ≡ true = rw at at before in
    let never = precedes-itself turns t in cc))

-- ---- the order
pub in_order-remove : (turns : List Turn) (queue : List ℕ) (i : ℕ) → IsInOrder turns queue → IsInOrder turns (remove queue i)
in_order-remove turns [] zero order = order
in_order-remove turns [] (suc i) order = order
in_order-remove turns (v ∷ queue) zero order = order.1
in_order-remove turns (v ∷ queue) (suc i) order = ((λ u h. order.0 u (has-removed queue i u h)), in_order-remove turns queue i order.1)

-- by other turns, of which the members have the same order
pub in_order-same : (turns others : List Turn) (queue : List ℕ) → ((t u : ℕ) → has queue t ≡ true → has queue u ≡ true → precedes turns t u ≡ precedes others t u)
    → IsInOrder turns queue → IsInOrder others queue
in_order-same turns others [] same order = order
in_order-same turns others (v ∷ queue) same order = (
  (λ u h. sym (same v u (ap (λ b. b || has queue v) (test-same v)) (or-right (v == u) (has queue u) h)) ∙ order.0 u h),
  in_order-same turns others queue (λ t u h k. same t u (or-right (v == t) (has queue t) h) (or-right (v == u) (has queue u) k)) order.1,
)

-- the one before a place precedes t, and so does each before it
before-insert : (turns : List Turn) (queue : List ℕ) (at t v : ℕ) → at ≤ length queue → ((u : ℕ) → has queue u ≡ true → precedes turns v u ≡ true) → (t ≡ v → ⊥) → has queue t ≡ false
    → ((i u : ℕ) → i + 1 ≡ suc at → slice_get (v ∷ queue) i ≡ Some u → precedes turns t u ≡ false) → precedes turns v t ≡ true
before-insert turns queue zero t v h all other new before = precedes-total turns t v other (before 0 v refl refl)
before-insert turns queue (suc at) t v h all other new before =
    let last = slice_get-within queue at (omega arith) in
    let differs : t ≡ last.0 → ⊥ = λ same. let there = has-at queue at last.0 last.1 in let here : has queue t ≡ true = rw same there in cc in
    precedes-trans turns v last.0 t (all last.0 (has-at queue at last.0 last.1))
    (precedes-total turns t last.0 differs (before (suc at) last.0 (omega arith) last.1))

pub in_order-insert : (turns : List Turn) (queue : List ℕ) (at t : ℕ) → at ≤ length queue → IsInOrder turns queue → has queue t ≡ false
    → ((i u : ℕ) → at ≤ i → slice_get queue i ≡ Some u → precedes turns t u ≡ true)
    → ((i u : ℕ) → i + 1 ≡ at → slice_get queue i ≡ Some u → precedes turns t u ≡ false)
    → IsInOrder turns (insert queue at t)
in_order-insert turns queue zero t h order new behind before =
    ((λ u is. let at = at-has queue u is in behind at.0 u (omega arith) at.1), order)
in_order-insert turns [] (suc at) t h order new behind before = absurd (omega arith)
in_order-insert turns (v ∷ queue) (suc at) t h order new behind before =
    let other : t ≡ v → ⊥ = λ same. let here : has (v ∷ queue) t ≡ true = rw same (ap (λ b. b || has queue v) (test-same v)) in cc in
    let absent : has queue t ≡ false = false-true (has queue t) (λ is. let here = or-right (v == t) (has queue t) is in cc) in (
      (λ u is. elim (either (t == u) (has queue u) (sym (has-insert queue at t u (omega arith)) ∙ is)) [
        | inl e ↦ rw (← same-test t u e) (before-insert turns queue at t v (omega arith) order.0 other absent before)
        | inr e ↦ order.0 u e
      ]),
      in_order-insert turns queue at t (omega arith) order.1 absent
          (λ i u le e. behind (suc i) u (omega arith) e)
          (λ i u is e. before (suc i) u (omega arith) e),
    )

-- ---- no queue is longer than there are tasks
-- of those below n + 1 all but n are below n
test-cases : (t n : ℕ) → ((t == n) ≡ true) ⊎ ((t == n) ≡ false)
test-cases t n = elim (t == n) as (λ b. (b ≡ true) ⊎ (b ≡ false)) [ true ↦ inl refl | false ↦ inr refl ]

cases-lt : (t n : ℕ) → t ≤ n → (t < n) ⊎ (t ≡ n)
cases-lt t n h = elim (test-cases t n) [ inl e ↦ inr (same-test t n e) | inr e ↦ inl (grind (arith, nat_tests)) ]

all-but : (n u : ℕ) → u < suc n → (n ≡ u → ⊥) → u < n
all-but n u h other = omega (arith, other)

-- the queue without task n, if it is in there
without-last : (turns : List Turn) (n : ℕ) (queue : List ℕ) → IsInOrder turns queue → ((u : ℕ) → has queue u ≡ true → u < suc n) → (b : Bool) → has queue n ≡ b
    → (rest : List ℕ) × IsInOrder turns rest × ((u : ℕ) → has rest u ≡ true → (u < n) × (has queue u ≡ true)) × (length queue ≤ length rest + 1)
    × (b ≡ false → length queue ≡ length rest)
without-last turns n queue order below true is =
    let at = at-has queue n is in
    let shorter = length-remove queue at.0 (slice_get-below queue at.0 n at.1) in (
      remove queue at.0,
      in_order-remove turns queue at.0 order,
      (λ u h. let there = has-removed queue at.0 u h in (
        all-but n u (below u there) (λ same.
            let gone = has-remove turns queue at.0 n u order at.1 in
            let here : (n == u) ≡ true = rw same (test-same u) in
            let never : has (remove queue at.0) u ≡ false = gone ∙ rw here refl in cc),
        there,
      )),
      omega (arith, shorter),
      (λ e. cc),
    )
without-last turns n queue order below false is =
    (queue, order, (λ u h. (all-but n u (below u h) (λ same. let here : has queue n ≡ true = rw same h in cc), h)), omega arith, (λ _. refl))

pub length-below : (turns : List Turn) (n : ℕ) (queue : List ℕ) → IsInOrder turns queue → ((u : ℕ) → has queue u ≡ true → u < n) → length queue ≤ n
length-below turns zero [] order below = omega arith
length-below turns zero (v ∷ queue) order below = let less : v < 0 = below v (ap (λ b. b || has queue v) (test-same v)) in absurd (omega arith)
length-below turns (suc n) queue order below =
    let rest = without-last turns n queue order below (has queue n) refl in
    let shorter = length-below turns n rest.0 rest.1 (λ u h. (rest.2 u h).0) in
    let most = rest.3 in
    omega (arith, shorter, most)

-- where one of them is missing, there is room for it
pub length-missing : (turns : List Turn) (n : ℕ) (queue : List ℕ) (t : ℕ) → t < n → has queue t ≡ false → IsInOrder turns queue
    → ((u : ℕ) → has queue u ≡ true → u < n) → length queue < n
length-missing turns zero queue t less missing order below = absurd (omega arith)
length-missing turns (suc n) queue t less missing order below =
    let rest = without-last turns n queue order below (has queue n) refl in
    let most = rest.3 in
    let same = rest.4 in
    elim (cases-lt t n (omega arith)) [
      | inl lower ↦
          let absent : has rest.0 t ≡ false = false-true (has rest.0 t) (λ h. let there = (rest.2 t h).1 in cc) in
          let shorter = length-missing turns n rest.0 t lower absent rest.1 (λ u h. (rest.2 u h).0) in
          omega (arith, shorter, most)
      | inr last ↦
          let shorter = length-below turns n rest.0 rest.1 (λ u h. (rest.2 u h).0) in
          let as_long : length queue ≡ length rest.0 = same (rw (← last) missing) in
          omega (arith, shorter, as_long)
    ]
