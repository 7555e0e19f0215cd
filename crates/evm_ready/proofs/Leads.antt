-- The first of the members is the one that no other is ahead of.
use Rattle.std.proofs.Common.{◌≡◌, ℕ, zero, suc, ◌<◌, List, [], ◌∷◌, Option, Some, None, Bool, true, false, length, refl, sym, ◌∙◌, ◌⊎◌, inl, inr, arith}
use Rattle.std.specs.Prelude.{slice_get, ◌==◌, ◌||◌, if◌then◌else◌}
use Rattle.std.proofs.lemmas.Bool.Decides.{nat_tests}
use Rattle.evm_model.specs.Ranks.{first, leader, goes_before}
use Rattle.evm_ready.specs.declared.turn.Turn.{Turn}
use Rattle.evm_ready.specs.Queues.{has, is_ahead, is_in, precedes, turn_rank, turn_stamp, IsQueueOf}
use Rattle.evm_ready.proofs.Filing.{is_in-below}
use Rattle.evm_ready.proofs.Firsts.{first-below, first-member}
use Rattle.evm_ready.proofs.Members.{has-at}
use Rattle.evm_ready.proofs.Preceding.{ahead-trans, ahead-total, ahead-itself, precedes-not_both, precedes-itself}

-- t is ahead of u by these ranks and stamps
abbrev pub ahead : (ℕ → ℕ) → (ℕ → ℕ) → ℕ → ℕ → Bool
ahead rank stamp t u = is_ahead (rank t) (stamp t) t (rank u) (stamp u) u

before-ahead : (rank stamp : ℕ → ℕ) (t u : ℕ) → goes_before rank stamp t u ≡ true → ahead rank stamp t u ≡ true
before-ahead rank stamp t u h = grind (arith, nat_tests)

behind-ahead : (rank stamp : ℕ → ℕ) (t u : ℕ) → goes_before rank stamp t u ≡ false → u < t → ahead rank stamp t u ≡ false
behind-ahead rank stamp t u h less = grind (arith, nat_tests)

false-true : (b : Bool) → (b ≡ true → ⊥) → b ≡ false
false-true true h = absurd (h refl)
false-true false h = refl

test-cases : (t n : ℕ) → ((t == n) ≡ true) ⊎ ((t == n) ≡ false)
test-cases t n = elim (t == n) as (λ b. (b ≡ true) ⊎ (b ≡ false)) [ true ↦ inl refl | false ↦ inr refl ]

same-or-not : (t n : ℕ) → (t ≡ n) ⊎ (t ≡ n → ⊥)
same-or-not t n = elim (test-cases t n) [ inl e ↦ inl (grind (arith, nat_tests)) | inr e ↦ inr (λ same. grind (arith, nat_tests)) ]

below-or-last : (u n : ℕ) → u < suc n → (u < n) ⊎ (u ≡ n)
below-or-last u n less = elim (same-or-not u n) [ inl e ↦ inr e | inr e ↦ inl (omega (arith, e)) ]

-- ---- none
nobody-step : (here : Bool) (best : Option ℕ) (t : ℕ) → (if here then Some t else best) ≡ None → (here ≡ false) × (best ≡ None)
nobody-step true best t e = cc
nobody-step false best t e = (refl, e)

pub first-nobody : (member : ℕ → Bool) (rank stamp : ℕ → ℕ) (n u : ℕ) → first member rank stamp n ≡ None → u < n → member u ≡ false
unfolding first
first-nobody member rank stamp zero u e less = absurd (omega arith)
first-nobody member rank stamp (suc n) u e less =
    let parts = nobody-step (member n) (first member rank stamp n) (leader rank stamp (first member rank stamp n) n) e in
    elim (below-or-last u n less) [
      | inl lower ↦ first-nobody member rank stamp n u parts.1 lower
      | inr last ↦ rw last parts.0
    ]

pub first-empty : (member : ℕ → Bool) (rank stamp : ℕ → ℕ) (n : ℕ) → ((u : ℕ) → u < n → member u ≡ false) → first member rank stamp n ≡ None
unfolding first
first-empty member rank stamp zero h = refl
first-empty member rank stamp (suc n) h = rw (h n (omega arith)) (first-empty member rank stamp n (λ u less. h u (omega arith)))

-- ---- none is ahead of the first
leads-some : (rank stamp : ℕ → ℕ) (n c u : ℕ) (before : Bool) → goes_before rank stamp n c ≡ before → c < n → (u ≡ n) ⊎ (ahead rank stamp u c ≡ false)
    → ahead rank stamp u (if before then n else c) ≡ false
leads-some rank stamp n c u true is less h = elim h [
  | inl same ↦ rw same (ahead-itself (rank n) (stamp n) n)
  | inr not_ahead ↦ false-true (ahead rank stamp u n) (λ yes.
      let through : ahead rank stamp u c ≡ true = ahead-trans (rank u) (stamp u) u (rank n) (stamp n) n (rank c) (stamp c) c yes (before-ahead rank stamp n c is) in cc)
]
leads-some rank stamp n c u false is less h = elim h [
  | inl same ↦ rw same (behind-ahead rank stamp n c is less)
  | inr not_ahead ↦ not_ahead
]

leads-step : (member : ℕ → Bool) (rank stamp : ℕ → ℕ) (n b u : ℕ) (here : Bool) (best : Option ℕ) → member n ≡ here → first member rank stamp n ≡ best
    → (if here then Some (leader rank stamp best n) else best) ≡ Some b → u < suc n → member u ≡ true
    → ((c : ℕ) → best ≡ Some c → u < n → ahead rank stamp u c ≡ false) → ahead rank stamp u b ≡ false
leads-step member rank stamp n b u false best at is e less in_it before =
    elim (below-or-last u n less) [
      | inl lower ↦ before b e lower
      | inr last ↦ let never : member u ≡ false = rw last at in cc
    ]
leads-step member rank stamp n b u true None at is e less in_it before =
    let it : n ≡ b = cc in
    elim (below-or-last u n less) [
      | inl lower ↦ let never : member u ≡ false = first-nobody member rank stamp n u is lower in cc
      | inr last ↦ rw (last, ← it) (ahead-itself (rank n) (stamp n) n)
    ]
leads-step member rank stamp n b u true (Some c) at is e less in_it before =
    let it : (if goes_before rank stamp n c then n else c) ≡ b = cc in
    let lower = first-below member rank stamp n c is in
    let h : (u ≡ n) ⊎ (ahead rank stamp u c ≡ false) = elim (below-or-last u n less) [ inl under ↦ inr (before c refl under) | inr last ↦ inl last ] in
    rw (← it) (leads-some rank stamp n c u (goes_before rank stamp n c) refl lower h)

pub first-leads : (member : ℕ → Bool) (rank stamp : ℕ → ℕ) (n b u : ℕ) → first member rank stamp n ≡ Some b → u < n → member u ≡ true → ahead rank stamp u b ≡ false
unfolding first
first-leads member rank stamp zero b u e less in_it = cc
first-leads member rank stamp (suc n) b u e less in_it =
    leads-step member rank stamp n b u (member n) (first member rank stamp n) refl refl e less in_it (λ c is lower. first-leads member rank stamp n c u is lower in_it)

-- ---- and there is one of which that is true
first-case : (member : ℕ → Bool) (rank stamp : ℕ → ℕ) (n t : ℕ) (o : Option ℕ) → first member rank stamp n ≡ o → t < n → member t ≡ true
    → ((u : ℕ) → u < n → member u ≡ true → ahead rank stamp u t ≡ false) → o ≡ Some t
first-case member rank stamp n t None is less in_it leads = let never = first-nobody member rank stamp n t is less in cc
first-case member rank stamp n t (Some b) is less in_it leads =
    elim (same-or-not t b) [
      | inl same ↦ rw same refl
      | inr other ↦
          let mine = first-leads member rank stamp n b t is less in_it in
          let theirs = leads b (first-below member rank stamp n b is) (first-member member rank stamp n b is) in
          let ahead_of : ahead rank stamp b t ≡ true = ahead-total (rank t) (stamp t) t (rank b) (stamp b) b other mine in
          cc
    ]

pub first-is : (member : ℕ → Bool) (rank stamp : ℕ → ℕ) (n t : ℕ) → t < n → member t ≡ true → ((u : ℕ) → u < n → member u ≡ true → ahead rank stamp u t ≡ false)
    → first member rank stamp n ≡ Some t
first-is member rank stamp n t less in_it leads = first-case member rank stamp n t (first member rank stamp n) refl less in_it leads

-- ---- the head of a queue
precedes-ahead : (turns : List Turn) (t u : ℕ) → precedes turns t u ≡ ahead (turn_rank turns) (turn_stamp turns) t u
unfolding precedes
precedes-ahead turns t u = refl

either : (a b : Bool) → (a || b) ≡ true → (a ≡ true) ⊎ (b ≡ true)
either true b h = inl refl
either false b h = inr h

same-test : (t u : ℕ) → (t == u) ≡ true → t ≡ u
same-test t u h = grind (arith, nat_tests)

pub head-first : (turns : List Turn) (q : ℕ) (queue : List ℕ) → IsQueueOf turns (is_in turns q) queue
    → slice_get queue 0 ≡ first (is_in turns q) (turn_rank turns) (turn_stamp turns) (length turns)
head-first turns q [] is = sym (first-empty (is_in turns q) (turn_rank turns) (turn_stamp turns) (length turns) (λ u less. sym (is.members u)))
head-first turns q (t ∷ queue) is =
    let here : is_in turns q t ≡ true = sym (is.members t) ∙ has-at (t ∷ queue) 0 t refl in
    sym (first-is (is_in turns q) (turn_rank turns) (turn_stamp turns) (length turns) t (is_in-below turns q t here) here
    (λ u less in_it. sym (precedes-ahead turns u t) ∙ elim (either (t == u) (has queue u) (is.members u ∙ in_it)) [
      | inl e ↦ rw (same-test t u e) (precedes-itself turns u)
      | inr e ↦ precedes-not_both turns t u (is.in_order.0 u e)
    ]))
