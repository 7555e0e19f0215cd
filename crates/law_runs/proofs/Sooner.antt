-- The first of least deadline, then of least number; and how many are left.
use Rattle.std.proofs.Common.{◌≡◌, ℕ, zero, suc, ◌+◌, ◌<◌, ◌≤◌, Bool, true, false, Option, Some, None, ◌⊎◌, inl, inr, refl, ap, sym, ◌∙◌, arith}
use Rattle.std.specs.Prelude.{nat_lt, if◌then◌else◌}
use Rattle.std.proofs.Math.Nat.{eq-or-lt_of_le}
use Rattle.std.proofs.lemmas.Bool.{cases_lt}
use Rattle.std.proofs.lemmas.Bool.Decides.{nat_tests}
use Rattle.evm_model.specs.Ranks.{first, leader}

-- ---- the first of least deadline
-- .. goes before all that were looked at, by deadline, then by number
abbrev pub Leads : (ℕ → Bool) → (ℕ → ℕ) → ℕ → Option ℕ → Type 0
Leads member s n None = (u : ℕ) → u < n → member u ≡ true → ⊥
Leads member s n (Some t) = (t < n) × ((u : ℕ) → u < n → member u ≡ true → (s t < s u) ⊎ ((s t ≡ s u) × (t ≤ u)))

leads_alone : (member : ℕ → Bool) (s : ℕ → ℕ) (n : ℕ) → Leads member s n None → Leads member s (suc n) (Some n)
leads_alone member s n none = (
  omega arith,
  λ u low is. elim (eq-or-lt_of_le {n = u} {m = n} (omega arith)) [
    | inl same ↦ inr (ap s (sym same), omega arith)
    | inr less ↦ absurd (none u less is)
  ],
)

leads_over : (member : ℕ → Bool) (s : ℕ → ℕ) (n t : ℕ) (b : Bool) → nat_lt (s n) (s t) ≡ b → Leads member s n (Some t) → Leads member s (suc n) (Some (if b then n else t))
leads_over member s n t true e h =
    let under : s n < s t = grind (arith, nat_tests) in (
      omega arith,
      λ u low is. elim (eq-or-lt_of_le {n = u} {m = n} (omega arith)) [
        | inl same ↦ inr (ap s (sym same), omega arith)
        | inr less ↦ elim (h.1 u less is) [ inl k ↦ inl (omega arith) | inr k ↦ inl (omega (arith, k.0)) ]
      ],
    )
leads_over member s n t false e h =
    let over : s t ≤ s n = grind (arith, nat_tests) in
    let low : t < n = h.0 in (
      omega arith,
      λ u below is. elim (eq-or-lt_of_le {n = u} {m = n} (omega arith)) [
        | inl same ↦ elim (cases_lt (s t) (s u)) [
          | inl less ↦ inl less
          | inr not_less ↦ let tied : s u ≡ s n = ap s same in inr (omega arith, omega arith)
        ]
        | inr less ↦ h.1 u less is
      ],
    )

leads_more : (member : ℕ → Bool) (s : ℕ → ℕ) (n : ℕ) (o : Option ℕ) → Leads member s n o → Leads member s (suc n) (Some (leader (λ _. 0) s o n))
leads_more member s n None h = leads_alone member s n h
leads_more member s n (Some t) h = leads_over member s n t (nat_lt (s n) (s t)) refl h

leads_still : (member : ℕ → Bool) (s : ℕ → ℕ) (n : ℕ) (o : Option ℕ) → member n ≡ false → Leads member s n o → Leads member s (suc n) o
leads_still member s n None e h = λ u low is. elim (eq-or-lt_of_le {n = u} {m = n} (omega arith)) [
  | inl same ↦ let no : false ≡ true = sym e ∙ ap member (sym same) ∙ is in cc
  | inr less ↦ h u less is
]
leads_still member s n (Some t) e h = (
  omega (arith, h.0),
  λ u low is. elim (eq-or-lt_of_le {n = u} {m = n} (omega arith)) [
    | inl same ↦ let no : false ≡ true = sym e ∙ ap member (sym same) ∙ is in cc
    | inr less ↦ h.1 u less is
  ],
)

leads_if : (member : ℕ → Bool) (s : ℕ → ℕ) (n : ℕ) (o : Option ℕ) (b : Bool) → member n ≡ b → Leads member s n o → Leads member s (suc n) (if b then Some (leader (λ _. 0) s o n) else o)
leads_if member s n o true e h = leads_more member s n o h
leads_if member s n o false e h = leads_still member s n o e h

pub leads : (member : ℕ → Bool) (s : ℕ → ℕ) (n : ℕ) → Leads member s n (first member (λ _. 0) s n)
unfolding first
leads member s zero = λ u low is. absurd (omega arith)
leads member s (suc n) = leads_if member s n (first member (λ _. 0) s n) (member n) refl (leads member s n)

-- ---- how many are such below a number
unfoldable pub how_many : (ℕ → Bool) → ℕ → ℕ
how_many member zero = 0
how_many member (suc n) = if member n then how_many member n + 1 else how_many member n

one_if : (b : Bool) (m n : ℕ) → m ≤ n → (if b then m + 1 else m) ≤ suc n
one_if true m n h = omega arith
one_if false m n h = omega arith

pub few : (member : ℕ → Bool) (n : ℕ) → how_many member n ≤ n
unfolding how_many
few member zero = omega arith
few member (suc n) = one_if (member n) (how_many member n) n (few member n)

if_same : (a b : Bool) (m n : ℕ) → a ≡ b → m ≡ n → (if a then m + 1 else m) ≡ (if b then n + 1 else n)
if_same a b m n e h = rw (e, h) refl

pub same_many : (member other : ℕ → Bool) (n : ℕ) → ((u : ℕ) → u < n → member u ≡ other u) → how_many member n ≡ how_many other n
unfolding how_many
same_many member other zero h = refl
same_many member other (suc n) h = if_same (member n) (other n) (how_many member n) (how_many other n) (h n (omega arith)) (same_many member other n (λ u low. h u (omega arith)))

pub no_many : (member : ℕ → Bool) (n : ℕ) → ((u : ℕ) → u < n → member u ≡ false) → how_many member n ≡ 0
unfolding how_many
no_many member zero h = refl
no_many member (suc n) h = rw (h n (omega arith), no_many member n (λ u low. h u (omega arith))) refl

pub none_left : (member : ℕ → Bool) (n u : ℕ) → how_many member n ≡ 0 → u < n → member u ≡ false
unfolding how_many
none_left member zero u e low = absurd (omega arith)
none_left member (suc n) u e low = pick (member n) refl e (λ rest less. none_left member n u rest less)
  where
    pick : (b : Bool) → member n ≡ b → (if b then how_many member n + 1 else how_many member n) ≡ 0 → (how_many member n ≡ 0 → u < n → member u ≡ false) → member u ≡ false
    pick true h more below = absurd (omega arith)
    pick false h rest below = elim (eq-or-lt_of_le {n = u} {m = n} (omega arith)) [ inl same ↦ ap member same ∙ h | inr less ↦ below rest less ]

-- one of them is such no more
pub one_less : (member other : ℕ → Bool) (n t : ℕ) → t < n → member t ≡ true → other t ≡ false → ((u : ℕ) → (u ≡ t → ⊥) → other u ≡ member u) → how_many member n ≡ how_many other n + 1
unfolding how_many
one_less member other zero t low is gone h = absurd (omega arith)
one_less member other (suc n) t low is gone h = elim (eq-or-lt_of_le {n = t} {m = n} (omega arith)) [
  | inl same ↦
      let here : member n ≡ true = ap member (sym same) ∙ is in
      let there : other n ≡ false = ap other (sym same) ∙ gone in
      rw (here, there) (ap (λ (x : ℕ). x + 1) (same_many member other n (λ u less. sym (h u (λ at. omega (arith, at, same))))))
  | inr less ↦
      let rest : how_many member n ≡ how_many other n + 1 = one_less member other n t less is gone h in
      let at : other n ≡ member n = h n (λ e. omega (arith, e)) in
      rw at (pick (member n) rest)
]
  where
    pick : (b : Bool) → how_many member n ≡ how_many other n + 1 → (if b then how_many member n + 1 else how_many member n) ≡ (if b then how_many other n + 1 else how_many other n) + 1
    pick true e = omega arith
    pick false e = e
