-- `first` finds the member that goes before all others.
use Rattle.std.proofs.Common.{◌≡◌, ℕ, zero, suc, ◌<◌, ◌≤◌, Bool, true, false, Option, Some, None, ◌⊎◌, inl, inr, refl, ap, subst, arith}
use Rattle.std.specs.Prelude.{nat_lt, if◌then◌else◌}
use Rattle.std.proofs.lemmas.Bool.{cases_lt}
use Rattle.std.proofs.lemmas.Bool.Decides.{nat_tests}
use Rattle.std.proofs.Math.Nat.{eq-or-lt_of_le}
use Rattle.evm_model.specs.Ranks.{IsFirst, first, goes_before, leader}
use Rattle.law_runs.specs.First.{NoMember, StampsDiffer, AlwaysFindsFirst}

-- ---- the order, on numbers
abbrev before : ℕ → ℕ → ℕ → ℕ → Bool
before r s r' s' = if nat_lt r' r then true else (if nat_lt r r' then false else nat_lt s s')

greater_or_tied : (r s r' s' : ℕ) → before r s r' s' ≡ true → (r' < r) ⊎ ((r' ≡ r) × (s < s'))
greater_or_tied r s r' s' h = by (nat_lt r' r) (nat_lt r r') (nat_lt s s') refl refl refl h
  where
    by : (a b c : Bool) → nat_lt r' r ≡ a → nat_lt r r' ≡ b → nat_lt s s' ≡ c → (if a then true else (if b then false else c)) ≡ true → (r' < r) ⊎ ((r' ≡ r) × (s < s'))
    by true b c e f g h = let less : r' < r = grind (arith, nat_tests) in inl less
    by false true c e f g h = cc
    by false false true e f g h = let one : r ≤ r' = grind (arith, nat_tests) in let two : r' ≤ r = grind (arith, nat_tests) in let less : s < s' = grind (arith, nat_tests) in inr (omega arith, less)
    by false false false e f g h = cc

before_greater : (r s r' s' : ℕ) → r' < r → before r s r' s' ≡ true
before_greater r s r' s' h = let e : nat_lt r' r ≡ true = grind (arith, nat_tests) in rw e refl

before_tied : (r s s' : ℕ) → s < s' → before r s r s' ≡ true
before_tied r s s' h = let e : nat_lt r r ≡ false = grind (arith, nat_tests) in let f : nat_lt s s' ≡ true = grind (arith, nat_tests) in rw (e, f) refl

before_itself : (r s : ℕ) → before r s r s ≡ false
before_itself r s = let e : nat_lt r r ≡ false = grind (arith, nat_tests) in let f : nat_lt s s ≡ false = grind (arith, nat_tests) in rw (e, f) refl

along : (a b c x y z : ℕ) → before a x b y ≡ true → before b y c z ≡ true → before a x c z ≡ true
along a b c x y z p q = elim (greater_or_tied a x b y p) [
  | inl g ↦ elim (greater_or_tied b y c z q) [
    | inl h ↦ before_greater a x c z (omega arith)
    | inr h ↦ before_greater a x c z (omega arith)
  ]
  | inr g ↦ elim (greater_or_tied b y c z q) [
    | inl h ↦ before_greater a x c z (omega arith)
    | inr h ↦ let same : c ≡ a = omega arith in rw same (before_tied a x z (omega arith))
  ]
]

not_true : (b : Bool) → (b ≡ true → ⊥) → b ≡ false
not_true true h = absurd (h refl)
not_true false h = refl

-- where neither goes before the other
tied : (r s r' s' : ℕ) → before r s r' s' ≡ false → before r' s' r s ≡ false → s ≡ s'
tied r s r' s' p q = elim (cases_lt r' r) [
  | inl h ↦ let e = before_greater r s r' s' h in cc
  | inr h ↦ elim (cases_lt r r') [
    | inl g ↦ let e = before_greater r' s' r s g in cc
    | inr g ↦ let same : r' ≡ r = omega arith in
        elim (cases_lt s s') [
          | inl k ↦ let e : before r s r' s' ≡ true = rw same (before_tied r s s' k) in cc
          | inr k ↦ elim (cases_lt s' s) [
            | inl j ↦ let e : before r' s' r s ≡ true = rw same (before_tied r s' s j) in cc
            | inr j ↦ omega arith
          ]
        ]
  ]
]

-- ---- the search
-- what was found below a number
abbrev Answers : (ℕ → Bool) → (ℕ → ℕ) → (ℕ → ℕ) → ℕ → Option ℕ → Type 0
Answers member rank stamp count None = NoMember member count
Answers member rank stamp count (Some t) = IsFirst member rank stamp count t

leads_more : (member : ℕ → Bool) (rank stamp : ℕ → ℕ) (t : ℕ) (o : Option ℕ) → member t ≡ true → Answers member rank stamp t o → Answers member rank stamp (suc t) (Some (leader rank stamp o t))
leads_more member rank stamp t None m h = record {
  below = omega arith;
  is_member = m;
  leads = λ u low is. elim (eq-or-lt_of_le {n = u} {m = t} (omega arith)) [
    | inl same ↦ rw same (before_itself (rank t) (stamp t))
    | inr less ↦ let no = h u less in cc
  ];
}
leads_more member rank stamp t (Some x) m h = pick (goes_before rank stamp t x) refl
  where
    pick : (b : Bool) → goes_before rank stamp t x ≡ b → IsFirst member rank stamp (suc t) (if b then t else x)
    pick true e = record {
      below = omega arith;
      is_member = m;
      leads = λ u low is. elim (eq-or-lt_of_le {n = u} {m = t} (omega arith)) [
        | inl same ↦ rw same (before_itself (rank t) (stamp t))
        | inr less ↦ not_true _ (λ goes. let no = h.leads u less is in let yes : goes_before rank stamp u x ≡ true = along (rank u) (rank t) (rank x) (stamp u) (stamp t) (stamp x) goes e in cc)
      ];
    }
    pick false e = record {
      below = omega (arith, h.below);
      is_member = h.is_member;
      leads = λ u low is. elim (eq-or-lt_of_le {n = u} {m = t} (omega arith)) [
        | inl same ↦ rw same e
        | inr less ↦ h.leads u less is
      ];
    }

skips : (member : ℕ → Bool) (rank stamp : ℕ → ℕ) (t : ℕ) (o : Option ℕ) → member t ≡ false → Answers member rank stamp t o → Answers member rank stamp (suc t) o
skips member rank stamp t None m h = λ u low. elim (eq-or-lt_of_le {n = u} {m = t} (omega arith)) [
  | inl same ↦ rw same m
  | inr less ↦ h u less
]
skips member rank stamp t (Some x) m h = record {
  below = omega (arith, h.below);
  is_member = h.is_member;
  leads = λ u low is. elim (eq-or-lt_of_le {n = u} {m = t} (omega arith)) [
    | inl same ↦ let yes : member t ≡ true = rw same at is in cc
    | inr less ↦ h.leads u less is
  ];
}

either : (member : ℕ → Bool) (rank stamp : ℕ → ℕ) (t : ℕ) (o : Option ℕ) (b : Bool) → member t ≡ b → Answers member rank stamp t o
    → Answers member rank stamp (suc t) (if b then Some (leader rank stamp o t) else o)
either member rank stamp t o true m h = leads_more member rank stamp t o m h
either member rank stamp t o false m h = skips member rank stamp t o m h

answers : (member : ℕ → Bool) (rank stamp : ℕ → ℕ) (count : ℕ) → Answers member rank stamp count (first member rank stamp count)
unfolding first
answers member rank stamp zero = λ t h. absurd (omega arith)
answers member rank stamp (suc t) = either member rank stamp t (first member rank stamp t) (member t) refl (answers member rank stamp t)

only : (member : ℕ → Bool) (rank stamp : ℕ → ℕ) (count t : ℕ) (o : Option ℕ) → StampsDiffer member stamp count → IsFirst member rank stamp count t → Answers member rank stamp count o → o ≡ Some t
only member rank stamp count t None d f a = let no = a t f.below in let yes = f.is_member in cc
only member rank stamp count t (Some x) d f a =
    let same : stamp x ≡ stamp t = tied (rank x) (stamp x) (rank t) (stamp t) (f.leads x a.below a.is_member) (a.leads t f.below f.is_member) in
    ap Some (d x t a.below f.below a.is_member f.is_member same)

none : (member : ℕ → Bool) (rank stamp : ℕ → ℕ) (count : ℕ) (o : Option ℕ) → NoMember member count → Answers member rank stamp count o → o ≡ None
none member rank stamp count None n a = refl
none member rank stamp count (Some x) n a = let no = n x a.below in let yes = a.is_member in cc

pub always_finds_first : AlwaysFindsFirst
always_finds_first member rank stamp count =
    let a = answers member rank stamp count in record {
      found = λ t e. subst (λ (o : Option ℕ). Answers member rank stamp count o) e a;
      none_found = λ e. subst (λ (o : Option ℕ). Answers member rank stamp count o) e a;
      finds = λ d t f. only member rank stamp count t (first member rank stamp count) d f a;
      finds_none = λ n. none member rank stamp count (first member rank stamp count) n a;
    }
