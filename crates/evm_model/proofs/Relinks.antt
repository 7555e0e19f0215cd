-- Links that lead elsewhere: something falls along each still.
use Rattle.std.proofs.Common.{◌≡◌, ℕ, zero, suc, ◌+◌, ◌<◌, ◌≤◌, ◌⊎◌, Option, Some, None, Bool, true, false, refl, ap, sym, ◌∙◌, inl, inr, arith}
use Rattle.std.specs.Prelude.{◌==◌, if◌then◌else◌}
use Rattle.std.proofs.lemmas.Bool.Decides.{eqb_tells}
use Rattle.evm_model.specs.Boosts.{reaches, with_link, HasHeight, Falls}
use Rattle.evm_model.proofs.Links.{link-keeps, fewer-keeps}

-- a limit may be greater
pub limit-more : (boosts : ℕ → Option ℕ) (limit more : ℕ) → limit ≤ more → HasHeight boosts limit → HasHeight boosts more
limit-more boosts limit more less h = record { height = h.height; low = λ t. let low = h.low t in omega (arith, low, less); falls = h.falls }

-- where nobody boosts, nothing has to fall
pub nobody-falls : (boosts : ℕ → Option ℕ) (limit : ℕ) → ((u : ℕ) → boosts u ≡ None) → HasHeight boosts limit
nobody-falls boosts limit none = record { height = λ t. 0; low = λ t. omega arith; falls = λ u t e. let no = none u in cc }

-- ---- links into a task that boosts nobody
abbrev under : Bool → ℕ → ℕ
under b n = if b then 0 else n + 1

free-falls : (boosts next : ℕ → Option ℕ) (limit t u v : ℕ) (b d : Bool) (h : HasHeight boosts limit) → next t ≡ None → ((v ≡ t) ⊎ (boosts u ≡ Some v)) → next u ≡ Some v
    → (u == t) ≡ b → (v == t) ≡ d → under d (h.height v) < under b (h.height u)
free-falls boosts next limit t u v true d h free to e here there = elim (eqb_tells u t) [
  | inl g ↦ let no : next u ≡ None = ap next g.1 ∙ free in cc
  | inr g ↦ let no : true ≡ false = sym here ∙ g.0 in cc
]
free-falls boosts next limit t u v false true h free to e here there = omega arith
free-falls boosts next limit t u v false false h free to e here there = elim to [
  | inl same ↦ elim (eqb_tells v t) [
    | inl g ↦ let no : true ≡ false = sym g.0 ∙ there in cc
    | inr g ↦ absurd (g.1 same)
  ]
  | inr was ↦ let fall = h.falls u v was in omega (arith, fall)
]

pub free-keeps : (boosts next : ℕ → Option ℕ) (limit t : ℕ) (h : HasHeight boosts limit) → next t ≡ None → ((u v : ℕ) → next u ≡ Some v → (v ≡ t) ⊎ (boosts u ≡ Some v)) → Falls next
free-keeps boosts next limit t h free to = record {
  height = λ u. under (u == t) (h.height u);
  falls = λ u v e. free-falls boosts next limit t u v (u == t) (v == t) h free (to u v e) e refl refl;
}

-- ---- one task's link
-- the way to t is the same by links that lead elsewhere from t alone
way-if : (b : Bool) (p q : Bool) → (b ≡ false → p ≡ q) → (if b then true else p) ≡ (if b then true else q)
way-if true p q h = refl
way-if false p q h = h refl

way-same : (boosts next : ℕ → Option ℕ) (t links : ℕ) (o : Option ℕ) → ((x : ℕ) → (x == t) ≡ false → next x ≡ boosts x) → reaches next t links o ≡ reaches boosts t links o
unfolding reaches
way-same boosts next t links None same = refl
way-same boosts next t zero (Some u) same = refl
way-same boosts next t (suc links) (Some u) same =
    way-if (u == t) (reaches next t links (next u)) (reaches boosts t links (boosts u))
    (λ other. ap (reaches next t links) (same u other) ∙ way-same boosts next t links (boosts u) same)

-- a task's own link left out
abbrev without : (ℕ → Option ℕ) → ℕ → ℕ → Option ℕ
without boosts t x = if x == t then None else boosts x

left-out : (boosts : ℕ → Option ℕ) (t x v : ℕ) (b : Bool) → (if b then None else boosts x) ≡ Some v → boosts x ≡ Some v
left-out boosts t x v true e = cc
left-out boosts t x v false e = e

left-same : (boosts : ℕ → Option ℕ) (x : ℕ) (b : Bool) → b ≡ false → (if b then None else boosts x) ≡ boosts x
left-same boosts x true e = cc
left-same boosts x false e = refl

link-same : (boosts next : ℕ → Option ℕ) (t u x : ℕ) (b : Bool) → (x == t) ≡ b → ((x : ℕ) → (x == t) ≡ false → next x ≡ boosts x) → next t ≡ Some u
    → next x ≡ (if b then Some u else (if b then None else boosts x))
link-same boosts next t u x true e same link = elim (eqb_tells x t) [
  | inl g ↦ ap next g.1 ∙ link
  | inr g ↦ let no : true ≡ false = sym e ∙ g.0 in cc
]
link-same boosts next t u x false e same link = same x e

falls-same : (boosts next : ℕ → Option ℕ) → ((x : ℕ) → next x ≡ boosts x) → Falls boosts → Falls next
falls-same boosts next same f = record { height = f.height; falls = λ u t e. f.falls u t (sym (same u) ∙ e) }

pub relink-keeps : (boosts next : ℕ → Option ℕ) (limit t u : ℕ) (h : HasHeight boosts limit) → ((x : ℕ) → (x == t) ≡ false → next x ≡ boosts x) → next t ≡ Some u
    → reaches next t limit (Some u) ≡ false → Falls next
relink-keeps boosts next limit t u h same link away =
    let part : HasHeight (without boosts t) limit = fewer-keeps boosts (without boosts t) limit h (λ x v e. left-out boosts t x v (x == t) e) in
    let apart : reaches (without boosts t) t limit (Some u) ≡ false =
    way-same next (without boosts t) t limit (Some u) (λ x other. left-same boosts x (x == t) other ∙ sym (same x other)) ∙ away in
    falls-same (with_link (without boosts t) t u) next (λ x. link-same boosts next t u x (x == t) refl same link)
    (link-keeps (without boosts t) limit t u part apart)

-- ---- a way by more links
further-if : (b : Bool) (p q : Bool) → (p ≡ true → q ≡ true) → (if b then true else p) ≡ true → (if b then true else q) ≡ true
further-if true p q h e = refl
further-if false p q h e = h e

-- a way that some of the links go, all of them go
pub way-more : (fewer boosts : ℕ → Option ℕ) (t links : ℕ) (o p : Option ℕ) → ((u v : ℕ) → fewer u ≡ Some v → boosts u ≡ Some v) → ((v : ℕ) → o ≡ Some v → p ≡ Some v)
    → reaches fewer t links o ≡ true → reaches boosts t links p ≡ true
unfolding reaches
way-more fewer boosts t zero None p part at e = cc
way-more fewer boosts t (suc links) None p part at e = cc
way-more fewer boosts t zero (Some u) p part at e = let is : p ≡ Some u = at u refl in rw is e
way-more fewer boosts t (suc links) (Some u) p part at e =
    let is : p ≡ Some u = at u refl in
    rw is (further-if (u == t) (reaches fewer t links (fewer u)) (reaches boosts t links (boosts u)) (way-more fewer boosts t links (fewer u) (boosts u) part (part u)) e)
