-- A link more keeps that something falls, where the way from its end doesn't come back to its start.
use Rattle.std.proofs.Common.{◌≡◌, ℕ, zero, suc, ◌+◌, ◌<◌, ◌≤◌, Option, Some, None, Bool, true, false, refl, ap, sym, ◌∙◌, inl, inr, arith, eq-eqb}
use Rattle.std.specs.Prelude.{◌==◌, if◌then◌else◌}
use Rattle.std.proofs.lemmas.Bool.Decides.{eqb_tells}
use Rattle.evm_model.specs.Boosts.{reaches, with_link, HasHeight, Falls}

-- ---- the way from a task, with as many links as its height at least
if-itself : (b : Bool) → (if b then true else false) ≡ b
if-itself true = refl
if-itself false = refl

reaches-none : (boosts : ℕ → Option ℕ) (t links : ℕ) → reaches boosts t links None ≡ false
unfolding reaches
reaches-none boosts t zero = refl
reaches-none boosts t (suc links) = refl

reaches-last : (boosts : ℕ → Option ℕ) (t u : ℕ) (o : Option ℕ) → boosts u ≡ o → ((v : ℕ) → o ≡ Some v → ⊥) → reaches boosts t 1 (Some u) ≡ reaches boosts t 0 (Some u)
unfolding reaches
reaches-last boosts t u None e h = rw e (if-itself (u == t))
reaches-last boosts t u (Some v) e h = absurd (h v refl)

reaches-on : (boosts : ℕ → Option ℕ) (t links u : ℕ) → reaches boosts t (suc links) (Some u) ≡ (if u == t then true else reaches boosts t links (boosts u))
unfolding reaches
reaches-on boosts t links u = refl

-- a way of more links reaches nothing else
reaches-more : (boosts : ℕ → Option ℕ) (limit t links u : ℕ) (o : Option ℕ) (h : HasHeight boosts limit) → boosts u ≡ o → h.height u ≤ links → reaches boosts t (suc links) (Some u) ≡ reaches boosts t links (Some u)
reaches-more boosts limit t zero u o h e few = reaches-last boosts t u o e (λ v is. let fall = h.falls u v (e ∙ is) in absurd (omega (arith, few)))
reaches-more boosts limit t (suc links) u None h e few =
    reaches-on boosts t (suc links) u
    ∙ ap (λ (b : Bool). if u == t then true else b) (rw e (reaches-none boosts t (suc links) ∙ sym (reaches-none boosts t links)))
    ∙ sym (reaches-on boosts t links u)
reaches-more boosts limit t (suc links) u (Some v) h e few =
    let fall = h.falls u v e in
    reaches-on boosts t (suc links) u
    ∙ ap (λ (b : Bool). if u == t then true else b) (rw e (reaches-more boosts limit t links v (boosts v) h refl (omega (arith, few))))
    ∙ sym (reaches-on boosts t links u)

-- the way from a task that isn't t reaches t where the way from the next one does
reaches-next : (boosts : ℕ → Option ℕ) (limit t links u v : ℕ) (h : HasHeight boosts limit) → boosts u ≡ Some v → (u == t) ≡ false → h.height u ≤ links → reaches boosts t links (Some u) ≡ reaches boosts t links (Some v)
reaches-next boosts limit t zero u v h e other few = let fall = h.falls u v e in absurd (omega (arith, few))
reaches-next boosts limit t (suc links) u v h e other few =
    let fall = h.falls u v e in
    reaches-on boosts t links u ∙ rw (other, e) (sym (reaches-more boosts limit t links v (boosts v) h refl (omega (arith, few))))

reaches-here : (boosts : ℕ → Option ℕ) (t links : ℕ) → reaches boosts t links (Some t) ≡ true
unfolding reaches
reaches-here boosts t zero = eq-eqb t t refl
reaches-here boosts t (suc links) = rw (eq-eqb t t refl) refl

-- ---- a link more
-- all whose way reaches t are lifted above u
abbrev lift : Bool → ℕ → ℕ
lift b n = if b then n + 1 else 0

link-falls : (boosts : ℕ → Option ℕ) (limit t u x y : ℕ) (b : Bool) (h : HasHeight boosts limit) → reaches boosts t limit (Some u) ≡ false → (x == t) ≡ b → (if b then Some u else boosts x) ≡ Some y
    → h.height y + lift (reaches boosts t limit (Some y)) (h.height u) < h.height x + lift (reaches boosts t limit (Some x)) (h.height u)
link-falls boosts limit t u x y true h away at e =
    let is : u ≡ y = cc in
    let start : x ≡ t = elim (eqb_tells x t) [ inl g ↦ g.1 | inr g ↦ let no : true ≡ false = sym at ∙ g.0 in cc ] in
    rw (← is, start, away, reaches-here boosts t limit) (omega arith)
link-falls boosts limit t u x y false h away at e =
    let fall = h.falls x y e in
    rw (reaches-next boosts limit t limit x y h e at (h.low x)) (omega (arith, fall))

pub link-keeps : (boosts : ℕ → Option ℕ) (limit t u : ℕ) (h : HasHeight boosts limit) → reaches boosts t limit (Some u) ≡ false → Falls (with_link boosts t u)
link-keeps boosts limit t u h away = record {
  height = λ x. h.height x + lift (reaches boosts t limit (Some x)) (h.height u);
  falls = λ x y e. link-falls boosts limit t u x y (x == t) h away refl e;
}

-- ---- links fewer
pub fewer-keeps : (boosts fewer : ℕ → Option ℕ) (limit : ℕ) (h : HasHeight boosts limit) → ((u t : ℕ) → fewer u ≡ Some t → boosts u ≡ Some t) → HasHeight fewer limit
fewer-keeps boosts fewer limit h part = record { height = h.height; low = h.low; falls = λ u t e. h.falls u t (part u t e) }
