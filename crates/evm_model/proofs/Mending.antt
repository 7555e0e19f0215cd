-- Ranks are mended by a walk: from a task that has another rank on to the one that it boosts.
use Rattle.std.proofs.Common.{◌≡◌, ℕ, suc, ◌+◌, ◌<◌, ◌≤◌, Option, Some, None, Bool, true, false, refl, ap, sym, ◌∙◌, inl, inr, arith}
use Rattle.std.specs.Prelude.{◌==◌, if◌then◌else◌}
use Rattle.std.proofs.lemmas.Bool.Decides.{eqb_tells}
use Rattle.evm_model.specs.Boosts.{is_number, greatest, rank_after, walk, IsSettledRank, HasHeight}
use Rattle.evm_model.specs.Mending.{no_task, with_task, IsSettledBut}
use Rattle.evm_model.proofs.Greatest.{greatest-booster, greatest-first, greatest-same, boosts-so}
use Rattle.evm_model.proofs.Least.{greatest-is, greatest-least, greatest-links}
use Rattle.evm_model.proofs.Rounds.{settled_is_one, rounds_settle}
use Rattle.evm_model.proofs.Walks.{walks_end}

-- ---- none left
pub none-left : (boosts : ℕ → Option ℕ) (own : ℕ → ℕ) (count : ℕ) (rank : ℕ → ℕ) → IsSettledBut no_task boosts own count rank → IsSettledRank boosts own count rank
none-left boosts own count rank s t less = s.settled t less refl

pub settled-are : (boosts : ℕ → Option ℕ) (own : ℕ → ℕ) (count limit : ℕ) (rank : ℕ → ℕ) → HasHeight boosts limit → IsSettledBut no_task boosts own count rank
    → (t : ℕ) → t < count → rank t ≡ rank_after boosts own count limit t
settled-are boosts own count limit rank h s = settled_is_one boosts own count limit rank h (none-left boosts own count rank s)

-- the ranks of the rounds are settled, and so are others that are equal below the count
pub are-settled : (boosts : ℕ → Option ℕ) (own : ℕ → ℕ) (count limit : ℕ) (rank : ℕ → ℕ) → HasHeight boosts limit
    → ((t : ℕ) → t < count → rank t ≡ rank_after boosts own count limit t) → IsSettledRank boosts own count rank
are-settled boosts own count limit rank h same t less =
    same t less
    ∙ rounds_settle boosts own count limit h t less
    ∙ greatest-same boosts (rank_after boosts own count limit) rank t (own t) count (λ u below e. sym (same u below))

-- ---- a task is mended
-- its rank is right already
in-rest : (rest : ℕ → Bool) (t u : ℕ) (b : Bool) → (u ≡ t → ⊥) → (t == u) ≡ b → rest u ≡ false → (if b then true else rest u) ≡ false
in-rest rest t u true other e out = elim (eqb_tells t u) [
  | inl g ↦ absurd (other (sym g.1))
  | inr g ↦ let no : true ≡ false = sym e ∙ g.0 in cc
]
in-rest rest t u false other e out = out

pub mended-here : (rest : ℕ → Bool) (boosts : ℕ → Option ℕ) (own : ℕ → ℕ) (count t : ℕ) (rank : ℕ → ℕ) → rank t ≡ greatest boosts rank t (own t) count
    → IsSettledBut (with_task (Some t) rest) boosts own count rank → IsSettledBut rest boosts own count rank
mended-here rest boosts own count t rank right s = record {
  settled = λ u less out. elim (eqb_tells u t) [
    | inl g ↦ rw g.1 right
    | inr g ↦ s.settled u less (in-rest rest t u (t == u) g.1 refl out)
  ];
}

-- it is set right: then the task that it boosts is left
not-there : (o : Option ℕ) (rest : ℕ → Bool) (u : ℕ) → (if is_number o u then true else rest u) ≡ false → (o ≡ Some u → ⊥)
not-there o rest u out is = let on = boosts-so o u is in let no : (if is_number o u then true else rest u) ≡ true = rw on refl in cc

out-rest : (b : Bool) (c : Bool) → (if b then true else c) ≡ false → c ≡ false
out-rest true c e = cc
out-rest false c e = e

pub mended-on : (rest : ℕ → Bool) (boosts : ℕ → Option ℕ) (own : ℕ → ℕ) (count t : ℕ) (rank next : ℕ → ℕ) → (boosts t ≡ Some t → ⊥)
    → next t ≡ greatest boosts rank t (own t) count → ((u : ℕ) → (u ≡ t → ⊥) → next u ≡ rank u)
    → IsSettledBut (with_task (Some t) rest) boosts own count rank → IsSettledBut (with_task (boosts t) rest) boosts own count next
mended-on rest boosts own count t rank next loop here elsewhere s = record {
  settled = λ u less out. elim (eqb_tells u t) [
    | inl g ↦ rw g.1 (here ∙ greatest-same boosts rank next t (own t) count (λ v below e. sym (elsewhere v (λ is. loop (ap boosts (sym is) ∙ e)))))
    | inr g ↦
        elsewhere u g.1
        ∙ s.settled u less (in-rest rest t u (t == u) g.1 refl (out-rest (is_number (boosts t) u) (rest u) out))
        ∙ greatest-same boosts rank next u (own u) count (λ v below e. sym (elsewhere v (λ is. not-there (boosts t) rest u out (ap boosts (sym is) ∙ e))))
  ];
}

-- no task is left to be looked at
pub mended-none : (rest : ℕ → Bool) (boosts : ℕ → Option ℕ) (own : ℕ → ℕ) (count : ℕ) (rank : ℕ → ℕ) → IsSettledBut (with_task None rest) boosts own count rank → IsSettledBut rest boosts own count rank
mended-none rest boosts own count rank s = record { settled = s.settled }

-- ---- the walk ends
pub walk-more : (boosts : ℕ → Option ℕ) (links t u : ℕ) → walk boosts links t ≡ Some u → walk boosts (links + 1) t ≡ boosts u
unfolding walk
walk-more boosts links t u e = let more : links + 1 ≡ suc links = omega arith in rw (more, e) refl

pub walk-none : (boosts : ℕ → Option ℕ) (t : ℕ) → walk boosts 0 t ≡ Some t
unfolding walk
walk-none boosts t = refl

pub walk-over : (boosts : ℕ → Option ℕ) (limit t u : ℕ) → HasHeight boosts limit → walk boosts (limit + 1) t ≡ Some u → ⊥
walk-over boosts limit t u h e = let more : limit + 1 ≡ suc limit = omega arith in let over : walk boosts (limit + 1) t ≡ None = rw more (walks_end boosts limit h t) in cc

pub no-loop : (boosts : ℕ → Option ℕ) (limit t : ℕ) → HasHeight boosts limit → boosts t ≡ Some t → ⊥
no-loop boosts limit t h e = let fall = h.falls t t e in omega (arith, fall)

-- ---- what changes leave: other own ranks or links of the rest alone
pub changed-but : (rest : ℕ → Bool) (boosts other : ℕ → Option ℕ) (own owns : ℕ → ℕ) (count : ℕ) (rank : ℕ → ℕ)
    → ((t : ℕ) → t < count → rest t ≡ false → owns t ≡ own t)
    → ((t u : ℕ) → t < count → u < count → rest t ≡ false → is_number (boosts u) t ≡ is_number (other u) t)
    → IsSettledRank boosts own count rank → IsSettledBut rest other owns count rank
changed-but rest boosts other own owns count rank same links s = record {
  settled = λ t less out.
      s t less
      ∙ greatest-links boosts other rank t (own t) count (λ u below. links t u less below out)
      ∙ ap (λ (first : ℕ). greatest other rank t first count) (sym (same t less out));
}

-- ---- what a change leaves at one task
-- task t boosts it now, and ranks no higher
pub link-covered : (boosts other : ℕ → Option ℕ) (rank : ℕ → ℕ) (t u first n : ℕ) → ((x : ℕ) → (x ≡ t → ⊥) → other x ≡ boosts x) → other t ≡ Some u → rank t ≤ rank u
    → rank u ≡ greatest boosts rank u first n → rank u ≡ greatest other rank u first n
link-covered boosts other rank t u first n same link low was =
    greatest-is other rank u first n (rank u)
    (let up = greatest-first boosts rank u first n in omega (arith, up, was))
    (λ x less e. elim (eqb_tells x t) [
      | inl g ↦ rw g.1 low
      | inr g ↦ let up = greatest-booster boosts rank u first n x less (sym (same x g.1) ∙ e) in omega (arith, up, was)
    ])
    (let least =
    greatest-least boosts rank u first n (greatest other rank u first n) (greatest-first other rank u first n)
    (λ x less e. greatest-booster other rank u first n x less (elim (eqb_tells x t) [ inl g ↦ ap other g.1 ∙ link | inr g ↦ same x g.1 ∙ e ])) in
    omega (arith, least, was))

-- fewer boost it, its own rank is no greater, and it ranks no higher than that
pub link-fewer : (boosts other : ℕ → Option ℕ) (rank : ℕ → ℕ) (t first own n : ℕ) → ((x : ℕ) → other x ≡ Some t → boosts x ≡ Some t) → own ≤ first → rank t ≤ own
    → rank t ≡ greatest boosts rank t first n → rank t ≡ greatest other rank t own n
link-fewer boosts other rank t first own n part less low was =
    greatest-is other rank t own n (rank t)
    (let up = greatest-first boosts rank t first n in omega (arith, up, was, less))
    (λ x below e. let up = greatest-booster boosts rank t first n x below (part x e) in omega (arith, up, was))
    (let up = greatest-first other rank t own n in omega (arith, up, low))
