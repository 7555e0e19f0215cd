-- Setting a breakpoint and taking it away change no other.
use Rattle.std.proofs.Common.{◌≡◌, ℕ, List, [], ◌∷◌, ◌++◌, Bool, true, false, not, ◌||◌, cond, refl, ap, ◌∙◌, arith}
use Rattle.std.specs.Prelude.{◌==◌}
use Rattle.std.specs.List.{list_any}
use Rattle.std.proofs.lemmas.Bool.Decides.{nat_tests}
use Rattle.std.proofs.lemmas.List.Folds.{list_any-append}
use Rattle.evm_model.specs.Commands.{set_breakpoint, unset_breakpoint, is_set, without_breakpoint}
use Rattle.evm_model.specs.State.{Board}
use Rattle.law_runs.specs.Changes.{BreakpointChanges}

or_false : (b : Bool) → (b || false) ≡ b
or_false true = refl
or_false false = refl

or_true : (b : Bool) → (b || true) ≡ true
or_true true = refl
or_true false = refl

same_number : (n : ℕ) → (n == n) ≡ true
same_number n = grind (arith, nat_tests)

other_number : (m n : ℕ) → (n ≡ m → ⊥) → (m == n) ≡ false
other_number m n h = grind (arith, nat_tests)

neither : (a b : Bool) → (a || b) ≡ false → (a ≡ false) × (b ≡ false)
neither true b h = cc
neither false b h = (refl, h)

-- ---- set
with-here : (there : Bool) (address : ℕ) (set : List ℕ) → is_set set address ≡ there → is_set (cond there set (set ++ address ∷ [])) address ≡ true
with-here true address set e = e
with-here false address set e =
    list_any-append (λ a. a == address) set (address ∷ []) ∙ rw (same_number address) (or_true (is_set set address))

with-others : (there : Bool) (address other : ℕ) (set : List ℕ) → (other ≡ address → ⊥)
    → is_set (cond there set (set ++ address ∷ [])) other ≡ is_set set other
with-others true address other set h = refl
with-others false address other set h =
    list_any-append (λ a. a == other) set (address ∷ []) ∙ rw (other_number address other h) (or_false (is_set set other))

pub set-changes : (address : ℕ) (b : Board) → BreakpointChanges address true b (set_breakpoint address b)
unfolding set_breakpoint
set-changes address b = record {
  rest = refl;
  here = with-here (is_set b.breakpoints address) address b.breakpoints refl;
  others = λ other h. with-others (is_set b.breakpoints address) address other b.breakpoints h;
  already = λ e. rw e refl;
}

-- ---- taken away
any-cond : (p : ℕ → Bool) (test : Bool) (x : ℕ) (xs : List ℕ) → list_any p (cond test (x ∷ xs) xs) ≡ cond test (p x || list_any p xs) (list_any p xs)
any-cond p true x xs = refl
any-cond p false x xs = refl

none_of : (b : Bool) → cond (not b) (b || false) false ≡ false
none_of true = refl
none_of false = refl

without-here : (address : ℕ) (set : List ℕ) → is_set (without_breakpoint set address) address ≡ false
without-here address [] = refl
without-here address (x ∷ set) =
    any-cond (λ a. a == address) (not (x == address)) x (without_breakpoint set address)
    ∙ rw (without-here address set) (none_of (x == address))

drop_other : (here other rest : Bool) → (here ≡ true → other ≡ false) → cond (not here) (other || rest) rest ≡ (other || rest)
drop_other true other rest h = rw (h refl) refl
drop_other false other rest h = refl

without-others : (address other : ℕ) (set : List ℕ) → (other ≡ address → ⊥) → is_set (without_breakpoint set address) other ≡ is_set set other
without-others address other [] h = refl
without-others address other (x ∷ set) h =
    any-cond (λ a. a == other) (not (x == address)) x (without_breakpoint set address)
    ∙ rw (without-others address other set h)
    (drop_other (x == address) (x == other) (is_set set other)
    (λ e. let same : x ≡ address = grind (arith, nat_tests) in other_number x other (λ g. h (g ∙ same))))

without-none : (address : ℕ) (set : List ℕ) → is_set set address ≡ false → without_breakpoint set address ≡ set
without-none address [] e = refl
without-none address (x ∷ set) e =
    let parts = neither (x == address) (is_set set address) e in
    rw parts.0 (ap (λ (rest : List ℕ). x ∷ rest) (without-none address set parts.1))

pub unset-changes : (address : ℕ) (b : Board) → BreakpointChanges address false b (unset_breakpoint address b)
unfolding unset_breakpoint
unset-changes address b = record {
  rest = refl;
  here = without-here address b.breakpoints;
  others = λ other h. without-others address other b.breakpoints h;
  already = λ e. rw (without-none address b.breakpoints e) refl;
}
