-- The table's order is that of the numbers.
use Rattle.std.proofs.Common.{◌≡◌, ℕ, ◌<◌, List, [], ◌∷◌, Bool, true, false, Some, None, ◌⊎◌, inl, inr, refl, ap, sym, ◌∙◌, arith}
use Rattle.std.specs.Prelude.{◌-◌, zero, suc, slice_get, if◌then◌else◌}
use Rattle.evm_model.specs.Refusals.{number_of}
use Rattle.evm_model.specs.declared.refusal.Refusal.{Refusal}
use Rattle.evm_model.specs.declared.refusal.Refusal.TheVariants.{Full, NoSuchCpu, NoSuchLine, NotStopped, NoTask, BadAddress, BadRegister, NoSlot, NoBreakpoint, BadSize, NoMemory, Started, PortsOut, SeatsOut}
use Rattle.evm_model.specs.Refusals.{board_refusal, board_refusals, first_that, refusal}
use Rattle.evm_model.specs.State.{State}
use Rattle.evm_model.specs.Event.{Event}
use Rattle.law_runs.specs.Least.{is_reason, AlwaysTellsLeast}

-- a list's numbers rise, from above one on
abbrev Rises : ℕ → List Refusal → Type 0
Rises n [] = Unit {0}
Rises n (r ∷ rs) = (n < number_of r) × Rises (number_of r) rs

abbrev Among : Refusal → List Refusal → Type 0
Among q [] = ⊥
Among q (r ∷ rs) = (q ≡ r) ⊎ Among q rs

above : (n : ℕ) (q : Refusal) (rs : List Refusal) → Rises n rs → Among q rs → n < number_of q
above n q [] h m = absurd m
above n q (r ∷ rs) h m = elim m [
  | inl same ↦ rw same h.0
  | inr rest ↦ omega (arith, h.0, above (number_of r) q rs h.1 rest)
]

record Found (test : Refusal → Bool) (rs : List Refusal) (r : Refusal) : Type 0 where
  holds : test r ≡ true
  least : (q : Refusal) → Among q rs → number_of q < number_of r → test q ≡ false

found : (test : Refusal → Bool) (n : ℕ) (rs : List Refusal) (r : Refusal) → Rises n rs → first_that test rs ≡ Some r → Found test rs r
found test n [] r h e = cc
found test n (x ∷ rs) r h e = either (test x) refl e (λ f. found test (number_of x) rs r h.1 f)
  where
    either : (b : Bool) → test x ≡ b → (if b then Some x else first_that test rs) ≡ Some r → (first_that test rs ≡ Some r → Found test rs r) → Found test (x ∷ rs) r
    either true t e rest = let same : x ≡ r = cc in record {
      holds = rw (← same) t;
      least = λ q m low. elim m [
        | inl at ↦ let number : number_of q ≡ number_of r = ap number_of (at ∙ same) in absurd (omega arith)
        | inr later ↦ let number : number_of x ≡ number_of r = ap number_of same in absurd (omega (arith, above (number_of x) q rs h.1 later))
      ];
    }
    either false t e rest = let g = rest e in record {
      holds = g.holds;
      least = λ q m low. elim m [
        | inl at ↦ rw at t
        | inr later ↦ g.least q later low
      ];
    }

none_found : (test : Refusal → Bool) (rs : List Refusal) (q : Refusal) → first_that test rs ≡ None → Among q rs → test q ≡ false
none_found test [] q e m = absurd m
none_found test (x ∷ rs) q e m = either (test x) refl e (λ f later. none_found test rs q f later)
  where
    either : (b : Bool) → test x ≡ b → (if b then Some x else first_that test rs) ≡ None → (first_that test rs ≡ None → Among q rs → test q ≡ false) → test q ≡ false
    either true t e rest = cc
    either false t e rest = elim m [
      | inl at ↦ rw at t
      | inr later ↦ rest e later
    ]

finds : (test : Refusal → Bool) (n : ℕ) (rs : List Refusal) (r : Refusal) → Rises n rs → Among r rs → test r ≡ true → ((q : Refusal) → number_of q < number_of r → test q ≡ false)
    → first_that test rs ≡ Some r
finds test n [] r h m t l = absurd m
finds test n (x ∷ rs) r h m t l = elim m [
  | inl at ↦ let here : test x ≡ true = rw (← at) t in rw here (ap Some (sym at))
  | inr rest ↦ let low : test x ≡ false = l x (above (number_of x) r rs h.1 rest) in rw low (finds test (number_of x) rs r h.1 rest t l)
]

finds_none : (test : Refusal → Bool) (rs : List Refusal) → ((q : Refusal) → test q ≡ false) → first_that test rs ≡ None
finds_none test [] l = refl
finds_none test (x ∷ rs) l = rw (l x) (finds_none test rs l)

-- ---- the table
abbrev reasons : List Refusal
reasons = Full ∷ board_refusals

rising : Rises 0 reasons
rising = (omega arith, (omega arith, (omega arith, (omega arith, (omega arith, (omega arith, (omega arith, (omega arith, (omega arith, tt)))))))))

-- each stands in the table at the place of its number, the first at 0
at_place : (i : ℕ) (q : Refusal) (rs : List Refusal) → slice_get rs i ≡ Some q → Among q rs
at_place i q [] h = cc
at_place zero q (r ∷ rs) h = inl cc
at_place (suc i) q (r ∷ rs) h = inr (at_place i q rs h)

stands : (q : Refusal) → slice_get reasons (number_of q - 1) ≡ Some q → Among q reasons
stands q h = at_place (number_of q - 1) q reasons h

-- what is a reason stands in the table
among : (event : Event) (s : State) (q : Refusal) → is_reason event s q ≡ true → Among q reasons
among event s Full h = stands Full refl
among event s NoSuchCpu h = stands NoSuchCpu refl
among event s NoSuchLine h = stands NoSuchLine refl
among event s NotStopped h = stands NotStopped refl
among event s NoTask h = stands NoTask refl
among event s BadAddress h = stands BadAddress refl
among event s BadRegister h = stands BadRegister refl
among event s NoSlot h = stands NoSlot refl
among event s NoBreakpoint h = stands NoBreakpoint refl
among event s BadSize h = cc
among event s NoMemory h = cc
among event s Started h = cc
among event s PortsOut h = cc
among event s SeatsOut h = cc

table : (event : Event) (s : State) → refusal event s ≡ first_that (is_reason event s) reasons
unfolding board_refusal
table event s = refl

not_true : (b : Bool) → (b ≡ true → b ≡ false) → b ≡ false
not_true true h = h refl
not_true false h = refl

pub always_tells_least : AlwaysTellsLeast
always_tells_least event s =
    let test : Refusal → Bool = is_reason event s in record {
      told = λ r e. let f : Found test reasons r = found test 0 reasons r rising (sym (table event s) ∙ e) in record {
        holds = f.holds;
        least = λ q low. not_true (test q) (λ h. f.least q (among event s q h) low);
      };
      tells = λ r l. table event s ∙ finds test 0 reasons r rising (among event s r l.holds) l.holds l.least;
      accepted = λ e q. not_true (test q) (λ h. none_found test reasons q (sym (table event s) ∙ e) (among event s q h));
      accepts = λ h. table event s ∙ finds_none test reasons h;
    }
