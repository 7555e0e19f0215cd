-- What is found is the nearest.
use Rattle.std.proofs.Common.{◌≡◌, ℕ, ◌≤◌, Bool, true, false, inl, inr, Option, Some, None, List, [], ◌∷◌, refl, ap, arith}
use Rattle.std.specs.List.{AllByRecursion}
use Rattle.std.specs.Prelude.{nat_le}
use Rattle.std.proofs.lemmas.Bool.{cases_Bool, and_parts, leb-true, leb-false, both_ways}
use Rattle.text_symbols.specs.declared.nearest.Search.{Search}
use Rattle.text_symbols.specs.declared.nearest.Search.TheVariants.{Typed, Labels}
use Rattle.text_symbols.specs.Named.{Named}
use Rattle.text_symbols.specs.Nearest.{passes, better, nearest, IsNearest, NonePasses, or_label, place_of, IsPlace}

-- this is the nearest, or none passes
abbrev pub NearestIs : (Named → Bool) → List Named → Option Named → Type 0
NearestIs test symbols None = NonePasses test symbols
NearestIs test symbols (Some s) = IsNearest test s symbols

-- each that passes has at most this value
abbrev pub AreWithin : (Named → Bool) → ℕ → List Named → Type 0
AreWithin test most symbols = AllByRecursion (λ u. test u ≡ true → u.value ≤ most) symbols

none_within : (test : Named → Bool) (most : ℕ) (symbols : List Named) → NonePasses test symbols → AreWithin test most symbols
none_within test most [] n = tt
none_within test most (s ∷ symbols) n = (λ t. absurd (both_ways _ n.0 t), none_within test most symbols n.1)

more_within : (test : Named → Bool) (few most : ℕ) (symbols : List Named) → few ≤ most → AreWithin test few symbols → AreWithin test most symbols
more_within test few most [] h w = tt
more_within test few most (s ∷ symbols) h w = (λ t. let below = w.0 t in omega arith, more_within test few most symbols h w.1)

nearest_within : (test : Named → Bool) (s : Named) (symbols : List Named) → IsNearest test s symbols → AreWithin test s.value symbols
nearest_within test s [] n = absurd n
nearest_within test s (t ∷ symbols) (inl h) = (λ passed. let e : t.value ≡ s.value = ap (λ u. u.value) h.0 in omega arith, h.2)
nearest_within test s (t ∷ symbols) (inr h) = (λ passed. let below = h.0 passed in omega arith, nearest_within test s symbols h.1)

one_more : (test : Named → Bool) (t : Named) (symbols : List Named) (best : Option Named) → test t ≡ true → NearestIs test symbols best → NearestIs test (t ∷ symbols) (better t best)
one_more test t symbols None h n = inl (refl, h, none_within test t.value symbols n)
one_more test t symbols (Some u) h n = elim (cases_Bool (nat_le u.value t.value)) [
  | inl q ↦ rw q (inl (refl, h, more_within test u.value t.value symbols (leb-true _ _ q) (nearest_within test u symbols n)))
  | inr q ↦ rw q (inr (λ passed. leb-false _ _ q, n))
]

one_less : (test : Named → Bool) (t : Named) (symbols : List Named) (best : Option Named) → test t ≡ false → NearestIs test symbols best → NearestIs test (t ∷ symbols) best
one_less test t symbols None h n = (h, n)
one_less test t symbols (Some u) h n = inr (λ passed. absurd (both_ways _ h passed), n)

pub nearest_is : (test : Named → Bool) (symbols : List Named) → NearestIs test symbols (nearest test symbols)
nearest_is test [] = tt
nearest_is test (t ∷ symbols) = elim (cases_Bool (test t)) [
  | inl h ↦ rw h (one_more test t symbols (nearest test symbols) h (nearest_is test symbols))
  | inr h ↦ rw h (one_less test t symbols (nearest test symbols) h (nearest_is test symbols))
]

passes_below : (search : Search) (address : ℕ) (s : Named) → passes search address s ≡ true → s.value ≤ address
passes_below Typed address s e = leb-true _ _ (and_parts _ _ e).0
passes_below Labels address s e = leb-true _ _ (and_parts _ _ e).0

nearest_below : (search : Search) (address : ℕ) (s : Named) (symbols : List Named) → IsNearest (passes search address) s symbols → s.value ≤ address
nearest_below search address s [] n = absurd n
nearest_below search address s (t ∷ symbols) (inl h) = passes_below search address s h.1
nearest_below search address s (t ∷ symbols) (inr h) = nearest_below search address s symbols h.1

place_by : (symbols : List Named) (address : ℕ) (typed label : Option Named) → NearestIs (passes Typed address) symbols typed → NearestIs (passes Labels address) symbols label → IsPlace symbols address (or_label typed label)
place_by symbols address (Some s) label n m = (inl n, nearest_below Typed address s symbols n)
place_by symbols address None (Some s) n m = (inr (n, m), nearest_below Labels address s symbols m)
place_by symbols address None None n m = (n, m)

pub place_is : (symbols : List Named) (address : ℕ) → IsPlace symbols address (place_of symbols address)
place_is symbols address = place_by symbols address _ _ (nearest_is (passes Typed address) symbols) (nearest_is (passes Labels address) symbols)
