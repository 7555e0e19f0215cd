-- The sections from one number on, one by one.
use Rattle.std.proofs.Common.{◌≡◌, ℕ, ◌+◌, ◌-◌, ◌<◌, ◌≤◌, suc, zero, List, [], ◌∷◌, arith, refl}
use Rattle.text_symbols.specs.Sections.{section, sections_from}

pub sections_more : (file : List ℕ) (i n : ℕ) → i < n → sections_from file i (n - i) ≡ section file i ∷ sections_from file (i + 1) (n - (i + 1))
sections_more file i n h = let e : n - i ≡ suc (n - (i + 1)) = omega arith in rw e refl

pub sections_done : (file : List ℕ) (i n : ℕ) → n ≤ i → sections_from file i (n - i) ≡ []
sections_done file i n h = let e : n - i ≡ zero = omega arith in rw e refl
