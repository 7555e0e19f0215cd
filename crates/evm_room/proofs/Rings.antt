-- A ring that is filled from two lists.
use Rattle.std.proofs.Common.{◌≡◌, ℕ, ◌+◌, ◌-◌, ◌≤◌, List, [], ◌++◌, length, take, min, sym, ap, ◌∙◌, refl, arith}
use Rattle.std.proofs.lemmas.List.{take_all, length-append}
use Rattle.std.proofs.Math.Nat.{min-eq_left}

-- both fit
pub filled : {X : Type 0} (first second items : List X) (capacity m n : ℕ) → first ++ second ≡ items → length items ≤ capacity
    → m ≡ min (length first) (capacity - 0) → n ≡ min (length second) (capacity - length (take m first)) → take m first ++ take n second ≡ items
filled first second items capacity m n whole fits counted more =
    let total : length first + length second ≤ capacity = omega (arith, simp length-append at (ap length whole), fits) in
    let all : m ≡ length first = counted ∙ min-eq_left (omega arith) in
    let one : take m first ≡ first = take_all m first (omega arith) in
    let rest : n ≡ length second = rw one at more ∙ min-eq_left (omega arith) in
    let two : take n second ≡ second = take_all n second (omega arith) in
    rw (one, two) whole
