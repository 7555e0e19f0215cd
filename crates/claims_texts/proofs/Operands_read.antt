-- What is read from the operands of li and la: numbers of 32 bits, and known labels. Registers are below 32 in every operand.
use Rattle.std.proofs.Common.{◌≡◌, ℕ, ◌≤◌, Bool, true, false, cond, List, [], ◌∷◌, Option, Some, None, Ok, Err, IfOk, IfSome, ℤ, pos, negsuc, ◌≤ℤ◌, bytes_eq, arith}
use Rattle.std.specs.List.{AllByRecursion}
use Rattle.std.proofs.lemmas.Int.{ints}
use Rattle.std.proofs.lemmas.Result.{IfOk-weaker}
use Rattle.evm_elf.specs.evm_asm_lexer.Names.{named}
use Rattle.evm_elf.specs.evm_asm_parser.declared.spot.Spot.{Spot}
use Rattle.evm_elf.specs.evm_asm_parser.Operands.{name_in, label_in, labelled, integer_in, Spots}
use Rattle.evm_elf.proofs.evm_asm.Operands_in_range.{IsFrom, integer_within as integer_from}

-- a number of 32 bits
abbrev pub IsInRange : ℤ → Type 0
IsInRange value = (negsuc 2147483647 ≤ℤ value) × (value ≤ℤ pos 2147483647)

in_range : (value : ℤ) → IsFrom 2147483648 2147483647 value → IsInRange value
in_range (pos n) h = (omega (arith, ints), omega (arith, ints))
in_range (negsuc n) h = (omega (arith, ints), omega (arith, ints))

-- a number that is read in the range of li
pub integer_within : (below above : ℕ) (text : List ℕ)
    → IfOk (integer_in below above text) (λ n. below ≡ 2147483648 → above ≡ 2147483647 → IsInRange n)
integer_within below above text =
    IfOk-weaker (integer_in below above text) (IsFrom below above) (λ n. below ≡ 2147483648 → above ≡ 2147483647 → IsInRange n)
    (λ n h e f. in_range n (rw (e, f) at h)) (integer_from below above text)

-- a place that a section can have
abbrev pub IsNear : Spot → Type 0
IsNear spot = spot.offset ≤ 8388608

abbrev pub AreNear : Spots → Type 0
AreNear labels = AllByRecursion (λ l. IsNear l.1) labels

picked : {A : Type 0} (P : A → Type 0) (t : Bool) (x : A) (others : Option A) → P x → IfSome others P → IfSome (cond t (Some x) others) P
picked P true x others h k = h
picked P false x others h k = k

named_near : (labels : Spots) (name : List ℕ) → AreNear labels → IfSome (named labels name) IsNear
named_near [] name h = tt
named_near (l ∷ labels) name h = picked IsNear (bytes_eq name l.0) l.1 (named labels name) h.0 (named_near labels name h.1)

pub label_near : (labels : Spots) (text : List ℕ) → AreNear labels → IfOk (label_in labels text) (λ o. IfSome o IsNear)
unfolding label_in
label_near labels text h = by_name (name_in text)
  where
    by_name : (o : Option (List ℕ)) → IfOk (labelled labels o) (λ o. IfSome o IsNear)
    by_name (Some name) = named_near labels name h
    by_name None = tt
