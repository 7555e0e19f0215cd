-- The first program header that is outside, one by one.
use Rattle.std.proofs.Common.{◌≡◌, ◌∙◌, ℕ, ◌+◌, ◌-◌, ◌<◌, ◌≤◌, suc, zero, Bool, true, false, ◌||◌, ◌&&◌, cond, List, length, Option, Some, None, is_some, refl, ap, arith}
use Rattle.std.specs.List.{list_any}
use Rattle.evm_elf.specs.declared.detail.ImageDetail.{ImageDetail}
use Rattle.evm_elf.specs.declared.header.Header.{Header}
use Rattle.evm_elf.specs.Fields.{headers_from, program_header}
use Rattle.evm_elf.specs.Faults.{is_load, passes_end, leaves_range, is_outside}
use Rattle.evm_elf.specs.Details.{outside_of, outside_at, first_image_detail, first_outside}

one_more : (file : List ℕ) (i n : ℕ) → first_outside file i (suc n) ≡ first_image_detail (outside_at (length file) i (program_header file i)) (first_outside file (i + 1) n)
unfolding first_outside
one_more file i n = refl

pub outside_more : (file : List ℕ) (i n : ℕ) → i < n
    → first_outside file i (n - i) ≡ first_image_detail (outside_at (length file) i (program_header file i)) (first_outside file (i + 1) (n - (i + 1)))
outside_more file i n h = let e : n - i ≡ suc (n - (i + 1)) = omega arith in ap (first_outside file i) e ∙ one_more file i (n - (i + 1))

pub outside_done : (file : List ℕ) (i n : ℕ) → n ≤ i → first_outside file i (n - i) ≡ None
unfolding first_outside
outside_done file i n h = let e : n - i ≡ zero = omega arith in rw e refl

-- ---- a detail is found if and only if a segment is outside

two_tests : (p q : Bool) (a b : ImageDetail) → is_some (cond p (Some a) (cond q (Some b) None)) ≡ (p || q)
two_tests true q a b = refl
two_tests false true a b = refl
two_tests false false a b = refl

if_load : (t p q : Bool) (a b : ImageDetail) → is_some (cond t (cond p (Some a) (cond q (Some b) None)) None) ≡ (t && (p || q))
if_load true p q a b = two_tests p q a b
if_load false p q a b = refl

found_at : (len i : ℕ) (o : Option Header) → is_some (outside_at len i o) ≡ is_outside len o
found_at len i None = refl
found_at len i (Some h) = if_load (is_load h) (passes_end len h) (leaves_range h) _ _

either_found : (o next : Option ImageDetail) (t rest : Bool) → is_some o ≡ t → is_some next ≡ rest → is_some (first_image_detail o next) ≡ (t || rest)
either_found (Some detail) next true rest h k = refl
either_found (Some detail) next false rest h k = cc
either_found None next true rest h k = cc
either_found None next false rest h k = k

pub outside_found : (file : List ℕ) (i n : ℕ) → is_some (first_outside file i n) ≡ list_any (is_outside (length file)) (headers_from file i n)
unfolding first_outside
outside_found file i zero = refl
outside_found file i (suc n) = either_found _ _ _ _ (found_at (length file) i (program_header file i)) (outside_found file (i + 1) n)
