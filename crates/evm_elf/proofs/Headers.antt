-- The program headers from one number on, one by one.
use Rattle.std.proofs.Common.{◌≡◌, ℕ, ◌+◌, ◌-◌, ◌<◌, ◌≤◌, suc, zero, Option, Some, None, List, [], ◌∷◌, ◌++◌, map, refl, sym, ◌∙◌, ap, append_assoc, arith}
use Rattle.std.specs.List.{filter_map, cons_option}
use Rattle.evm_elf.specs.declared.header.Header.{Header}
use Rattle.evm_elf.specs.Fields.{program_header, headers_from}

pub headers_more : (file : List ℕ) (i n : ℕ) → i < n → headers_from file i (n - i) ≡ program_header file i ∷ headers_from file (i + 1) (n - (i + 1))
headers_more file i n h = let e : n - i ≡ suc (n - (i + 1)) = omega arith in rw e refl

pub headers_done : (file : List ℕ) (i n : ℕ) → n ≤ i → headers_from file i (n - i) ≡ []
headers_done file i n h = let e : n - i ≡ zero = omega arith in rw e refl

-- what is found in one more header
step : {X : Type 0} (f : Option Header → Option X) → (file : List ℕ) (i n : ℕ) → i < n → filter_map f (headers_from file i (n - i)) ≡ cons_option (f (program_header file i)) (filter_map f (headers_from file (i + 1) (n - (i + 1))))
step f file i n h = ap (filter_map f) (headers_more file i n h)

-- the same for what is made of the finds
pub made_some : {X Y : Type 0} (f : Option Header → Option X) (make : X → Y) → (all made : List Y) (file : List ℕ) (i n : ℕ) (x : X) → i < n → all ≡ made ++ map make (filter_map f (headers_from file i (n - i))) → f (program_header file i) ≡ Some x → all ≡ (made ++ make x ∷ []) ++ map make (filter_map f (headers_from file (i + 1) (n - (i + 1))))
made_some f make all made file i n x h e s =
    let rest = filter_map f (headers_from file (i + 1) (n - (i + 1))) in
    e ∙ (ap (λ t. made ++ map make t) (step f file i n h ∙ ap (λ o. cons_option o rest) s) ∙ sym (append_assoc made (make x ∷ []) (map make rest)))

pub made_none : {X Y : Type 0} (f : Option Header → Option X) (make : X → Y) → (all made : List Y) (file : List ℕ) (i n : ℕ) → i < n → all ≡ made ++ map make (filter_map f (headers_from file i (n - i))) → f (program_header file i) ≡ None → all ≡ made ++ map make (filter_map f (headers_from file (i + 1) (n - (i + 1))))
made_none f make all made file i n h e s =
    let rest = filter_map f (headers_from file (i + 1) (n - (i + 1))) in
    e ∙ ap (λ t. made ++ map make t) (step f file i n h ∙ ap (λ o. cons_option o rest) s)

pub found_some : {X : Type 0} (f : Option Header → Option X) → (all found : List X) (file : List ℕ) (i n : ℕ) (x : X) → i < n → all ≡ found ++ filter_map f (headers_from file i (n - i)) → f (program_header file i) ≡ Some x → all ≡ (found ++ x ∷ []) ++ filter_map f (headers_from file (i + 1) (n - (i + 1)))
found_some f all found file i n x h e s =
    let rest = filter_map f (headers_from file (i + 1) (n - (i + 1))) in
    e ∙ (ap (λ t. found ++ t) (step f file i n h ∙ ap (λ o. cons_option o rest) s) ∙ sym (append_assoc found (x ∷ []) rest))

pub found_none : {X : Type 0} (f : Option Header → Option X) → (all found : List X) (file : List ℕ) (i n : ℕ) → i < n → all ≡ found ++ filter_map f (headers_from file i (n - i)) → f (program_header file i) ≡ None → all ≡ found ++ filter_map f (headers_from file (i + 1) (n - (i + 1)))
found_none f all found file i n h e s =
    let rest = filter_map f (headers_from file (i + 1) (n - (i + 1))) in
    e ∙ ap (λ t. found ++ t) (step f file i n h ∙ ap (λ o. cons_option o rest) s)
