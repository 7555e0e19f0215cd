-- Bytes that are compared many at a time.
use Rattle.std.proofs.Common.{◌≡◌, ℕ, zero, suc, ◌+◌, ◌-◌, ◌*◌, ◌%◌, ◌^◌, ◌≤◌, ◌<◌, List, [], ◌∷◌, Bool, true, false, not, cond, eqb, length, get_or, take, drop, map, ◌⊎◌, inl, inr, refl, sym, ap, ◌∙◌, arith, w8}
use Rattle.std.specs.Simd.Lanes.{zip2, mask_l, top}
use Rattle.std.proofs.lemmas.Simd.{length-chunk, get_or-chunk, length-zip2, get_or-zip2, tops_compared, mask_l-mod}
use Rattle.std.proofs.lemmas.Bool.{eqb-true, not-false}
use Rattle.std.proofs.lemmas.List.{ext_get_or, get_or-drop, get_or-take}

-- a place is before another, or not
pub order : (i n : ℕ) → (i < n) ⊎ (n ≤ i)
order i zero = inr (omega arith)
order zero (suc n) = inl (omega arith)
order (suc i) (suc n) = up (order i n)
  where
    up : (i < n) ⊎ (n ≤ i) → (suc i < suc n) ⊎ (suc n ≤ suc i)
    up (inl less) = inl (omega (arith, less))
    up (inr more) = inr (omega (arith, more))

-- a mask that is 0 has no lane set
unset : (ms : List Bool) → mask_l ms ≡ 0 → (k : ℕ) → get_or ms k false ≡ false
unset [] e k = refl
unset (true ∷ ms) e k = absurd (omega (arith, e))
unset (false ∷ ms) e zero = refl
unset (false ∷ ms) e (suc k) = unset ms (omega (arith, e)) k

-- bytes that don't differ
same : (x y : ℕ) → not (eqb x y) ≡ false → x ≡ y
same x y e = eqb-true x y (not-false (eqb x y) e)

-- no lane of 64 differs
pub none_differ : (xs ys : List ℕ) (i : ℕ) → i + 64 ≤ length xs → i + 64 ≤ length ys
    → mask_l (map (top 7) (zip2 (λ a b. cond (not (eqb a b)) 255 0) (take 64 (drop i xs)) (take 64 (drop i ys)))) % 2 ^ 64 ≡ 0
    → (k : ℕ) → k < 64 → get_or xs (i + k) 0 ≡ get_or ys (i + k) 0
none_differ xs ys i long long' e k less =
    let us = take 64 (drop i xs) in
    let vs = take 64 (drop i ys) in
    let ms = zip2 (λ a b. not (eqb a b)) us vs in
    let wide : length us ≡ 64 = length-chunk i 64 xs long in
    let wide' : length vs ≡ 64 = length-chunk i 64 ys long' in
    let count : length ms ≡ 64 = length-zip2 (λ a b. not (eqb a b)) us vs (wide ∙ sym wide') ∙ wide in
    let mask : mask_l ms ≡ 0 = sym (mask_l-mod ms 64 (omega (arith, count))) ∙ ap (λ bs. mask_l bs % 2 ^ 64) (sym (tops_compared w8 (λ a b. not (eqb a b)) us vs)) ∙ e in
    let lane : not (eqb (get_or us k 0) (get_or vs k 0)) ≡ false = sym (get_or-zip2 (λ a b. not (eqb a b)) us vs k 0 0 false (omega (arith, wide, less)) (omega (arith, wide', less))) ∙ unset ms mask k in
    sym (get_or-chunk i 64 xs k 0 less) ∙ same (get_or us k 0) (get_or vs k 0) lane ∙ get_or-chunk i 64 ys k 0 less

-- .. of the block behind those that are the same
pub block_more : (xs ys : List ℕ) (n : ℕ) → ((k : ℕ) → k < n * 64 → get_or xs k 0 ≡ get_or ys k 0)
    → ((k : ℕ) → k < 64 → get_or xs (n * 64 + k) 0 ≡ get_or ys (n * 64 + k) 0) → (k : ℕ) → k < (n + 1) * 64 → get_or xs k 0 ≡ get_or ys k 0
block_more xs ys n before here k less = within (order k (n * 64))
  where
    within : (k < n * 64) ⊎ (n * 64 ≤ k) → get_or xs k 0 ≡ get_or ys k 0
    within (inl low) = before k low
    within (inr high) =
        let at : n * 64 + (k - n * 64) ≡ k = omega (arith, high) in
        ap (λ (m : ℕ). get_or xs m 0) (sym at) ∙ here (k - n * 64) (omega (arith, high, less)) ∙ ap (λ (m : ℕ). get_or ys m 0) at

-- lists that are the same before a place and behind it
pub blocks_and_rest : (xs ys : List ℕ) (n : ℕ) → length xs ≡ length ys → ((k : ℕ) → k < n → get_or xs k 0 ≡ get_or ys k 0)
    → take (length xs - n) (drop n xs) ≡ take (length ys - n) (drop n ys) → xs ≡ ys
blocks_and_rest xs ys n long before rest = ext_get_or 0 xs ys long each
  where
    behind : (zs : List ℕ) (k : ℕ) → n ≤ k → k < length zs → get_or (take (length zs - n) (drop n zs)) (k - n) 0 ≡ get_or zs k 0
    behind zs k high less =
        let at : n + (k - n) ≡ k = omega (arith, high) in
        get_or-take (length zs - n) (drop n zs) (k - n) 0 (omega (arith, high, less)) ∙ get_or-drop n zs (k - n) 0 ∙ ap (λ (m : ℕ). get_or zs m 0) at

    within : (k : ℕ) → k < length xs → (k < n) ⊎ (n ≤ k) → get_or xs k 0 ≡ get_or ys k 0
    within k less (inl low) = before k low
    within k less (inr high) = sym (behind xs k high less) ∙ ap (λ (zs : List ℕ). get_or zs (k - n) 0) rest ∙ behind ys k high (omega (arith, less, long))

    each : (k : ℕ) → k < length xs → get_or xs k 0 ≡ get_or ys k 0
    each k less = within k less (order k n)
