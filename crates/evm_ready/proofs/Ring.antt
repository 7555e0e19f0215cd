-- What each place of a ring holds, and what its steps leave.
use Rattle.std.proofs.Common.{◌≡◌, ◌≢◌, get_or-set_other, ℕ, zero, suc, ◌+◌, ◌-◌, ◌%◌, ◌<◌, ◌≤◌, ◌⊎◌, List, [], ◌∷◌, ◌++◌, length, get_or, drop, set, sym, ap, ◌∙◌, inl, inr, mod-eq_of_lt, arith, length-append, length-drop, length-set, length-take-le, get_or-drop, get_or-take}
use native.Mathlib.Nat.{mod-eq-sub-mod, mod-add-mod}
use Rattle.std.proofs.lemmas.List.{same_lists, get_or_append_left, get_or-append_right}
use Rattle.std.proofs.lemmas.Bool.{cases_lt}
use Rattle.std.proofs.lemmas.Grind.{common_steps}
use Rattle.evm_ready.specs.Ring.{ring}

-- an index below 2 n wraps once at most
wraps_once : (n j : ℕ) → j < n + n → ((j < n) × (j % n ≡ j)) ⊎ ((n ≤ j) × (j % n ≡ j - n))
wraps_once n j below = elim (cases_lt j n) [
  | inl low ↦ inl (low, mod-eq_of_lt low)
  | inr high ↦ inr (high, mod-eq-sub-mod high ∙ mod-eq_of_lt (omega arith))
]

module _ (n : ℕ) (xs : List ℕ) (start len : ℕ) (within : start < n) (fits : len ≤ n) (whole : length xs ≡ n) where
  pub length-ring : length (ring xs start len) ≡ len
  length-ring = length-take-le len _ (simp (length-append, length-drop) (omega (arith, length-take-le start xs (omega arith))))

  -- place i of the ring is this one of the array
  get_or-ring : (i d : ℕ) → i < len → get_or (ring xs start len) i d ≡ get_or xs ((start + i) % n) d
  get_or-ring i d below =
      let tail = length-drop start xs in
      get_or-take len _ i d below ∙ elim (wraps_once n (start + i) (omega arith)) [
        | inl same ↦ get_or_append_left _ _ d i (omega arith) ∙ get_or-drop start xs i d ∙ ap (λ j. get_or xs j d) (omega arith)
        | inr wrapped ↦ get_or-append_right _ _ (n - start) i d (omega arith) (omega arith) ∙ get_or-take start xs _ d (omega arith) ∙ ap (λ j. get_or xs j d) (omega arith)
      ]

module _ (n : ℕ) (xs : List ℕ) (start len : ℕ) (within : start < n) (fits : len ≤ n) (whole : length xs ≡ n) where
  pub put-ring : (i t : ℕ) → i < len → ring (set xs ((start + i) % n) t) start len ≡ set (ring xs start len) i t
  put-ring i t below =
      let ys = set xs ((start + i) % n) t in
      let whole_new = length-set xs ((start + i) % n) t ∙ whole in
      let old = length-ring n xs start len within fits whole in
      let new = length-ring n ys start len within fits whole_new in
      let written = wraps_once n (start + i) (omega arith) in
      same_lists _ _ (new ∙ sym (length-set (ring xs start len) i t ∙ old)) (λ j d here. grind (
        arith,
        common_steps,
        wraps_once n (start + j) (omega arith),
        get_or-ring n xs start len within fits whole j d,
        get_or-ring n ys start len within fits whole_new j d,
      ))

  pub push-ring : (t : ℕ) → len < n → ring (set xs ((start + len) % n) t) start (len + 1) ≡ ring xs start len ++ t ∷ []
  push-ring t room =
      let ys = set xs ((start + len) % n) t in
      let whole_new = length-set xs ((start + len) % n) t ∙ whole in
      let old = length-ring n xs start len within fits whole in
      let new = length-ring n ys start (len + 1) within (omega arith) whole_new in
      let written = wraps_once n (start + len) (omega arith) in
      same_lists _ _ (grind (arith, common_steps)) (λ i d here. grind (
        arith,
        common_steps,
        wraps_once n (start + i) (omega arith),
        get_or-ring n xs start len within fits whole i d,
        get_or-ring n ys start (len + 1) within (omega arith) whole_new i d,
      ))

  pub drop-ring : 0 < len → ring xs ((start + 1) % n) (len - 1) ≡ drop 1 (ring xs start len)
  drop-ring some =
      let next : (start + 1) % n < n = grind (arith, wraps_once n (start + 1) (omega arith)) in
      let old = length-ring n xs start len within fits whole in
      let new = length-ring n xs ((start + 1) % n) (len - 1) next (omega arith) whole in
      same_lists _ _ (simp length-drop (omega arith)) (λ i d here. grind (
        arith,
        length-drop 1 (ring xs start len),
        get_or-drop 1 (ring xs start len) i d,
        mod-add-mod (start + 1) n i,
        get_or-ring n xs start len within fits whole (1 + i) d,
        get_or-ring n xs ((start + 1) % n) (len - 1) next (omega arith) whole i d,
      ))

  front-at : (t : ℕ) → len < n → (i d : ℕ) → i < len + 1
      → get_or (ring (set xs ((start + (n - 1)) % n) t) ((start + (n - 1)) % n) (len + 1)) i d ≡ get_or (t ∷ ring xs start len) i d
  front-at t room zero d here =
      let before = wraps_once n (start + (n - 1)) (omega arith) in
      let next : (start + (n - 1)) % n < n = grind (arith, before) in
      let ys = set xs ((start + (n - 1)) % n) t in
      let whole_new = length-set xs ((start + (n - 1)) % n) t ∙ whole in
      grind (
        arith,
        common_steps,
        wraps_once n ((start + (n - 1)) % n + 0) (omega arith),
        get_or-ring n ys ((start + (n - 1)) % n) (len + 1) next (omega arith) whole_new 0 d,
      )
  front-at t room (suc i) d here =
      let before = wraps_once n (start + (n - 1)) (omega arith) in
      let next : (start + (n - 1)) % n < n = grind (arith, before) in
      let ys = set xs ((start + (n - 1)) % n) t in
      let whole_new = length-set xs ((start + (n - 1)) % n) t ∙ whole in
      let round : n ≤ start + (n - 1) + suc i = omega arith in
      let same : ((start + (n - 1)) % n + suc i) % n ≡ (start + i) % n =
      mod-add-mod (start + (n - 1)) n (suc i) ∙ mod-eq-sub-mod round ∙ ap (λ j. j % n) (omega arith) in
      let on = wraps_once n (start + i) (omega arith) in
      let apart : (start + i) % n ≢ (start + (n - 1)) % n = λ e. grind (arith, before, on, e) in
      get_or-ring n ys ((start + (n - 1)) % n) (len + 1) next (omega arith) whole_new (suc i) d (omega arith)
      ∙ ap (λ j. get_or ys j d) same
      ∙ get_or-set_other xs ((start + (n - 1)) % n) ((start + i) % n) t d apart
      ∙ sym (get_or-ring n xs start len within fits whole i d (omega arith))

  pub front-ring : (t : ℕ) → len < n → ring (set xs ((start + (n - 1)) % n) t) ((start + (n - 1)) % n) (len + 1) ≡ t ∷ ring xs start len
  front-ring t room =
      let before = wraps_once n (start + (n - 1)) (omega arith) in
      let next : (start + (n - 1)) % n < n = grind (arith, before) in
      let ys = set xs ((start + (n - 1)) % n) t in
      let whole_new = length-set xs ((start + (n - 1)) % n) t ∙ whole in
      let old = length-ring n xs start len within fits whole in
      let new = length-ring n ys ((start + (n - 1)) % n) (len + 1) next (omega arith) whole_new in
      same_lists _ _ (grind (arith, common_steps)) (λ i d here. front-at t room i d (omega (arith, here, new)))
