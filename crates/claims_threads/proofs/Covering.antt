-- Receipts that are true and of which no two share a position say no more than the list that they are of.
use Rattle.std.proofs.Common.{◌≡◌, ℕ, zero, suc, ◌+◌, ◌-◌, ◌<◌, ◌≤◌, List, [], ◌∷◌, length, take, get_or, sym, ap, ◌∙◌, subst, arith, Bool, ◌⊎◌, inl, inr, ⊎_elim}
use Rattle.std.proofs.Math.Seq.{take-length}
use Rattle.std.proofs.lemmas.List.Sums.{sum_by_more}
use Rattle.std.specs.Prelude.{All, count_by, sum_by, slice_get}
use Rattle.claims_threads.proofs.Sums.{counted, less_or_not, shifted, shifted_outside, standing, sum_by_below, sum_by_nothing, sums, sums_le, swapped, worth}

-- within its positions it gives what the list has there
shifted_is : {X : Type 0} (p : X → Bool) (xs : List X) (a k : ℕ) → a ≤ k → shifted p a xs k ≡ worth p (slice_get xs (k - a))
shifted_is p xs zero k le = let e : k ≡ k - 0 = omega arith in ap (λ j. worth p (slice_get xs j)) e
shifted_is p xs (suc a) zero le = absurd (omega arith)
shifted_is p xs (suc a) (suc k) le = let e : k - a ≡ suc k - suc a = omega arith in shifted_is p xs a k (omega arith) ∙ ap (λ j. worth p (slice_get xs j)) e

-- calls that began at a position and made some items there, kept in several lists
module _ {X R P : Type 0} (start : R → ℕ) (made : R → List X) (kept : P → List R) (p : X → Bool) (all : List X) where
  abbrev pub Covers : R → ℕ → Type 0
  Covers r k = (start r ≤ k) × (k < start r + length (made r))

  abbrev pub Apart : R → R → Type 0
  Apart a b = (k : ℕ) → Covers a k → Covers b k → ⊥

  abbrev pub Stands : R → Type 0
  Stands r = (k : ℕ) → k < length (made r) → slice_get all (start r + k) ≡ slice_get (made r) k

  -- the j-th of a list stands there, and shares no position with those before it or with those of the other lists
  abbrev pub Fits : List P → List R → ℕ → R → Type 0
  Fits others rs j r = Stands r × All (λ b. Apart b r) (take j rs) × All (λ q. All (λ o. Apart o r) (kept q)) others

  -- what the list is worth at a position, and what a call says of it
  abbrev value : ℕ → ℕ
  value k = worth p (slice_get all k)

  abbrev hit : R → ℕ → ℕ
  hit r k = shifted p (start r) (made r) k

  abbrev hits : P → ℕ → ℕ
  hits q k = sum_by (λ r. hit r k) (kept q)

  inside : (r : R) (k : ℕ) → Stands r → Covers r k → hit r k ≡ value k
  inside r k stands covers =
      let e : start r + (k - start r) ≡ k = omega (arith, covers.0) in
      shifted_is p (made r) (start r) k covers.0 ∙ ap (worth p) (sym (stands (k - start r) (omega (arith, covers.0, covers.1)))) ∙ ap value e

  covers_or_not : (r : R) (k : ℕ) → Covers r k ⊎ (hit r k ≡ 0)
  covers_or_not r k =
      ⊎_elim
      (λ low. inr (shifted_outside p (made r) (start r) k (λ le lt. omega (arith, low, le))))
      (λ from. ⊎_elim (λ to. inl (from, to)) (λ high. inr (shifted_outside p (made r) (start r) k (λ le lt. omega (arith, high, lt)))) (less_or_not k (start r + length (made r))))
      (less_or_not k (start r))

  -- a call that is apart from one that covers a position says nothing of it
  quiet : (o r : R) (k : ℕ) → Apart o r → Covers r k → hit o k ≡ 0
  quiet o r k apart covers = ⊎_elim (λ c. absurd (apart k c covers)) (λ h. h) (covers_or_not o k)

  -- so many calls of a list, beside the other lists
  upto : (others : List P) (rs : List R) (d : R) (k : ℕ) → ((j : ℕ) (e : R) → j < length rs → Fits others rs j (get_or rs j e)) → sum_by (λ q. hits q k) others ≤ value k
      → (n : ℕ) → n ≤ length rs → sum_by (λ q. hits q k) others + sum_by (λ r. hit r k) (take n rs) ≤ value k
  upto others rs d k fits below zero le = omega (arith, below)
  upto others rs d k fits below (suc n) le =
      let next : suc n ≡ n + 1 = omega arith in
      let r = get_or rs n d in
      let its = fits n d (omega (arith, le)) in
      let more = sum_by_more (λ x. hit x k) rs n d (omega (arith, le)) in
      let rest = upto others rs d k fits below n (omega (arith, le)) in
      subst (λ m. sum_by (λ q. hits q k) others + sum_by (λ x. hit x k) (take m rs) ≤ value k) (sym next)
      (⊎_elim
      (λ covers.
      let no_others = sum_by_nothing (λ q. hits q k) others (λ i q lt. sum_by_nothing (λ x. hit x k) (kept (get_or others i q)) (λ j x l. quiet _ r k (its.2 i q lt j x l) covers)) in
      let none_before = sum_by_nothing (λ x. hit x k) (take n rs) (λ j x l. quiet _ r k (its.1 j x l) covers) in
      omega (arith, more, no_others, none_before, inside r k its.0 covers))
      (λ nothing. omega (arith, more, rest, nothing))
      (covers_or_not r k))

  one_list : (others : List P) (rs : List R) (k : ℕ) → ((j : ℕ) (e : R) → j < length rs → Fits others rs j (get_or rs j e)) → sum_by (λ q. hits q k) others ≤ value k
      → sum_by (λ q. hits q k) others + sum_by (λ r. hit r k) rs ≤ value k
  one_list others [] k fits below = omega (arith, below)
  one_list others (r ∷ rs) k fits below =
      let whole = upto others (r ∷ rs) r k fits below (length (r ∷ rs)) (omega arith) in
      subst (λ xs. sum_by (λ q. hits q k) others + sum_by (λ x. hit x k) xs ≤ value k) (take-length (r ∷ rs)) whole

  -- all calls of each list, beside those of the lists before it
  abbrev pub AllFit : List P → Type 0
  AllFit ports = (i : ℕ) (d : P) → i < length ports → (j : ℕ) (e : R) → j < length (kept (get_or ports i d)) → Fits (take i ports) (kept (get_or ports i d)) j (get_or (kept (get_or ports i d)) j e)

  lists : (ports : List P) (d : P) (k : ℕ) → AllFit ports → (n : ℕ) → n ≤ length ports → sum_by (λ q. hits q k) (take n ports) ≤ value k
  lists ports d k fits zero le = omega arith
  lists ports d k fits (suc n) le =
      let next : suc n ≡ n + 1 = omega arith in
      let more = sum_by_more (λ q. hits q k) ports n d (omega (arith, le)) in
      let rest = lists ports d k fits n (omega (arith, le)) in
      let whole = one_list (take n ports) (kept (get_or ports n d)) k (fits n d (omega (arith, le))) rest in
      subst (λ m. sum_by (λ q. hits q k) (take m ports) ≤ value k) (sym next) (omega (arith, more, whole))

  all_lists : (ports : List P) (k : ℕ) → AllFit ports → sum_by (λ q. hits q k) ports ≤ value k
  all_lists [] k fits = omega arith
  all_lists (q ∷ ports) k fits = subst (λ xs. sum_by (λ x. hits x k) xs ≤ value k) (take-length (q ∷ ports)) (lists (q ∷ ports) q k fits (length (q ∷ ports)) (omega arith))

  in_list : (q : P) → All Stands (kept q) → sum_by (λ r. count_by p (made r)) (kept q) ≤ sums (length all) (hits q)
  in_list q stand =
      let below = sum_by_below (λ r. count_by p (made r)) (λ r. sums (length all) (hit r)) (kept q) (λ j r lt. standing p all (made (get_or (kept q) j r)) (start (get_or (kept q) j r)) (stand j r lt)) in
      omega (arith, below, swapped hit (length all) (kept q))

  -- the calls say no more items of a kind than there are
  pub no_more_than : (ports : List P) → AllFit ports → sum_by (λ q. sum_by (λ r. count_by p (made r)) (kept q)) ports ≤ count_by p all
  no_more_than ports fits =
      let below = sum_by_below (λ q. sum_by (λ r. count_by p (made r)) (kept q)) (λ q. sums (length all) (hits q)) ports (λ i q lt. in_list (get_or ports i q) (λ j r l. (fits i q lt j r l).0)) in
      let each = sums_le (length all) (λ k. sum_by (λ q. hits q k) ports) value (λ k. all_lists ports k fits) in
      omega (arith, below, each, swapped hits (length all) ports, counted p all)
