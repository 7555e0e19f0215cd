-- Lists that have the same at each place.
use Rattle.std.proofs.Common.{◌≡◌, ℕ, zero, suc, ◌+◌, ◌<◌, ◌≤◌, ◌⊎◌, inl, inr, List, [], ◌∷◌, Option, Some, None, length, refl, sym, ap, ◌∙◌, arith}
use Rattle.std.specs.Prelude.{slice_get, map}
use Rattle.evm_core.specs.Views.{counts_on_line, device_word, stages_in, word_in_device}
use Rattle.evm_core.specs.declared.stages.Stages.{Stages}
use Rattle.evm_dev.specs.declared.kind.Kind.{Kind}
use Rattle.evm_model.specs.Actions.{action_in}
use Rattle.evm_model.specs.Devices.{Attached}
use Rattle.evm_model.specs.Events.{bound_of}
use Rattle.evm_model.specs.Pipes.{Pipe}
use Rattle.evm_model.specs.Watch.{or_zero}
use Rattle.evm_model.specs.declared.action.Action.{Action}

-- ---- any list
pub same-by-get : {X : Type 0} (n : ℕ) (xs ys : List X) → length xs ≤ n → length ys ≤ n → ((i : ℕ) → i < n → slice_get xs i ≡ slice_get ys i) → xs ≡ ys
same-by-get zero [] [] a b h = refl
same-by-get zero (x ∷ xs) ys a b h = absurd (omega arith)
same-by-get zero xs (y ∷ ys) a b h = absurd (omega arith)
same-by-get (suc n) [] [] a b h = refl
same-by-get (suc n) (x ∷ xs) [] a b h = let e = h 0 (omega arith) in cc
same-by-get (suc n) [] (y ∷ ys) a b h = let e = h 0 (omega arith) in cc
same-by-get (suc n) (x ∷ xs) (y ∷ ys) a b h =
    let first : Some x ≡ Some y = h 0 (omega arith) in
    let rest = same-by-get n xs ys (omega arith) (omega arith) (λ i less. h (suc i) (omega arith)) in
    let head : x ≡ y = cc in
    cc

pub same-everywhere : {X : Type 0} (xs ys : List X) → ((i : ℕ) → slice_get xs i ≡ slice_get ys i) → xs ≡ ys
same-everywhere xs ys h = same-by-get (length xs + length ys) xs ys (omega arith) (omega arith) (λ i less. h i)

-- ---- events and actions
pub same-events : (xs ys : List (Option ℕ)) (n : ℕ) → length xs ≤ n → length xs ≡ length ys → ((i : ℕ) → i < n → bound_of (slice_get xs i) ≡ bound_of (slice_get ys i)) → xs ≡ ys
same-events [] [] n a b h = refl
same-events (x ∷ xs) [] n a b h = absurd (omega arith)
same-events [] (y ∷ ys) n a b h = absurd (omega arith)
same-events (x ∷ xs) (y ∷ ys) zero a b h = absurd (omega arith)
same-events (x ∷ xs) (y ∷ ys) (suc n) a b h =
    let head : x ≡ y = h 0 (omega arith) in
    let rest = same-events xs ys n (omega arith) (omega arith) (λ i less. h (suc i) (omega arith)) in
    cc

pub same-actions : (xs ys : List Action) (n : ℕ) → length xs ≤ n → length xs ≡ length ys → ((i : ℕ) → i < n → action_in xs i ≡ action_in ys i) → xs ≡ ys
same-actions [] [] n a b h = refl
same-actions (x ∷ xs) [] n a b h = absurd (omega arith)
same-actions [] (y ∷ ys) n a b h = absurd (omega arith)
same-actions (x ∷ xs) (y ∷ ys) zero a b h = absurd (omega arith)
same-actions (x ∷ xs) (y ∷ ys) (suc n) a b h =
    let head : x ≡ y = h 0 (omega arith) in
    let rest = same-actions xs ys n (omega arith) (omega arith) (λ i less. h (suc i) (omega arith)) in
    cc

pub same-watches : (xs ys : List ℕ) (n : ℕ) → length xs ≤ n → length xs ≡ length ys → ((i : ℕ) → i < n → or_zero (slice_get xs i) ≡ or_zero (slice_get ys i)) → xs ≡ ys
same-watches [] [] n a b h = refl
same-watches (x ∷ xs) [] n a b h = absurd (omega arith)
same-watches [] (y ∷ ys) n a b h = absurd (omega arith)
same-watches (x ∷ xs) (y ∷ ys) zero a b h = absurd (omega arith)
same-watches (x ∷ xs) (y ∷ ys) (suc n) a b h =
    let head : x ≡ y = h 0 (omega arith) in
    let rest = same-watches xs ys n (omega arith) (omega arith) (λ i less. h (suc i) (omega arith)) in
    cc

-- ---- pipes
same-pipe : (p q : Pipe) (n : ℕ) → length p.counts ≤ n → length q.counts ≤ n → stages_in (Some p) ≡ stages_in (Some q) → ((l : ℕ) → l < n → slice_get p.counts l ≡ slice_get q.counts l) → p ≡ q
same-pipe p q n a b stages counts =
    let same : p.counts ≡ q.counts = same-by-get n p.counts q.counts a b counts in
    let s : Stages = record { oob = p.oob; in_band = p.in_band; wire = p.wire } in
    let t : Stages = record { oob = q.oob; in_band = q.in_band; wire = q.wire } in
    let both : Some s ≡ Some t = stages in
    let one : s ≡ t = cc in
    let oob : p.oob ≡ q.oob = ap (λ (u : Stages). u.oob) one in
    let in_band : p.in_band ≡ q.in_band = ap (λ (u : Stages). u.in_band) one in
    let wire : p.wire ≡ q.wire = ap (λ (u : Stages). u.wire) one in
    rw oob (rw in_band (rw wire (rw same refl)))

pub same-pipes : (p q : Option Pipe) (n : ℕ) → ((pipe : Pipe) → p ≡ Some pipe → length pipe.counts ≤ n) → ((pipe : Pipe) → q ≡ Some pipe → length pipe.counts ≤ n)
    → stages_in p ≡ stages_in q → ((l : ℕ) → l < n → counts_on_line p l ≡ counts_on_line q l) → p ≡ q
same-pipes None None n a b stages counts = refl
same-pipes (Some p) None n a b stages counts = cc
same-pipes None (Some q) n a b stages counts = cc
same-pipes (Some p) (Some q) n a b stages counts = let same = same-pipe p q n (a p refl) (b q refl) stages counts in cc

-- ---- devices
abbrev pub kinds_of : List Attached → List Kind
kinds_of devices = map (λ (device : Attached). device.kind) devices

pub same-devices : (xs ys : List Attached) → kinds_of xs ≡ kinds_of ys → ((i k : ℕ) → i < length xs → device_word i k xs ≡ device_word i k ys) → xs ≡ ys
same-devices [] [] kinds h = refl
same-devices (x ∷ xs) [] kinds h = cc
same-devices [] (y ∷ ys) kinds h = cc
same-devices (x ∷ xs) (y ∷ ys) kinds h =
    let words : x.words ≡ y.words = same-everywhere x.words y.words (λ k. h 0 k (omega arith)) in
    let kind : x.kind ≡ y.kind = cc in
    let others : kinds_of xs ≡ kinds_of ys = cc in
    let rest = same-devices xs ys others (λ i k less. h (suc i) k (omega arith)) in
    let device : x ≡ y = rw kind (rw words refl) in
    cc

-- past the last word of a list there is none
past-none : {X : Type 0} (xs : List X) (k j : ℕ) → slice_get xs k ≡ None → k ≤ j → slice_get xs j ≡ None
past-none [] k j h less = refl
past-none (x ∷ xs) zero j h less = cc
past-none (x ∷ xs) (suc k) zero h less = absurd (omega arith)
past-none (x ∷ xs) (suc k) (suc j) h less = past-none xs k j h (omega arith)

past-words : (device : Option Attached) (k j : ℕ) → word_in_device device k ≡ None → k ≤ j → word_in_device device j ≡ None
past-words None k j h less = refl
past-words (Some device) k j h less = past-none device.words k j h less

below-or-past : (j k : ℕ) → (j < k) ⊎ (k ≤ j)
below-or-past j zero = inr (omega arith)
below-or-past zero (suc k) = inl (omega arith)
below-or-past (suc j) (suc k) = elim (below-or-past j k) [
  | inl less ↦ inl (omega arith)
  | inr past ↦ inr (omega arith)
]

-- words that are the same up to the end of both
pub same-words : (a b : Option Attached) (k : ℕ) → ((j : ℕ) → j < k → word_in_device a j ≡ word_in_device b j) → word_in_device a k ≡ None → word_in_device a k ≡ word_in_device b k → (j : ℕ) → word_in_device a j ≡ word_in_device b j
same-words a b k before none same j = elim (below-or-past j k) [
  | inl less ↦ before j less
  | inr past ↦ past-words a k j none past ∙ sym (past-words b k j (sym same ∙ none) past)
]
