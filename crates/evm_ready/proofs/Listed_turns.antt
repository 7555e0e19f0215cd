-- What the turns that a list gives say of its entries.
use Rattle.std.proofs.Common.{◌≡◌, ℕ, zero, suc, List, [], ◌∷◌, ◌++◌, Option, Some, None, length, refl, ap, sym, ◌∙◌, arith}
use Rattle.std.specs.Prelude.{option_and_then, slice_get}
use Rattle.evm_model.specs.Lists.{change, change_some}
use Rattle.evm_ready.specs.declared.turn.Turn.{Turn}
use Rattle.evm_ready.specs.ListedRanks.{listed_rank}
use Rattle.evm_ready.specs.Places.{entry}
use Rattle.evm_ready.specs.Queues.{is_in, is_queue, turn_for, turn_rank, turn_stamp, turns_for}

pub change-cons : {X : Type 0} (f : X → X) (x : X) (xs : List X) (i : ℕ) → change f (x ∷ xs) (suc i) ≡ x ∷ change f xs i
change-cons {X = X} f x xs i = elim (slice_get xs i) as (λ o. change_some o f (x ∷ xs) (suc i) ≡ x ∷ change_some o f xs i) [ None ↦ refl | Some y ↦ refl ]

pub length-turns : {X : Type 0} (f : X → ℕ → Turn) (xs : List (Option X)) (ranks : List ℕ) → length ranks ≡ length xs → length (turns_for f xs ranks) ≡ length xs
length-turns {X = X} f [] ranks e = refl
length-turns {X = X} f (p ∷ xs) [] e = absurd (omega arith)
length-turns {X = X} f (p ∷ xs) (r ∷ ranks) e = ap suc (length-turns f xs ranks (omega arith))

pub turns-push : {X : Type 0} (f : X → ℕ → Turn) (xs : List (Option X)) (ranks : List ℕ) (x : Option X) (rank : ℕ) → length ranks ≡ length xs
    → turns_for f (xs ++ x ∷ []) (ranks ++ rank ∷ []) ≡ turns_for f xs ranks ++ turn_for f x rank ∷ []
turns-push {X = X} f [] [] x rank e = refl
turns-push {X = X} f [] (r ∷ ranks) x rank e = absurd (omega arith)
turns-push {X = X} f (p ∷ xs) [] x rank e = absurd (omega arith)
turns-push {X = X} f (p ∷ xs) (r ∷ ranks) x rank e = ap (λ (turns : List Turn). turn_for f p r ∷ turns) (turns-push f xs ranks x rank (omega arith))

pub turns-entry : {X : Type 0} (f : X → ℕ → Turn) (xs : List (Option X)) (ranks : List ℕ) (t : ℕ) (x : Option X) → length ranks ≡ length xs
    → change (λ _. turn_for f x (listed_rank ranks t)) (turns_for f xs ranks) t ≡ turns_for f (change (λ _. x) xs t) ranks
turns-entry {X = X} f [] ranks t x e = refl
turns-entry {X = X} f (p ∷ xs) [] t x e = absurd (omega arith)
turns-entry {X = X} f (p ∷ xs) (r ∷ ranks) zero x e = refl
turns-entry {X = X} f (p ∷ xs) (r ∷ ranks) (suc t) x e =
    change-cons (λ _. turn_for f x (listed_rank ranks t)) (turn_for f p r) (turns_for f xs ranks) t
    ∙ ap (λ (turns : List Turn). turn_for f p r ∷ turns) (turns-entry f xs ranks t x (omega arith))
    ∙ sym (ap (λ (ps : List (Option X)). turns_for f ps (r ∷ ranks)) (change-cons (λ _. x) p xs t))

-- a task without an entry is in no queue
pub turn-away : {X : Type 0} (f : X → ℕ → Turn) (xs : List (Option X)) (ranks : List ℕ) (t : ℕ) → entry xs t ≡ None
    → option_and_then (λ (turn : Turn). turn.queue) (slice_get (turns_for f xs ranks) t) ≡ None
turn-away {X = X} f [] ranks t e = refl
turn-away {X = X} f (p ∷ xs) [] t e = refl
turn-away {X = X} f (None ∷ xs) (r ∷ ranks) zero e = refl
turn-away {X = X} f (Some x ∷ xs) (r ∷ ranks) zero e = cc
turn-away {X = X} f (p ∷ xs) (r ∷ ranks) (suc t) e = turn-away f xs ranks t e

pub turns-rank : {X : Type 0} (f : X → ℕ → Turn) (xs : List (Option X)) (ranks : List ℕ) (t rank : ℕ) → length ranks ≡ length xs
    → change (λ _. turn_for f (entry xs t) rank) (turns_for f xs ranks) t ≡ turns_for f xs (change (λ _. rank) ranks t)
turns-rank {X = X} f [] ranks t rank e = refl
turns-rank {X = X} f (p ∷ xs) [] t rank e = absurd (omega arith)
turns-rank {X = X} f (p ∷ xs) (r ∷ ranks) zero rank e = refl
turns-rank {X = X} f (p ∷ xs) (r ∷ ranks) (suc t) rank e =
    change-cons (λ _. turn_for f (entry xs t) rank) (turn_for f p r) (turns_for f xs ranks) t
    ∙ ap (λ (turns : List Turn). turn_for f p r ∷ turns) (turns-rank f xs ranks t rank (omega arith))
    ∙ sym (ap (λ (rs : List ℕ). turns_for f (p ∷ xs) rs) (change-cons (λ _. rank) r ranks t))

pub in-turns : {X : Type 0} (f : X → ℕ → Turn) (xs : List (Option X)) (ranks : List ℕ) (q t : ℕ) → length ranks ≡ length xs
    → is_in (turns_for f xs ranks) q t ≡ is_queue q (turn_for f (entry xs t) (listed_rank ranks t)).queue
in-turns {X = X} f [] ranks q t e = refl
in-turns {X = X} f (p ∷ xs) [] q t e = absurd (omega arith)
in-turns {X = X} f (p ∷ xs) (r ∷ ranks) q zero e = refl
in-turns {X = X} f (p ∷ xs) (r ∷ ranks) q (suc t) e = in-turns f xs ranks q t (omega arith)

no-rank : (ranks : List ℕ) (t : ℕ) → length ranks ≡ 0 → listed_rank ranks t ≡ 0
no-rank [] t e = refl
no-rank (r ∷ ranks) t e = absurd (omega arith)

pub rank-turns : {X : Type 0} (f : X → ℕ → Turn) (xs : List (Option X)) (ranks : List ℕ) (t : ℕ) → length ranks ≡ length xs
    → turn_rank (turns_for f xs ranks) t ≡ (turn_for f (entry xs t) (listed_rank ranks t)).rank
rank-turns {X = X} f [] ranks t e = sym (no-rank ranks t e)
rank-turns {X = X} f (p ∷ xs) [] t e = absurd (omega arith)
rank-turns {X = X} f (p ∷ xs) (r ∷ ranks) zero e = refl
rank-turns {X = X} f (p ∷ xs) (r ∷ ranks) (suc t) e = rank-turns f xs ranks t (omega arith)

pub stamp-turns : {X : Type 0} (f : X → ℕ → Turn) (xs : List (Option X)) (ranks : List ℕ) (t : ℕ) → length ranks ≡ length xs
    → turn_stamp (turns_for f xs ranks) t ≡ (turn_for f (entry xs t) (listed_rank ranks t)).stamp
stamp-turns {X = X} f [] ranks t e = refl
stamp-turns {X = X} f (p ∷ xs) [] t e = absurd (omega arith)
stamp-turns {X = X} f (p ∷ xs) (r ∷ ranks) zero e = refl
stamp-turns {X = X} f (p ∷ xs) (r ∷ ranks) (suc t) e = stamp-turns f xs ranks t (omega arith)
