-- A task comes to the queue of its turn, or goes from it.
use Rattle.std.proofs.Common.{◌≡◌, ◌≢◌, ℕ, zero, suc, ◌*◌, ◌<◌, ◌≤◌, List, [], ◌∷◌, Option, Some, None, Bool, true, false, length, refl, ap, sym, ◌∙◌, inl, inr, arith}
use Rattle.std.specs.Prelude.{slice_get, slice_set, slice_index, replicate, ◌/◌, ◌%◌, option_and_then, ◌||◌, ◌&&◌, ◌==◌, not}
use Rattle.std.proofs.lemmas.Bool.Decides.{nat_tests}
use Rattle.std.proofs.lemmas.List.{length-set, length-replicate}
use Rattle.std.proofs.lemmas.Nat.Bits.{bit_at-zero}
use Rattle.evm_model.specs.declared.limits.TheConstants.{TASK_LIMIT}
use Rattle.evm_model.proofs.Lists.{slice_get-slice_set, slice_get-below, slice_get-replicate}
use Rattle.evm_ready.specs.declared.turn.Turn.{Turn}
use Rattle.evm_ready.specs.Queues.{has, is_in, is_queue, turn_in, bit_of, use_bit, IsInOrder, IsQueueOf, AreQueued, AreQueuedBut, IsBitmap}
use Rattle.evm_ready.proofs.Members.{has-at, length-missing}

same-test : (t u : ℕ) → (t == u) ≡ true → t ≡ u
same-test t u h = grind (arith, nat_tests)

test-other : (t u : ℕ) → (t ≡ u → ⊥) → (t == u) ≡ false
test-other t u h = grind (arith, nat_tests)

test-same : (t : ℕ) → (t == t) ≡ true
test-same t = grind (arith, nat_tests)

-- ---- the queue of a task's turn
abbrev pub queue_of : List Turn → ℕ → Option ℕ
queue_of turns t = option_and_then (λ turn. turn.queue) (slice_get turns t)

in-option : (q : ℕ) (turn : Option Turn) → turn_in q turn ≡ is_queue q (option_and_then (λ turn. turn.queue) turn)
in-option q None = refl
in-option q (Some turn) = refl

pub is_in-queue_of : (turns : List Turn) (q t : ℕ) → is_in turns q t ≡ is_queue q (queue_of turns t)
is_in-queue_of turns q t = in-option q (slice_get turns t)

pub is_in-here : (turns : List Turn) (q t : ℕ) → queue_of turns t ≡ Some q → is_in turns q t ≡ true
is_in-here turns q t e = is_in-queue_of turns q t ∙ (rw e (test-same q))

pub is_in-elsewhere : (turns : List Turn) (q p t : ℕ) → queue_of turns t ≡ Some q → (p ≡ q → ⊥) → is_in turns p t ≡ false
is_in-elsewhere turns q p t e other = is_in-queue_of turns p t ∙ (rw e (test-other q p (λ same. other (sym same))))

pub is_in-nowhere : (turns : List Turn) (p t : ℕ) → queue_of turns t ≡ None → is_in turns p t ≡ false
is_in-nowhere turns p t e = is_in-queue_of turns p t ∙ (rw e refl)

in-below : (turns : List Turn) (q t : ℕ) (turn : Option Turn) → slice_get turns t ≡ turn → turn_in q turn ≡ true → t < length turns
in-below turns q t None e h = cc
in-below turns q t (Some turn) e h = slice_get-below turns t turn e

pub is_in-below : (turns : List Turn) (q t : ℕ) → is_in turns q t ≡ true → t < length turns
is_in-below turns q t h = in-below turns q t (slice_get turns t) refl h

-- ---- one queue
come : (same member : Bool) → (same ≡ true → member ≡ true) → (same || (not same && member)) ≡ member
come true member h = sym (h refl)
come false member h = refl

stay : (same member : Bool) → (same ≡ true → member ≡ false) → (not same && member) ≡ member
stay true member h = sym (h refl)
stay false member h = refl

and-right : (a b : Bool) → (a && b) ≡ true → b ≡ true
and-right true b h = h
and-right false b h = cc

join-here : (turns : List Turn) (q t : ℕ) (old new : List ℕ) → IsQueueOf turns (λ u. not (t == u) && is_in turns q u) old → queue_of turns t ≡ Some q
    → IsInOrder turns new → ((u : ℕ) → has new u ≡ has (t ∷ old) u) → IsQueueOf turns (is_in turns q) new
join-here turns q t old new was e order members = record {
  in_order = order;
  members = λ u. members u ∙ ap (λ b. (t == u) || b) (was.members u) ∙ come (t == u) (is_in turns q u) (λ same. rw (← same-test t u same) (is_in-here turns q t e));
}

join-elsewhere : (turns : List Turn) (p t : ℕ) (queue : List ℕ) → is_in turns p t ≡ false → IsQueueOf turns (λ u. not (t == u) && is_in turns p u) queue
    → IsQueueOf turns (is_in turns p) queue
join-elsewhere turns p t queue absent was = record {
  in_order = was.in_order;
  members = λ u. was.members u ∙ stay (t == u) (is_in turns p u) (λ same. rw (← same-test t u same) absent);
}

leave-here : (turns : List Turn) (q t : ℕ) (old new : List ℕ) → IsQueueOf turns (is_in turns q) old → IsInOrder turns new
    → ((u : ℕ) → has new u ≡ (not (t == u) && has old u)) → IsQueueOf turns (λ u. not (t == u) && is_in turns q u) new
leave-here turns q t old new was order members = record {
  in_order = order;
  members = λ u. members u ∙ ap (λ b. not (t == u) && b) (was.members u);
}

leave-elsewhere : (turns : List Turn) (p t : ℕ) (queue : List ℕ) → is_in turns p t ≡ false → IsQueueOf turns (is_in turns p) queue
    → IsQueueOf turns (λ u. not (t == u) && is_in turns p u) queue
leave-elsewhere turns p t queue absent was = record {
  in_order = was.in_order;
  members = λ u. was.members u ∙ sym (stay (t == u) (is_in turns p u) (λ same. rw (← same-test t u same) absent));
}

-- ---- all queues
pub join-none : (turns : List Turn) (t : ℕ) (queues : List (List ℕ)) → queue_of turns t ≡ None → AreQueuedBut t turns queues → AreQueued turns queues
join-none turns t queues e was = record { queued = λ p queue at. join-elsewhere turns p t queue (is_in-nowhere turns p t e) (was.queued p queue at) }

pub leave-none : (turns : List Turn) (t : ℕ) (queues : List (List ℕ)) → queue_of turns t ≡ None → AreQueued turns queues → AreQueuedBut t turns queues
leave-none turns t queues e was = record { queued = λ p queue at. leave-elsewhere turns p t queue (is_in-nowhere turns p t e) (was.queued p queue at) }

-- a queue whose number is too great isn't there
pub join-past : (turns : List Turn) (t q : ℕ) (queues : List (List ℕ)) → queue_of turns t ≡ Some q → slice_get queues q ≡ None → AreQueuedBut t turns queues → AreQueued turns queues
join-past turns t q queues e past was = record {
  queued = λ p queue at. join-elsewhere turns p t queue (is_in-elsewhere turns q p t e (λ same. let there : slice_get queues q ≡ Some queue = rw (← same) at in cc)) (was.queued p queue at);
}

pub leave-past : (turns : List Turn) (t q : ℕ) (queues : List (List ℕ)) → queue_of turns t ≡ Some q → slice_get queues q ≡ None → AreQueued turns queues → AreQueuedBut t turns queues
leave-past turns t q queues e past was = record {
  queued = λ p queue at. leave-elsewhere turns p t queue (is_in-elsewhere turns q p t e (λ same. let there : slice_get queues q ≡ Some queue = rw (← same) at in cc)) (was.queued p queue at);
}

pub joined : (turns : List Turn) (t q : ℕ) (queues : List (List ℕ)) (old new : List ℕ) → queue_of turns t ≡ Some q → slice_get queues q ≡ Some old → AreQueuedBut t turns queues
    → IsInOrder turns new → ((u : ℕ) → has new u ≡ has (t ∷ old) u) → AreQueued turns (slice_set queues q new)
joined turns t q queues old new e there was order members = record {
  queued = λ p queue at. elim (slice_get-slice_set queues q p new queue at) [
    | inl here ↦ rw (here.0, here.1) (join-here turns q t old new (was.queued q old there) e order members)
    | inr other ↦ join-elsewhere turns p t queue (is_in-elsewhere turns q p t e other.0) (was.queued p queue other.1)
  ];
}

pub left : (turns : List Turn) (t q : ℕ) (queues : List (List ℕ)) (old new : List ℕ) → queue_of turns t ≡ Some q → slice_get queues q ≡ Some old → AreQueued turns queues
    → IsInOrder turns new → ((u : ℕ) → has new u ≡ (not (t == u) && has old u)) → AreQueuedBut t turns (slice_set queues q new)
left turns t q queues old new e there was order members = record {
  queued = λ p queue at. elim (slice_get-slice_set queues q p new queue at) [
    | inl here ↦ rw (here.0, here.1) (leave-here turns q t old new (was.queued q old there) order members)
    | inr other ↦ leave-elsewhere turns p t queue (is_in-elsewhere turns q p t e other.0) (was.queued p queue other.1)
  ];
}

-- there is room for the task that is in none
pub room-for : (turns : List Turn) (t q : ℕ) (queues : List (List ℕ)) (queue : List ℕ) → length turns ≤ TASK_LIMIT → queue_of turns t ≡ Some q → slice_get queues q ≡ Some queue
    → AreQueuedBut t turns queues → length queue < TASK_LIMIT
room-for turns t q queues queue limit e there was =
    let is = was.queued q queue there in
    let absent : has queue t ≡ false = is.members t ∙ ap (λ b. not b && is_in turns q t) (test-same t) in
    let fewer = length-missing turns (length turns) queue t (is_in-below turns q t (is_in-here turns q t e)) absent is.in_order
    (λ u h. is_in-below turns q u (and-right (not (t == u)) (is_in turns q u) (sym (is.members u) ∙ h))) in
    omega (arith, fewer, limit)

pub absent-from : (turns : List Turn) (t q : ℕ) (queues : List (List ℕ)) (queue : List ℕ) → slice_get queues q ≡ Some queue → AreQueuedBut t turns queues → has queue t ≡ false
absent-from turns t q queues queue there was = (was.queued q queue there).members t ∙ ap (λ b. not b && is_in turns q t) (test-same t)

-- ---- the bitmap
pub use-has : (queue : List ℕ) (t : ℕ) → has queue t ≡ true → use_bit queue ≡ 1
use-has [] t h = cc
use-has (u ∷ queue) t h = refl

pub use-head : (queue : List ℕ) (t : ℕ) → slice_get queue 0 ≡ Some t → use_bit queue ≡ 1
use-head queue t e = use-has queue t (has-at queue 0 t e)

pub use-empty : (queue : List ℕ) → slice_get queue 0 ≡ None → use_bit queue ≡ 0
use-empty [] e = refl
use-empty (u ∷ queue) e = cc

pub empty-use : (queue : List ℕ) → use_bit queue ≡ 0 → queue ≡ []
empty-use [] e = refl
empty-use (u ∷ queue) e = absurd (omega arith)

-- one queue was set, and its bit is right
pub bitmap-set : (words bits : List ℕ) (queues : List (List ℕ)) (q : ℕ) (new : List ℕ) → IsBitmap words queues → length bits ≡ length words
    → bit_of bits q ≡ use_bit new → ((p : ℕ) → p ≢ q → bit_of bits p ≡ bit_of words p) → IsBitmap bits (slice_set queues q new)
bitmap-set words bits queues q new was same here others = record {
  enough = rw (same, length-set queues q new) was.enough;
  bits = λ p queue at. elim (slice_get-slice_set queues q p new queue at) [
    | inl is ↦ rw (is.0, is.1) here
    | inr other ↦ others p other.0 ∙ was.bits p queue other.1
  ];
}

pub bitmap-empty : (words : List ℕ) (count : ℕ) → count ≤ length words * 64 → ((q : ℕ) → bit_of words q ≡ 0) → IsBitmap words (replicate count [])
bitmap-empty words count enough none = record {
  enough = rw (length-replicate {A = List ℕ} count []) enough;
  bits = λ q queue at. let is : queue ≡ [] = slice_get-replicate count [] q queue at in none q ∙ rw is refl;
}

-- a queue that a task has left, where others are still in
pub use-left : (old new : List ℕ) (t v : ℕ) → ((u : ℕ) → has new u ≡ (not (t == u) && has old u)) → slice_get new 0 ≡ Some v → use_bit old ≡ use_bit new
use-left old new t v members at =
    let there : has new v ≡ true = has-at new 0 v at in
    use-has old v (and-right (not (t == v)) (has old v) (sym (members v) ∙ there)) ∙ sym (use-has new v there)

bits-zero : (n w : ℕ) → slice_index (replicate n 0) w ≡ 0
bits-zero zero w = refl
bits-zero (suc n) zero = refl
bits-zero (suc n) (suc w) = bits-zero n w

pub bit_of-zero : (n q : ℕ) → bit_of (replicate n 0) q ≡ 0
bit_of-zero n q = rw (bits-zero n (q / 64)) (bit_at-zero (q % 64))
