-- A task has another stamp, and the queue of its turn stays.
use Rattle.std.proofs.Common.{◌≡◌, ℕ, zero, suc, ◌<◌, ◌≤◌, List, [], ◌∷◌, Option, Some, None, true, false, length, refl, ap, sym, ◌∙◌, arith}
use Rattle.std.specs.Prelude.{slice_get, slice_set, option_and_then, option_map, is_some, ◌&&◌, ◌==◌, not}
use Rattle.evm_model.specs.Lists.{change}
use Rattle.evm_model.specs.declared.limits.TheConstants.{TASK_LIMIT}
use Rattle.evm_model.proofs.Lists.{change-here, change-same, length-change, slice_get-set_same}
use Rattle.evm_ready.specs.declared.turn.Turn.{Turn}
use Rattle.evm_ready.specs.Places.{entry, entry_of}
use Rattle.evm_ready.specs.Queues.{has, restamped, turn_for, turns_for, IsInOrder, AreQueued, AreQueuedBut, IsBitmap}
use Rattle.evm_ready.proofs.Filing.{queue_of, is_in-here, join-none, leave-none, join-past, leave-past, joined, left, room-for, absent-from, bitmap-set, use-has}
use Rattle.evm_ready.proofs.Listed_turns.{change-cons}
use Rattle.evm_ready.proofs.Members.{has-at}
use Rattle.evm_ready.proofs.Turning.{turned, turned-stamp}

set-twice : {X : Type 0} (xs : List X) (i : ℕ) (y z : X) → slice_set (slice_set xs i y) i z ≡ slice_set xs i z
set-twice [] i y z = refl
set-twice (x ∷ xs) zero y z = refl
set-twice {X = X} (x ∷ xs) (suc i) y z = ap (λ (rest : List X). x ∷ rest) (set-twice xs i y z)

turn-queue : (stamp : ℕ) (turn : Option Turn) → option_and_then (λ turn. turn.queue) (option_map (restamped stamp) turn) ≡ option_and_then (λ turn. turn.queue) turn
turn-queue stamp None = refl
turn-queue stamp (Some turn) = refl

same-queue : (turns : List Turn) (t stamp : ℕ) → queue_of (change (restamped stamp) turns t) t ≡ queue_of turns t
same-queue turns t stamp = ap (option_and_then (λ turn. turn.queue)) (change-here (restamped stamp) turns t) ∙ turn-queue stamp (slice_get turns t)

-- a task whose turn is in no queue from now on
no-queue : (o : Option ℕ) → false ≡ is_some o → o ≡ None
no-queue None e = refl
no-queue (Some q) e = cc

turn-nowhere : (turn : Turn) (o : Option Turn) → turn.queue ≡ None → option_and_then (λ turn. turn.queue) (option_map (λ _. turn) o) ≡ None
turn-nowhere turn None e = refl
turn-nowhere turn (Some old) e = e

pub turned-out : (turns : List Turn) (t : ℕ) (turn : Turn) (queues : List (List ℕ)) → false ≡ is_some turn.queue → AreQueuedBut t turns queues → AreQueued (change (λ _. turn) turns t) queues
turned-out turns t turn queues e was =
    join-none (change (λ _. turn) turns t) t queues
    (ap (option_and_then (λ turn. turn.queue)) (change-here (λ _. turn) turns t) ∙ turn-nowhere turn (slice_get turns t) (no-queue turn.queue e))
    (turned turns t turn queues was)

-- a task that is in no queue
pub restamped-none : (turns : List Turn) (t stamp : ℕ) (queues : List (List ℕ)) → queue_of turns t ≡ None → AreQueued turns queues → AreQueued (change (restamped stamp) turns t) queues
restamped-none turns t stamp queues e was =
    join-none (change (restamped stamp) turns t) t queues (same-queue turns t stamp ∙ e) (turned-stamp turns t stamp queues (leave-none turns t queues e was))

pub restamped-past : (turns : List Turn) (t stamp q : ℕ) (queues : List (List ℕ)) → queue_of turns t ≡ Some q → slice_get queues q ≡ None → AreQueued turns queues
    → AreQueued (change (restamped stamp) turns t) queues
restamped-past turns t stamp q queues e past was =
    join-past (change (restamped stamp) turns t) t q queues (same-queue turns t stamp ∙ e) past (turned-stamp turns t stamp queues (leave-past turns t q queues e past was))

-- between the two moves the task is in no queue
pub between : (turns : List Turn) (t stamp q : ℕ) (queues : List (List ℕ)) (old removed : List ℕ) → queue_of turns t ≡ Some q → slice_get queues q ≡ Some old → AreQueued turns queues
    → IsInOrder turns removed → ((u : ℕ) → has removed u ≡ (not (t == u) && has old u)) → AreQueuedBut t (change (restamped stamp) turns t) (slice_set queues q removed)
between turns t stamp q queues old removed e there was order members =
    turned-stamp turns t stamp (slice_set queues q removed) (left turns t q queues old removed e there was order members)

pub between-order : (turns : List Turn) (t stamp q : ℕ) (queues : List (List ℕ)) (old removed : List ℕ) → queue_of turns t ≡ Some q → slice_get queues q ≡ Some old → AreQueued turns queues
    → IsInOrder turns removed → ((u : ℕ) → has removed u ≡ (not (t == u) && has old u)) → IsInOrder (change (restamped stamp) turns t) removed
between-order turns t stamp q queues old removed e there was order members =
    ((between turns t stamp q queues old removed e there was order members).queued q removed (slice_get-set_same queues q old removed there)).in_order

pub between-room : (turns : List Turn) (t stamp q : ℕ) (queues : List (List ℕ)) (old removed : List ℕ) → length turns ≤ TASK_LIMIT → queue_of turns t ≡ Some q → slice_get queues q ≡ Some old
    → AreQueued turns queues → IsInOrder turns removed → ((u : ℕ) → has removed u ≡ (not (t == u) && has old u)) → length removed < TASK_LIMIT
between-room turns t stamp q queues old removed limit e there was order members =
    room-for (change (restamped stamp) turns t) t q (slice_set queues q removed) removed (rw (length-change (restamped stamp) turns t) limit) (same-queue turns t stamp ∙ e)
    (slice_get-set_same queues q old removed there) (between turns t stamp q queues old removed e there was order members)

pub between-absent : (turns : List Turn) (t q : ℕ) (queues : List (List ℕ)) (old removed : List ℕ) → queue_of turns t ≡ Some q → slice_get queues q ≡ Some old
    → AreQueued turns queues → IsInOrder turns removed → ((u : ℕ) → has removed u ≡ (not (t == u) && has old u)) → has removed t ≡ false
between-absent turns t q queues old removed e there was order members =
    absent-from turns t q (slice_set queues q removed) removed (slice_get-set_same queues q old removed there) (left turns t q queues old removed e there was order members)

-- behind them it is in the same queue
pub requeued : (turns : List Turn) (t stamp q : ℕ) (queues : List (List ℕ)) (old removed new : List ℕ) → queue_of turns t ≡ Some q → slice_get queues q ≡ Some old → AreQueued turns queues
    → IsInOrder turns removed → ((u : ℕ) → has removed u ≡ (not (t == u) && has old u))
    → IsInOrder (change (restamped stamp) turns t) new → ((u : ℕ) → has new u ≡ has (t ∷ removed) u) → AreQueued (change (restamped stamp) turns t) (slice_set queues q new)
requeued turns t stamp q queues old removed new e there was order members later joins =
    rw (← set-twice queues q removed new)
    (joined (change (restamped stamp) turns t) t q (slice_set queues q removed) removed new (same-queue turns t stamp ∙ e) (slice_get-set_same queues q old removed there)
    (between turns t stamp q queues old removed e there was order members) later joins)

-- and the bit of the queue is on as before
pub requeued-bit : (words : List ℕ) (turns : List Turn) (t q : ℕ) (queues : List (List ℕ)) (old removed new : List ℕ) → queue_of turns t ≡ Some q → slice_get queues q ≡ Some old
    → AreQueued turns queues → ((u : ℕ) → has new u ≡ has (t ∷ removed) u) → IsBitmap words queues → IsBitmap words (slice_set queues q new)
requeued-bit words turns t q queues old removed new e there was joins is =
    let before : has old t ≡ true = (was.queued q old there).members t ∙ is_in-here turns q t e in
    let after : has new t ≡ true = joins t ∙ has-at (t ∷ removed) 0 t refl in
    bitmap-set words words queues q new is refl (is.bits q old there ∙ use-has old t before ∙ sym (use-has new t after)) (λ p other. refl)

-- ---- the turns that a list gives, where an entry has another stamp
pub turns-stamp : {X : Type 0} (f : X → ℕ → Turn) (g : X → X) (stamp : ℕ) (xs : List (Option X)) (ranks : List ℕ) (t : ℕ) (x : X) → length ranks ≡ length xs
    → ((y : X) (rank : ℕ) → f (g y) rank ≡ restamped stamp (f y rank)) → slice_get xs t ≡ Some (Some x)
    → change (restamped stamp) (turns_for f xs ranks) t ≡ turns_for f (change (λ _. Some (g x)) xs t) ranks
turns-stamp {X = X} f g stamp [] ranks t x e same there = cc
turns-stamp {X = X} f g stamp (p ∷ xs) [] t x e same there = absurd (omega arith)
turns-stamp {X = X} f g stamp (p ∷ xs) (r ∷ ranks) zero x e same there =
    let is : p ≡ Some x = cc in
    rw is (ap (λ (turn : Turn). turn ∷ turns_for f xs ranks) (sym (same x r)))
turns-stamp {X = X} f g stamp (p ∷ xs) (r ∷ ranks) (suc t) x e same there =
    change-cons (restamped stamp) (turn_for f p r) (turns_for f xs ranks) t
    ∙ ap (λ (turns : List Turn). turn_for f p r ∷ turns) (turns-stamp f g stamp xs ranks t x (omega arith) same there)
    ∙ sym (ap (λ (ps : List (Option X)). turns_for f ps (r ∷ ranks)) (change-cons (λ _. Some (g x)) p xs t))

-- ---- one entry
entry-some : {X : Type 0} (o : Option (Option X)) (x : X) → entry_of o ≡ Some x → o ≡ Some (Some x)
entry-some None x e = cc
entry-some (Some entry) x e = ap Some e

-- what an entry says is there
pub entry-there : {X : Type 0} (xs : List (Option X)) (t : ℕ) (x : X) → entry xs t ≡ Some x → slice_get xs t ≡ Some (Some x)
entry-there xs t x e = entry-some (slice_get xs t) x e

-- an entry that is none has no stamp
none-kept : {X : Type 0} (f : X → X) (o : Option (Option X)) (x : Option X) → entry_of o ≡ None → o ≡ Some x → option_map f x ≡ x
none-kept f None x none e = cc
none-kept f (Some None) x none e = let is : x ≡ None = cc in rw is refl
none-kept f (Some (Some y)) x none e = cc

pub unstamped : {X : Type 0} (f : X → X) (xs : List (Option X)) (t : ℕ) → entry xs t ≡ None → xs ≡ change (option_map f) xs t
unstamped {X = X} f xs t none = sym (change-same (option_map f) xs t (λ (x : Option X) e. none-kept f (slice_get xs t) x none e))

-- a stamped entry that is there
pub stamped-there : {X : Type 0} (f : X → X) (xs : List (Option X)) (t : ℕ) (x : X) → slice_get xs t ≡ Some (Some x) → slice_set xs t (Some (f x)) ≡ change (option_map f) xs t
stamped-there f xs t x e = rw e refl
