-- Queues of tasks: in each the task that goes first is at the head.
use Rattle.std.specs.Prelude.{◌≡◌, ◌≤◌, ◌<◌, ◌*◌, ◌/◌, ◌%◌, ⊤, ℕ, List, [], ◌∷◌, Option, Some, None, Bool, true, false, ◌||◌, ◌&&◌, ◌==◌, not, nat_lt, if◌then◌else◌, length, slice_get, slice_index}
use Rattle.std.specs.Int.{bit_at}
use Rattle.evm_ready.specs.declared.turn.Turn.{Turn}

-- ---- whose turn it is
abbrev pub rank_of_turn : Option Turn → ℕ
rank_of_turn None = 0
rank_of_turn (Some turn) = turn.rank

abbrev pub stamp_of_turn : Option Turn → ℕ
stamp_of_turn None = 0
stamp_of_turn (Some turn) = turn.stamp

-- the rank and the stamp by which task t has its place
abbrev pub turn_rank : List Turn → ℕ → ℕ
turn_rank turns t = rank_of_turn (slice_get turns t)

abbrev pub turn_stamp : List Turn → ℕ → ℕ
turn_stamp turns t = stamp_of_turn (slice_get turns t)

-- by rank, stamp and number: the greater rank, then the lesser stamp, then the lesser number
abbrev pub is_ahead : ℕ → ℕ → ℕ → ℕ → ℕ → ℕ → Bool
is_ahead rank stamp t other_rank other_stamp u =
    if nat_lt other_rank rank then true else (
    if nat_lt rank other_rank then false else (
    if nat_lt stamp other_stamp then true else (
    if nat_lt other_stamp stamp then false else nat_lt t u)))

-- in a queue task t has its place before task u
unfoldable pub precedes : List Turn → ℕ → ℕ → Bool
precedes turns t u = is_ahead (turn_rank turns t) (turn_stamp turns t) t (turn_rank turns u) (turn_stamp turns u) u

-- the same turn with another stamp
abbrev pub restamped : ℕ → Turn → Turn
restamped stamp turn = record turn { stamp = stamp }

-- ---- one queue
-- task t is in the queue
abbrev pub has : List ℕ → ℕ → Bool
has [] t = false
has (u ∷ queue) t = u == t || has queue t

-- each precedes all behind it
abbrev pub IsInOrder : List Turn → List ℕ → Type 0
IsInOrder turns [] = ⊤
IsInOrder turns (t ∷ queue) = ((u : ℕ) → has queue u ≡ true → precedes turns t u ≡ true) × IsInOrder turns queue

-- the queue has these tasks and no others, in order
pub record IsQueueOf (turns : List Turn) (member : ℕ → Bool) (queue : List ℕ) : Type 0 where
  pub in_order : IsInOrder turns queue
  pub members : (t : ℕ) → has queue t ≡ member t

-- ---- many queues, by their numbers
abbrev pub is_queue : ℕ → Option ℕ → Bool
is_queue q None = false
is_queue q (Some p) = p == q

abbrev pub turn_in : ℕ → Option Turn → Bool
turn_in q None = false
turn_in q (Some turn) = is_queue q turn.queue

-- the turn of task t is in queue q
abbrev pub is_in : List Turn → ℕ → ℕ → Bool
is_in turns q t = turn_in q (slice_get turns t)

-- each task is in the queue of its turn
pub record AreQueued (turns : List Turn) (queues : List (List ℕ)) : Type 0 where
  pub queued : (q : ℕ) (queue : List ℕ) → slice_get queues q ≡ Some queue → IsQueueOf turns (is_in turns q) queue

-- each but task t, which is in none
pub record AreQueuedBut (t : ℕ) (turns : List Turn) (queues : List (List ℕ)) : Type 0 where
  pub queued : (q : ℕ) (queue : List ℕ) → slice_get queues q ≡ Some queue → IsQueueOf turns (λ u. not (t == u) && is_in turns q u) queue

-- ---- the bitmap of the queues, 64 a word
abbrev pub bit_of : List ℕ → ℕ → ℕ
bit_of words q = bit_at (slice_index words (q / 64)) (q % 64)

-- 1 for a queue that has a task, else 0
abbrev pub use_bit : List ℕ → ℕ
use_bit [] = 0
use_bit (t ∷ queue) = 1

-- a bit is set exactly for each queue that has a task
pub record IsBitmap (words : List ℕ) (queues : List (List ℕ)) : Type 0 where
  pub enough : length queues ≤ length words * 64
  pub bits : (q : ℕ) (queue : List ℕ) → slice_get queues q ≡ Some queue → bit_of words q ≡ use_bit queue

-- the queues from one number up to another are empty
abbrev pub AreEmpty : List (List ℕ) → ℕ → ℕ → Type 0
AreEmpty queues from to = (q : ℕ) (queue : List ℕ) → from ≤ q → q < to → slice_get queues q ≡ Some queue → queue ≡ []

-- the turns of the tasks, by their numbers, and how many queues there are
pub record Queued : Type 0 where
  pub turns : List Turn
  pub count : ℕ

-- no task's turn is in the queues from one number up to another
abbrev pub NoneIn : List Turn → ℕ → ℕ → Type 0
NoneIn turns from to = (q t : ℕ) → from ≤ q → q < to → is_in turns q t ≡ false

-- ---- the turns that a list gives: an entry for each task, beside its rank
-- a task that has no entry is in no queue
abbrev pub turn_for : {X : Type 0} → (X → ℕ → Turn) → Option X → ℕ → Turn
turn_for f None rank = record { queue = None; rank = rank; stamp = 0 }
turn_for f (Some x) rank = f x rank

abbrev pub turns_for : {X : Type 0} → (X → ℕ → Turn) → List (Option X) → List ℕ → List Turn
turns_for f [] ranks = []
turns_for f (x ∷ xs) [] = []
turns_for f (x ∷ xs) (rank ∷ ranks) = turn_for f x rank ∷ turns_for f xs ranks
