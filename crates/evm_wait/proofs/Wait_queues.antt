-- The head of an object's queue is the first of those that wait for it.
use Rattle.std.proofs.Common.{◌≡◌, ℕ, List, Option, Some, None, length, refl, ◌∙◌}
use Rattle.evm_model.specs.Ranks.{first}
use Rattle.evm_model.specs.declared.task.Wait.{Wait}
use Rattle.evm_ready.specs.ListedRanks.{listed_rank}
use Rattle.evm_ready.specs.Places.{entry}
use Rattle.evm_ready.specs.Queues.{is_in, is_queue, turn_for, turn_rank, turn_stamp}
use Rattle.evm_ready.proofs.Listed_turns.{length-turns, in-turns, rank-turns, stamp-turns}
use Rattle.evm_ready.proofs.Queued_first.{first-alike}
use Rattle.evm_wait.specs.declared.waiter.Waiter.{Waiter}
use Rattle.evm_wait.specs.Waiters.{waiter_stamp, waits_for}
use Rattle.evm_wait.specs.WaitTurns.{IsQueueFor, wait_turns, waiter_turn}

turn-waits : (wait : Wait) (q : ℕ) (waiter : Option Waiter) (rank : ℕ) → IsQueueFor wait q → is_queue q (turn_for waiter_turn waiter rank).queue ≡ waits_for wait waiter
turn-waits wait q None rank is = refl
turn-waits wait q (Some waiter) rank is = is.members waiter.wait

turn-rank : (waiter : Option Waiter) (rank : ℕ) → (turn_for waiter_turn waiter rank).rank ≡ rank
turn-rank None rank = refl
turn-rank (Some waiter) rank = refl

turn-stamp : (waiter : Option Waiter) (rank : ℕ) → (turn_for waiter_turn waiter rank).stamp ≡ waiter_stamp waiter
turn-stamp None rank = refl
turn-stamp (Some waiter) rank = refl

pub waiting-head : (waiters : List (Option Waiter)) (ranks : List ℕ) (wait : Wait) (q : ℕ) → length ranks ≡ length waiters → IsQueueFor wait q
    → first (is_in (wait_turns waiters ranks) q) (turn_rank (wait_turns waiters ranks)) (turn_stamp (wait_turns waiters ranks)) (length (wait_turns waiters ranks))
    ≡ first (λ t. waits_for wait (entry waiters t)) (listed_rank ranks) (λ t. waiter_stamp (entry waiters t)) (length waiters)
waiting-head waiters ranks wait q e is =
    rw (length-turns waiter_turn waiters ranks e)
    (first-alike (is_in (wait_turns waiters ranks) q) (λ t. waits_for wait (entry waiters t)) (turn_rank (wait_turns waiters ranks)) (listed_rank ranks)
    (turn_stamp (wait_turns waiters ranks)) (λ t. waiter_stamp (entry waiters t)) (length waiters)
    (λ t. in-turns waiter_turn waiters ranks q t e ∙ turn-waits wait q (entry waiters t) (listed_rank ranks t) is)
    (λ t h. (
      rank-turns waiter_turn waiters ranks t e ∙ turn-rank (entry waiters t) (listed_rank ranks t),
      stamp-turns waiter_turn waiters ranks t e ∙ turn-stamp (entry waiters t) (listed_rank ranks t),
    )))
