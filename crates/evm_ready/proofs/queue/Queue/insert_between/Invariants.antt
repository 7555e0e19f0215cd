use Rattle.std.proofs.Common.{◌≡◌, ◌≤◌, ◌+◌, ℕ, List, Some, true, length, set}
use Rattle.std.specs.Prelude.{slice_get, insert}
use Rattle.evm_ready.specs.Queues.{precedes}
use Rattle.evm_ready.specs.declared.turn.Turn.{Turn}
use Rattle.evm_ready.proofs.queue.Queue.insert_between.Given as goal

-- those from the place on moved up, since the task precedes them
pub record Comes (turns : List Turn) (queue moved : List ℕ) (t place : ℕ) : Type 0 where
  pub within : place ≤ length queue
  pub longer : length moved ≡ length queue + 1
  pub shifted : set moved place t ≡ insert queue place t
  pub behind : (i u : ℕ) → place ≤ i → slice_get queue i ≡ Some u → precedes turns t u ≡ true

abbrev pub invariant-loop-place : goal.invariant-loop-place
invariant-loop-place l = Comes l.turns l.fn.self l.self l.t l.place

abbrev pub decreases-loop-place : goal.decreases-loop-place
decreases-loop-place l = l.place
