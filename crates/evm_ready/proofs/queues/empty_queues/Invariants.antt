use Rattle.std.proofs.Common.{◌≡◌, ◌≤◌, ℕ, List, [], replicate, vec_capacity, vec_len}
use Rattle.evm_ready.proofs.queues.empty_queues.Given as goal

-- there are as many as were made, with room for the others
pub record Made (items : List (List ℕ)) (len capacity i count : ℕ) : Type 0 where
  pub empty : items ≡ replicate i []
  pub made : len ≡ i
  pub room : count ≤ capacity

abbrev pub invariant-loop : goal.invariant-loop
invariant-loop l = Made l.queues.items (vec_len l.queues) (vec_capacity l.queues) l.counter l.count
