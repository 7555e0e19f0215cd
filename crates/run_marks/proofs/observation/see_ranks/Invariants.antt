use Rattle.std.proofs.Common.{◌≡◌, ◌≤◌, ◌+◌, option_to_list, vec_capacity, vec_len}
use Rattle.run_marks.specs.Lists.{below}
use Rattle.run_marks.specs.Observations.{rank_at}
use Rattle.run_marks.proofs.observation.see_ranks.Given as goal

-- what there is of those below t, with room for the others
abbrev pub invariant-loop-t : goal.invariant-loop-t
invariant-loop-t g l = record {
  seen : l.ranks.items ≡ below (λ t. option_to_list (rank_at l.machine.board.parts t)) l.t;
  room : vec_len l.ranks + l.count ≤ vec_capacity l.ranks + l.t;
}
