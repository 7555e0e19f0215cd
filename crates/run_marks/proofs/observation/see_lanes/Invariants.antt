use Rattle.std.proofs.Common.{◌≡◌, ◌≤◌, ◌+◌, option_to_list, vec_capacity, vec_len}
use Rattle.run_marks.specs.Lists.{below}
use Rattle.run_marks.specs.Observations.{lane_at}
use Rattle.run_marks.proofs.observation.see_lanes.Given as goal

-- what there is of those below c, with room for the others
abbrev pub invariant-loop-c : goal.invariant-loop-c
invariant-loop-c g l = record {
  seen : l.lanes.items ≡ below (λ c. option_to_list (lane_at l.machine.board.parts c)) l.c;
  room : vec_len l.lanes + l.count ≤ vec_capacity l.lanes + l.c;
}
