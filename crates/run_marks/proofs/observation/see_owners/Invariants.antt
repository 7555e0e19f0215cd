use Rattle.std.proofs.Common.{◌≡◌, ◌≤◌, ◌+◌, option_to_list, vec_capacity, vec_len}
use Rattle.run_marks.specs.Lists.{below}
use Rattle.run_marks.specs.Observations.{owner_at}
use Rattle.run_marks.proofs.observation.see_owners.Given as goal

-- what there is of those below m, with room for the others
abbrev pub invariant-loop-m : goal.invariant-loop-m
invariant-loop-m g l = record {
  seen : l.owners.items ≡ below (λ m. option_to_list (owner_at l.machine.board.parts m)) l.m;
  room : vec_len l.owners + l.count ≤ vec_capacity l.owners + l.m;
}
