use Rattle.std.proofs.Common.{◌≡◌, ◌≤◌, ◌+◌, option_to_list, slice_get, vec_capacity, vec_len}
use Rattle.run_marks.specs.Lists.{below}
use Rattle.run_marks.proofs.observation.see_tasks.Given as goal

-- what there is of those below t, with room for the others
abbrev pub invariant-loop-t : goal.invariant-loop-t
invariant-loop-t g l = record {
  seen : l.tasks.items ≡ below (λ t. option_to_list (slice_get l.machine.board.parts.tasks t)) l.t;
  room : vec_len l.tasks + l.count ≤ vec_capacity l.tasks + l.t;
}
