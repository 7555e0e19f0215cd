use Rattle.std.proofs.Common.{◌≡◌, ◌<◌, ℕ}
use Rattle.evm_core.specs.Views.{counts_at}
use Rattle.hunt_states.proofs.lists.same_counts.Given as goal

abbrev pub invariant-lines : goal.invariant-lines
invariant-lines g l = (i : ℕ) → i < l.line → counts_at l.c i l.a.board.parts ≡ counts_at l.c i l.b.board.parts
