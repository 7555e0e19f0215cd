use Rattle.std.proofs.Common.{◌≡◌, ℕ, ◌<◌, ◌≤◌, length}
use Rattle.std.specs.Prelude.{slice_index}
use lib.ListN.{get_elem?}
use mathlib.Core.Option.{some}
use Rattle.std.specs.Slots.{slots_items}
use Rattle.evm_bells.specs.declared.counts.TheConstants.{PROCESSOR_LIMIT}
use Rattle.evm_bells.proofs.bells.Bells.left.Given as goal

abbrev pub invariant-loop-cpu : goal.invariant-loop-cpu
invariant-loop-cpu l = record {
  long : length l.left ≡ PROCESSOR_LIMIT;
  read : (k : ℕ) → k < l.cpu → get_elem? (slots_items l.closed.words) k ≡ some (slice_index l.left k);
  rest : (k : ℕ) → l.cpu ≤ k → slice_index l.left k ≡ 0;
}
