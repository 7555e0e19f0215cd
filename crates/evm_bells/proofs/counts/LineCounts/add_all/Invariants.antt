use Rattle.std.proofs.Common.{◌≡◌, ℕ, ◌+◌, ◌%◌, ◌^◌, ◌<◌, ◌≤◌, [], length, slice_index_or}
use Rattle.evm_lines.specs.declared.TheConstants.{LINES}
use Rattle.evm_bells.specs.declared.counts.TheConstants.{PROCESSOR_LIMIT}
use Rattle.evm_bells.specs.Batches.{counter}
use Rattle.evm_bells.proofs.counts.LineCounts.add_all.Given as goal

abbrev pub invariant-loop-cpu : goal.invariant-loop-cpu
invariant-loop-cpu l = record {
  long : length l.self.rows ≡ PROCESSOR_LIMIT;
  added : (c k : ℕ) → c < l.cpu → k < LINES → counter l.self.rows c k ≡ (counter l.initial.self.rows c k + counter l.other.rows c k) % 2 ^ 64;
  rest : (c : ℕ) → l.cpu ≤ c → slice_index_or l.self.rows c [] ≡ slice_index_or l.initial.self.rows c [];
}
