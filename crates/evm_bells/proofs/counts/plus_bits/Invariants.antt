use Rattle.std.proofs.Common.{◌≡◌, ℕ, ◌+◌, ◌%◌, ◌^◌, ◌<◌, ◌≤◌, length, slice_index}
use Rattle.std.specs.Int.{bit_at}
use Rattle.evm_lines.specs.declared.TheConstants.{LINE_COUNT}
use Rattle.evm_bells.proofs.counts.plus_bits.Given as goal

abbrev pub invariant-loop-line : goal.invariant-loop-line
invariant-loop-line l = record {
  long : length l.row ≡ LINE_COUNT;
  added : (k : ℕ) → k < l.line → slice_index l.row k ≡ (slice_index l.initial.row k + bit_at l.word k) % 2 ^ 64;
  rest : (k : ℕ) → l.line ≤ k → slice_index l.row k ≡ slice_index l.initial.row k;
}
