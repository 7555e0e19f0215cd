use Rattle.std.proofs.Common.{◌≤◌, ◌+◌, ◌-◌, length, vec_len}
use Rattle.evm_streams.specs.declared.reads.TheConstants.{FILE_LIMIT}
use Rattle.evm_streams.specs.Reads.{Gave}
use Rattle.evm_streams.proofs.reads.read_all.Given as goal

-- what was read so far was given by calls
abbrev pub invariant-parts : goal.invariant-parts
invariant-parts g l = record {
  gave : Gave g.R.Source.gives l.fn.source l.bytes.items l.source;
  limit : length l.bytes.items ≤ FILE_LIMIT;
}

abbrev pub decreases-parts : goal.decreases-parts
decreases-parts g l = FILE_LIMIT + 1 - vec_len l.bytes
