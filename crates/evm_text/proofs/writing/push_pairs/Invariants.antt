use Rattle.std.proofs.Common.{◌≡◌, ◌+◌, ◌*◌, ◌-◌, ◌≤◌, ◌++◌, length, take}
use Rattle.std.specs.String.{string_bytes, string_len, string_capacity}
use Rattle.evm_text.specs.Written.{pairs}
use Rattle.evm_text.proofs.writing.push_pairs.Given as goal

abbrev pub invariant-loop-byte : goal.invariant-loop-byte
invariant-loop-byte l = record {
  told : string_bytes l.out ≡ string_bytes l.fn.out ++ pairs (take l.byte-index l.bytes);
  len : string_len l.out ≡ string_len l.fn.out + 2 * l.byte-index;
  room : string_len l.out + 2 * (length l.bytes - l.byte-index) ≤ string_capacity l.out;
  grown : string_capacity l.fn.out ≤ string_capacity l.out;
}
