use Rattle.std.proofs.Common.{w64, arith, rules}
use Rattle.std.proofs.lemmas.Nat.Bits.{bit_at-trailing_zeros}
use Rattle.evm_ready.proofs.bitmap.least_bit.Goals as goal

pub returns-else-word-eq0 : goal.returns-else-word-eq0
returns-else-word-eq0 c = search (rules, bit_at-trailing_zeros w64 c.args.word (omega arith) (omega arith))
