use Rattle.std.proofs.Common.{◌%◌, arith}
use Rattle.evm_text.proofs.WordDigits.{pair_at}
use Rattle.evm_text.proofs.hexadecimal.low_digit.Goals as goal

pub returns : goal.returns
returns c = (pair_at (c.args.n % 256) (omega arith)).1
