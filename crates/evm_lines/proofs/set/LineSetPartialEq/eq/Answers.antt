use Rattle.std.proofs.Common.{rules}
use Rattle.evm_lines.proofs.Words.{same_word}
use Rattle.evm_lines.proofs.set.LineSetPartialEq.eq.Goals as goal

pub returns : goal.returns
returns c = rw c.eq.ensures (same_word _ _ _ _ (search rules) (search rules) (search rules) (search rules))
