use Rattle.std.proofs.Common.{rules}
use Rattle.evm_ram.proofs.Written.{all_zero}
use Rattle.evm_ram.proofs.ram.Ram.new.Goals as goal

pub invariant_of-result : goal.invariant_of-result
invariant_of-result c = (search rules, (search rules, search rules, search rules), all_zero _ c.args.size _ _ (search rules))
