use Rattle.evm_asm.proofs.Placed_where_laid.{none_ignored}
use Rattle.claims_texts.proofs.faults.no_fault_is_ignored.Goals as goal

pub returns : goal.returns
returns c = none_ignored
