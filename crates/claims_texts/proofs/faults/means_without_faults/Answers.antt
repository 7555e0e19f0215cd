use Rattle.claims_texts.proofs.First_fault.{means}
use Rattle.claims_texts.proofs.faults.means_without_faults.Goals as goal

pub returns : goal.returns
returns c = means
