use Rattle.claims_texts.proofs.First_fault.{refuses}
use Rattle.claims_texts.proofs.faults.refuses_the_least.Goals as goal

pub returns : goal.returns
returns c = refuses
