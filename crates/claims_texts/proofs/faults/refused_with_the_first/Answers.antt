use Rattle.claims_texts.proofs.First_fault.{refused_with_the_first}
use Rattle.claims_texts.proofs.faults.refused_with_the_first.Goals as goal

pub returns : goal.returns
returns c = refused_with_the_first
