use Rattle.claims_texts.proofs.Line_faults.{refused_with_the_least}
use Rattle.claims_texts.proofs.faults.refused_with_the_least.Goals as goal

pub returns : goal.returns
returns c = refused_with_the_least
