use Rattle.claims_texts.proofs.Items_worded.{refused_as_meant}
use Rattle.claims_texts.proofs.faults.refused_as_meant.Goals as goal

pub returns : goal.returns
returns c = refused_as_meant
