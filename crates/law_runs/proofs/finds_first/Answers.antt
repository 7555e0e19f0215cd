use Rattle.law_runs.proofs.First.{always_finds_first}
use Rattle.law_runs.proofs.finds_first.Goals as goal

pub returns : goal.returns
returns c = always_finds_first
