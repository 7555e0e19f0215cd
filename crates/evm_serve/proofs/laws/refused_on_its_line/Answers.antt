use Rattle.evm_serve.proofs.Replays.{refused_on_its_line}
use Rattle.evm_serve.proofs.laws.refused_on_its_line.Goals as goal

pub returns : goal.returns
returns c = refused_on_its_line
