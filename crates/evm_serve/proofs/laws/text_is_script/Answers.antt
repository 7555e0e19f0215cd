use Rattle.evm_serve.proofs.SessionTexts.{text_is}
use Rattle.evm_serve.proofs.laws.text_is_script.Goals as goal

pub returns : goal.returns
returns c = text_is
