use Rattle.evm_serve.proofs.Behind.{more}
use Rattle.evm_serve.proofs.session.Session.run.Goals as goal

pub returns-in-Ok-clause-scripted : goal.returns-in-Ok-clause-scripted
returns-in-Ok-clause-scripted g c = λ devices image s. more devices image _ _ _ _ c.in-Ok.ensures.done s
