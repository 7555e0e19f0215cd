use Rattle.evm_serve.proofs.Endings.{finishes}
use Rattle.evm_serve.proofs.serving.run_script.Goals as goal

pub returns-clause-report : goal.returns-clause-report
returns-clause-report g c = finishes _ _ _ _ _ c.play-outcome.result _ c.play-outcome.ensures.report c.ended.ensures
