use Rattle.law_runs.proofs.Runs.{always_balances, always_balances_loaded, always_balances_fresh, always_raises, always_raises_loaded, always_raises_fresh}
use Rattle.law_runs.proofs.balance_holds.Goals as goal

pub returns : goal.returns
returns c = record {
  booted = always_balances;
  loaded = always_balances_loaded;
  fresh = always_balances_fresh;
  raised = always_raises;
  raised_loaded = always_raises_loaded;
  raised_fresh = always_raises_fresh;
}
