use Rattle.law_runs.proofs.Fit.{counts_always_fit, counts_always_fit_loaded, counts_always_fit_fresh, holds_always_fit, holds_always_fit_loaded, holds_always_fit_fresh}
use Rattle.law_runs.proofs.counts_fit.Goals as goal

pub returns : goal.returns
returns c = record {
  booted = counts_always_fit;
  loaded = counts_always_fit_loaded;
  fresh = counts_always_fit_fresh;
  holds = holds_always_fit;
  holds_loaded = holds_always_fit_loaded;
  holds_fresh = holds_always_fit_fresh;
}
