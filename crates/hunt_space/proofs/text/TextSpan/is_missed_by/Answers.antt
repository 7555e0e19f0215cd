use Rattle.std.proofs.Common.{◌≡◌, subst, sym, true}
use Rattle.evm_exec.specs.declared.outcome.Effect.{Effect}
use Rattle.law_runs.specs.Sparing.{effect_spares}
use Rattle.hunt_space.proofs.text.TextSpan.is_missed_by.Goals as goal

pub returns-in-Store : goal.returns-in-Store
returns-in-Store c missed = subst (λ (e : Effect). effect_spares c.args.self.low c.args.self.high e ≡ true) (sym c.in-Store.is) (c.is_missed_at.ensures missed c.in-Store.value)
