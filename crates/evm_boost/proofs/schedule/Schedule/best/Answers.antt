use Rattle.std.proofs.Common.{sym, ◌∙◌, subst}
use Rattle.evm_boost.proofs.Queries.{best-is}
use Rattle.evm_boost.specs.Scheduled.{Scheduled, IsScheduled}
use Rattle.evm_boost.proofs.schedule.Schedule.best.Goals as goal

pub returns : goal.returns
returns c mutexes tasks is = c.best.ensures ∙ best-is _ _ mutexes tasks (subst (λ (s : Scheduled). IsScheduled s mutexes tasks) (sym c.self.view_is) is)
