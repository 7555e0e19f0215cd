use Rattle.std.proofs.Common.{sym, ◌∙◌, subst}
use Rattle.evm_boost.proofs.Queries.{any-is}
use Rattle.evm_boost.specs.Scheduled.{Scheduled, IsScheduled}
use Rattle.evm_boost.proofs.schedule.Schedule.has_oob.Goals as goal

pub returns : goal.returns
returns c mutexes tasks is = c.has_oob.ensures ∙ any-is _ mutexes tasks (subst (λ (s : Scheduled). IsScheduled s mutexes tasks) (sym c.self.view_is) is)
