use Rattle.std.proofs.Common.{sym, ◌∙◌, subst}
use Rattle.evm_boost.proofs.Queries.{next-is}
use Rattle.evm_boost.specs.Scheduled.{Scheduled, IsScheduled}
use Rattle.evm_boost.proofs.schedule.Schedule.next_in_band.Goals as goal

pub returns : goal.returns
returns c mutexes tasks is = c.next_in_band.ensures ∙ next-is _ _ mutexes tasks (subst (λ (s : Scheduled). IsScheduled s mutexes tasks) (sym c.self.view_is) is)
