use Rattle.std.proofs.Common.{sym, ◌∙◌, ap, subst}
use Rattle.evm_boost.proofs.Queries.{waiter-is}
use Rattle.evm_boost.specs.Lent.{first_by}
use Rattle.evm_boost.specs.Scheduled.{Scheduled, IsScheduled}
use Rattle.evm_boost.proofs.schedule.Schedule.first_waiter.Goals as goal

pub returns : goal.returns
returns c mutexes tasks is =
    c.first.ensures
    ∙ ap (first_by c.self.inside.waiting.waiters c.args.wait) (sym c.self.invariant)
    ∙ waiter-is _ _ mutexes tasks (subst (λ (s : Scheduled). IsScheduled s mutexes tasks) (sym c.self.view_is) is)
