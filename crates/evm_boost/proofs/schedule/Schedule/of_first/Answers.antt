use Rattle.std.proofs.Common.{◌∙◌, refl}
use Rattle.evm_boost.proofs.Queries.{first-scheduled}
use Rattle.evm_boost.proofs.schedule.Schedule.of_first.Goals as goal

pub returns-clause-ok : goal.returns-clause-ok
returns-clause-ok c =
    first-scheduled _ c.args.task
    (c.push.ensures.places ∙ rw (c.in_ok-ready.ensures.places, c.place_of.ensures) refl)
    (c.push-2.ensures.waiters ∙ rw (c.in_ok-waiting.ensures.waiters, c.waiter_of.ensures) refl)
    (c.push.ensures.ranks ∙ rw (c.in_ok-ready.ensures.ranks, c.class_rank-rank.ensures) refl)
    refl
