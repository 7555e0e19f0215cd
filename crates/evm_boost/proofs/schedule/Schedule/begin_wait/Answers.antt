use Rattle.std.proofs.Common.{◌∙◌, refl}
use Rattle.evm_boost.proofs.Moves.{relinked-stamped, wait-places, wait-waiters}
use Rattle.evm_boost.proofs.schedule.Schedule.begin_wait.Goals as goal

pub relink-requires : goal.relink-requires
relink-requires c =
    relinked-stamped _ _ _ _ _ _ _ c.args.t c.args.stamp _ (λ task. refl) c.requires c.begin_wait.ensures c.set_stamp.ensures c.boosts-before.ensures
    (c.enter_wait.ensures.places
    ∙ wait-places c.args.wait c.args.deadline c.args.stamp _ _ _ c.args.t _ c.requires.entered.places c.begin_wait.ensures c.set_stamp.ensures)
    (c.enter_wait.ensures.waiters
    ∙ wait-waiters c.args.wait c.args.deadline c.args.stamp _ _ _ c.args.t _ c.requires.entered.waiters c.begin_wait.ensures c.set_stamp.ensures)
    c.enter_wait.ensures.ranks c.enter_wait.ensures.sound
