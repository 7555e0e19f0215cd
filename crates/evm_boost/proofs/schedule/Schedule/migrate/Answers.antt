use Rattle.std.proofs.Common.{refl}
use Rattle.evm_boost.proofs.Moves.{relinked-stamped}
use Rattle.evm_boost.proofs.schedule.Schedule.migrate.Goals as goal

pub relink_apart-requires : goal.relink_apart-requires
relink_apart-requires c =
    relinked-stamped _ _ _ _ _ _ _ c.args.t c.args.stamp _ (λ task. refl) c.requires c.migrate.ensures c.set_stamp.ensures c.boosts-before.ensures
    c.enter.ensures.places c.enter.ensures.waiters c.enter.ensures.ranks c.enter.ensures.sound
