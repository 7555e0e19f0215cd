use Rattle.std.proofs.Common.{◌∙◌, sym, refl}
use Rattle.evm_boost.proofs.Passing.{calm-as, hold-settling, idle-settling}
use Rattle.evm_boost.proofs.schedule.Schedule.hold.Goals as goal

pub mend-requires : goal.mend-requires
mend-requires c =
    idle-settling _ _ _ _ _ _ c.args.m (λ mutex. refl) c.requires c.hold.ensures refl refl refl refl (calm-as _ _ c.args.m c.args.t c.args.count (c.is_calm.ensures c.if-is_calm.true))

pub mend-requires-2 : goal.mend-requires-2
mend-requires-2 c =
    hold-settling _ _ _ _ _ c.args.m c.args.t c.args.count _ c.requires c.hold-2.ensures c.owner-before.ensures c.trust.ensures.places c.trust.ensures.waiters c.trust.ensures.ranks
    (λ yes. c.is_free-open.ensures.sound (sym c.trust.ensures.sound ∙ yes)) (λ yes. c.is_free-open.ensures.free (sym c.trust.ensures.sound ∙ yes))
