use Rattle.std.proofs.Common.{◌∙◌, sym}
use Rattle.evm_boost.proofs.Moves.{raised-settling, relink-settling}
use Rattle.evm_boost.proofs.schedule.Schedule.relink.Goals as goal

pub mend-requires : goal.mend-requires
mend-requires c =
    rw c.raised_heir-raised.ensures
    (raised-settling _ _ _ _ c.args.t _ _ c.requires c.boosts-heir.ensures c.trust.ensures.ranks (λ yes. c.is_open-open.ensures.sound (sym c.trust.ensures.sound ∙ yes))
    (relink-settling _ _ _ _ c.args.t _ _ c.requires c.boosts-heir.ensures c.trust.ensures.places c.trust.ensures.waiters c.trust.ensures.ranks
    (λ yes. c.is_open-open.ensures.sound (sym c.trust.ensures.sound ∙ yes)) (λ yes. c.is_open-open.ensures.opens (sym c.trust.ensures.sound ∙ yes))))
