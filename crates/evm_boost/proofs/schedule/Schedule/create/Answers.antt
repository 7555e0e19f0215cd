use Rattle.std.proofs.Common.{◌∙◌, sym}
use Rattle.evm_boost.proofs.Passing.{create-settling}
use Rattle.evm_boost.proofs.schedule.Schedule.create.Goals as goal

pub mend-requires : goal.mend-requires
mend-requires c =
    create-settling _ _ _ _ _ c.args.mutex c.requires.scheduled c.create.ensures c.trust.ensures.places c.trust.ensures.waiters c.trust.ensures.ranks
    (λ yes. c.is_sound_without-open.ensures.sound (sym c.trust.ensures.sound ∙ yes)) (λ yes. c.is_sound_without-open.ensures.nobody (sym c.trust.ensures.sound ∙ yes))
