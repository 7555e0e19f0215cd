use Rattle.std.proofs.Common.{◌∙◌, sym}
use Rattle.evm_boost.proofs.Entries.{entered-room}
use Rattle.evm_boost.proofs.Moves.{push-settling}
use Rattle.evm_boost.proofs.schedule.Schedule.push.Goals as goal

pub add-requires : goal.add-requires
add-requires c = entered-room _ _ c.requires.scheduled.entered c.requires.room

pub mend-requires : goal.mend-requires
mend-requires c =
    rw c.count-t.ensures.count
    (push-settling _ _ _ _ _ c.args.task c.requires.scheduled c.push.ensures
    (c.trust.ensures.places ∙ c.add.ensures.places) (c.trust.ensures.waiters ∙ c.add.ensures.waiters) (c.trust.ensures.ranks ∙ c.add.ensures.ranks)
    (λ yes. sym c.add.ensures.sound ∙ c.is_sound_without-open.ensures.sound (sym c.trust.ensures.sound ∙ yes))
    (λ yes. rw (← c.count-t.ensures.count, ← c.boosts.ensures) (c.is_sound_without-open.ensures.nobody (sym c.trust.ensures.sound ∙ yes))))
