use Rattle.std.proofs.Common.{◌∙◌, refl}
use Rattle.std.specs.Prelude.{option_map}
use Rattle.evm_boost.specs.Settling.{stamped}
use Rattle.evm_boost.proofs.Entries.{as-entered, place-stamped, waiter-stamped}
use Rattle.evm_boost.proofs.Moves.{still-settling}
use Rattle.evm_ready.specs.Places.{ready_place, stamped_place}
use Rattle.evm_wait.specs.Waiters.{awaited, stamped_waiter}
use Rattle.evm_boost.proofs.schedule.Schedule.set_stamp.Goals as goal

pub mend-requires : goal.mend-requires
mend-requires c =
    still-settling _ _ _ _ _ _ c.args.t (λ task. refl) (λ task. refl) c.requires c.set_stamp.ensures
    (c.restamp.ensures.places
    ∙ as-entered ready_place (stamped c.args.stamp) (option_map (stamped_place c.args.stamp)) _ _ c.args.t _ (place-stamped c.args.stamp) c.requires.entered.places c.set_stamp.ensures)
    (c.restamp.ensures.waiters
    ∙ as-entered awaited (stamped c.args.stamp) (option_map (stamped_waiter c.args.stamp)) _ _ c.args.t _ (waiter-stamped c.args.stamp) c.requires.entered.waiters c.set_stamp.ensures)
    c.restamp.ensures.ranks c.restamp.ensures.sound
