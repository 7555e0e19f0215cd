use Rattle.std.proofs.Common.{◌∙◌, refl}
use Rattle.evm_boost.proofs.Moves.{relinked-stamped, woken-alone, woken-waiters}
use Rattle.evm_boost.proofs.schedule.Schedule.end_wait.Goals as goal

pub unlink-requires-clause-relinked : goal.unlink-requires-clause-relinked
unlink-requires-clause-relinked c =
    relinked-stamped _ _ _ _ _ _ _ c.args.t c.args.stamp _ (λ task. refl) c.requires c.end_wait.ensures c.set_stamp.ensures c.boosts-before.ensures
    c.enter_ready.ensures.places
    (c.enter_ready.ensures.waiters ∙ woken-waiters c.args.owns c.args.stamp _ _ _ c.args.t _ c.requires.entered.waiters c.end_wait.ensures c.set_stamp.ensures)
    c.enter_ready.ensures.ranks c.enter_ready.ensures.sound

pub unlink-requires-clause-alone : goal.unlink-requires-clause-alone
unlink-requires-clause-alone c = woken-alone c.args.owns c.args.stamp _ c.args.tasks.now _ _ c.args.t c.end_wait.ensures c.set_stamp.ensures
