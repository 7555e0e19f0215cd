use Rattle.evm_calls.proofs.Notices.{lock_room}
use Rattle.evm_calls.proofs.mutexes.lock.Goals as goal

pub notify_refused-requires : goal.notify_refused-requires
notify_refused-requires c = record {
  room = lock_room c.args.t c.args.mutex c.args.parts.now c.take_or_wait-outcome.new.parts c.take_or_wait-outcome.result c.requires.room c.args.c c.args.deadline c.take_or_wait-outcome.ensures;
}
