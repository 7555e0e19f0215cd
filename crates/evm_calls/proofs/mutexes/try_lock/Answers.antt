use Rattle.evm_calls.proofs.Notices.{try_room}
use Rattle.evm_calls.proofs.mutexes.try_lock.Goals as goal

pub notify_refused-requires : goal.notify_refused-requires
notify_refused-requires c = record {
  room = try_room c.args.t c.args.mutex c.args.parts.now c.take_at_once-outcome.new.parts c.take_at_once-outcome.result c.requires.room c.take_at_once-outcome.ensures;
}
