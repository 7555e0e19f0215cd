use Rattle.evm_model.specs.Event.{event_lent}
use Rattle.hunt_space.proofs.Reaching.{event-made, event-refused}
use Rattle.hunt_space.proofs.replaying.repeat_event.Goals as goal

pub returns-in-Ok-clause-repeats : goal.returns-in-Ok-clause-repeats
returns-in-Ok-clause-repeats c = event-made c.args.machine.now c.apply.new.self (event_lent c.args.event) c.in-Ok.field-0 c.in-Ok.ensures.ok

pub returns-in-Err-clause-repeats : goal.returns-in-Err-clause-repeats
returns-in-Err-clause-repeats c = event-refused c.args.machine.now c.apply.new.self (event_lent c.args.event) c.in-Err.field-0 c.in-Err.ensures.err c.in-Err.ensures.unchanged
