use Rattle.claims_threads.proofs.Answered.{deliver_full, deliver_made, deliver_seen}
use Rattle.claims_threads.proofs.calls.a_deliver_is_answered_by_all_calls_before_it.Goals as goal

pub returns-clause-seen : goal.returns-clause-seen
returns-clause-seen g c = deliver_seen g.O.Origin.machine c.args.bells.now.cpus c.args.cpu c.deliver.result c.args.port.now c.deliver.new.port c.deliver.ensures.call

pub returns-clause-made : goal.returns-clause-made
returns-clause-made g c = deliver_made g.O.Origin.machine c.args.bells.now.cpus c.args.cpu c.deliver.result c.args.port.now c.deliver.new.port c.deliver.ensures.call

pub returns-clause-full : goal.returns-clause-full
returns-clause-full g c = deliver_full g.O.Origin.machine c.args.bells.now.cpus c.args.cpu c.deliver.result c.args.port.now c.deliver.new.port c.deliver.ensures.call
