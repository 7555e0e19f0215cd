use Rattle.claims_threads.proofs.Answered.{tick_full, tick_made, tick_seen}
use Rattle.claims_threads.proofs.calls.a_tick_is_answered_by_all_calls_before_it.Goals as goal

pub returns-clause-seen : goal.returns-clause-seen
returns-clause-seen g c = tick_seen g.O.Origin.machine c.tick.result c.args.port.now c.tick.new.port c.tick.ensures.call

pub returns-clause-made : goal.returns-clause-made
returns-clause-made g c = tick_made g.O.Origin.machine c.tick.result c.args.port.now c.tick.new.port c.tick.ensures.call

pub returns-clause-full : goal.returns-clause-full
returns-clause-full g c = tick_full g.O.Origin.machine c.tick.result c.args.port.now c.tick.new.port c.tick.ensures.call
