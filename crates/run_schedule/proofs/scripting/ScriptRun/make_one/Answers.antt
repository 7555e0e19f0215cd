use Rattle.evm_model.specs.Event.{event_lent}
use Rattle.run_schedule.proofs.Telling.{telling-on}
use Rattle.run_schedule.proofs.scripting.ScriptRun.make_one.Goals as goal

pub returns-in-Ok-tell_in_time : goal.returns-in-Ok-tell_in_time
returns-in-Ok-tell_in_time g c = λ start first telling.
    c.in-Ok-tell_in_time.ensures start first c.advance.new.machine
    (telling-on g.W.Sink.takes start c.args.output.now first c.args.self.now.machine c.advance.new.machine c.in-Ok.ended (event_lent c.args.event) c.args.self.now.printer c.advance.new.printer
    c.in-Ok.ensures.advanced (c.advance.ensures.replays first) telling)
