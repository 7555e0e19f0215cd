use Rattle.evm_model.specs.Event.{event_lent}
use Rattle.run_schedule.proofs.Telling.{telling-on}
use Rattle.run_schedule.proofs.running.go_on.Goals as goal

pub returns-in-Ok-Some-clause-telling : goal.returns-in-Ok-Some-clause-telling
returns-in-Ok-Some-clause-telling g c = λ start first telling.
    telling-on g.W.Sink.takes start c.args.output.now first c.args.machine.now c.advance.new.machine c.in-Ok-Some.field-0 (event_lent c.widen-event.result) c.args.printer.now c.advance.new.printer
    c.in-Ok-Some.ensures.advanced (c.advance.ensures.replays first) telling

pub returns-clause-telling : goal.returns-clause-telling
returns-clause-telling g c = λ start first telling.
    c.in_ok-tell_in_time.ensures start first c.advance.new.machine
    (telling-on g.W.Sink.takes start c.args.output.now first c.args.machine.now c.advance.new.machine c.in-Ok-None.field-0 (event_lent c.widen-event.result) c.args.printer.now c.advance.new.printer
    c.in-Ok-None.ensures.advanced (c.advance.ensures.replays first) telling)
