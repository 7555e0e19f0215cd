use Rattle.run_schedule.proofs.Telling.{telling-told}
use Rattle.run_schedule.proofs.running.tell_in_time.Goals as goal

pub returns-in-Ok : goal.returns-in-Ok
returns-in-Ok g c = λ start first s telling.
    telling-told g.W.Sink.takes start c.args.output.now c.tell.new.output first s c.args.printer.now c.tell.new.self c.in-Ok.ensures.took c.in-Ok.ensures.told telling
