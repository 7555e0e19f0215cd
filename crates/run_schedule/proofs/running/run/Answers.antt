use Rattle.std.proofs.Common.{ap, subst, sym}
use Rattle.evm_model.specs.State.{State}
use Rattle.run_schedule.specs.Console.{Printed}
use Rattle.run_schedule.specs.Runs.{HasToldSome}
use Rattle.run_schedule.proofs.Telling.{all-told, begins-fresh, telling-none, telling-told}
use Rattle.run_schedule.proofs.running.run.Goals as goal

pub returns-in-Ok-tell : goal.returns-in-Ok-tell
returns-in-Ok-tell g c =
    let takes = g.W.Sink.takes in
    let first : State = c.in-Ok.machine in
    let empty = begins-fresh c.args.image.now c.args.boot.now first c.in-Ok.ensures.begins in
    let none : HasToldSome {W = g.row.W.Denot} takes c.args.output.now first first c.args.output.now c.new-printer.result =
    subst (λ (p : Printed). HasToldSome {W = g.row.W.Denot} takes c.args.output.now first first c.args.output.now p) (sym c.new-printer.ensures)
    (telling-none takes c.args.output.now first empty c.in-Ok.ensures.fresh) in
    let gone : HasToldSome {W = g.row.W.Denot} takes c.args.output.now first c.go.new.machine c.go.new.output c.go.new.printer = c.in_ok-ending.ensures.telling c.args.output.now first none in
    let told : HasToldSome {W = g.row.W.Denot} takes c.args.output.now first c.go.new.machine c.tell.new.output c.tell.new.self =
    telling-told takes c.args.output.now c.go.new.output c.tell.new.output first c.go.new.machine c.go.new.printer c.tell.new.self c.in-Ok-tell.ensures.took c.in-Ok-tell.ensures.told gone in
    record {
      first = first;
      begins = c.in-Ok.ensures.begins;
      replayed = told.printed.replayed;
      ended = c.concluded-ending.ensures;
      told = all-told takes c.args.output.now c.tell.new.output first c.go.new.machine c.tell.new.self (ap (λ (p : Printed). p.text) c.in-Ok-tell.ensures.told) told;
    }
