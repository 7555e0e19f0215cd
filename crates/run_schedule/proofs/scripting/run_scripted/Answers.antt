use Rattle.std.proofs.Common.{ap, subst, sym}
use Rattle.evm_model.specs.State.{State}
use Rattle.run_schedule.specs.Console.{Printed}
use Rattle.run_schedule.specs.Runs.{HasToldSome}
use Rattle.run_schedule.proofs.Telling.{all-told, begins-fresh, telling-none, telling-told}
use Rattle.run_schedule.proofs.scripting.run_scripted.Goals as goal

pub returns-in-Ok : goal.returns-in-Ok
returns-in-Ok g c =
    let takes = g.W.Sink.takes in
    let first : State = c.in_ok-machine.machine in
    let begins = c.in_ok-machine.ensures.begins in
    let empty = begins-fresh c.args.image.now c.in_ok-boot.boot first begins in
    let none : HasToldSome {W = g.row.W.Denot} takes c.args.output.now first first c.args.output.now c.new-printer.result =
    subst (λ (p : Printed). HasToldSome {W = g.row.W.Denot} takes c.args.output.now first first c.args.output.now p) (sym c.new-printer.ensures)
    (telling-none takes c.args.output.now first empty c.in_ok-machine.ensures.fresh) in
    let gone : HasToldSome {W = g.row.W.Denot} takes c.args.output.now first c.do_lines.new.self.machine c.do_lines.new.output c.do_lines.new.self.printer = c.in_ok-do_lines.ensures c.args.output.now first none in
    let told : HasToldSome {W = g.row.W.Denot} takes c.args.output.now first c.do_lines.new.self.machine c.tell.new.output c.tell.new.self =
    telling-told takes c.args.output.now c.do_lines.new.output c.tell.new.output first c.do_lines.new.self.machine c.do_lines.new.self.printer c.tell.new.self c.in-Ok.ensures.took c.in-Ok.ensures.told gone in (
      c.in_ok-boot.boot,
      record {
        first = first;
        begins = begins;
        replayed = told.printed.replayed;
        ended = c.concluded-ending.ensures;
        told = all-told takes c.args.output.now c.tell.new.output first c.do_lines.new.self.machine c.tell.new.self (ap (λ (p : Printed). p.text) c.in-Ok.ensures.told) told;
      },
    )
