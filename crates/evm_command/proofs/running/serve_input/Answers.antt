use Rattle.std.proofs.Common.{Ok, Err, subst, List, ℕ}
use Rattle.evm_command.specs.Jobs.{ServesScript}
use Rattle.evm_command.proofs.running.serve_input.Goals as goal

pub returns-in-Ok : goal.returns-in-Ok
returns-in-Ok g c =
    let P : List ℕ → Type 0 = λ script. ServesScript g.S.Output.Sink.takes g.S.Errors.Sink.takes
    c.args.options script (record c.args.world.now { input = c.read_all.new.source }) c.serve_text.new.world c.serve_text.result in
    let served : P c.in-Ok.script.items = subst P c.as_slice.ensures.value c.serve_text.ensures in
    (Ok c.in-Ok.script.items, c.read_all.new.source, c.in-Ok.ensures, served)

pub returns-in-Err : goal.returns-in-Err
returns-in-Err g c = (Err c.in-Err.stop, c.read_all.new.source, c.in-Err.ensures, c.not_read.ensures)
