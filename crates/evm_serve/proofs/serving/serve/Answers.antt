use Rattle.std.proofs.Common.{Ok, Err}
use Rattle.evm_serve.specs.Script.{script_report}
use Rattle.evm_serve.specs.Serving.{Finishes}
use Rattle.evm_serve.proofs.serving.serve.Goals as goal

pub returns-in-Ok : goal.returns-in-Ok
returns-in-Ok g c =
    let served : Finishes g.W.Sink.takes (script_report c.args.options c.in-Ok.script.items) c.args.writer.now c.serve_script.new.writer c.serve_script.result = rw (← c.as_slice.ensures.value) c.serve_script.ensures in
    (Ok c.in-Ok.script.items, c.in-Ok.ensures, served)

pub returns-in-Err : goal.returns-in-Err
returns-in-Err g c = (Err c.in-Err.stop, c.in-Err.ensures, c.unread.ensures)
