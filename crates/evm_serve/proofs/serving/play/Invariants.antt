use Rattle.std.proofs.Common.{◌+◌, ◌≤◌, length}
use Rattle.evm_serve.specs.RunOptions.{HoldsDevices}
use Rattle.evm_serve.specs.RunNotes.{notes}
use Rattle.evm_serve.specs.Script.{script_report}
use Rattle.evm_serve.proofs.Noted.{NotedSoFar}
use Rattle.evm_serve.proofs.Runs.{WrittenSoFar}
use Rattle.evm_serve.proofs.serving.play.Given as goal

-- the texts so far were written, and the report of the lines that are left comes behind them; likewise the notes
abbrev pub invariant-lines : goal.invariant-lines
invariant-lines g l = record {
  report : WrittenSoFar g.W.Sink.takes l.fn.options (script_report l.fn.options l.script.text.now) l.fn.writer l.writer l.number l.rest l.run.machine;
  noted : NotedSoFar g.E.Sink.takes l.fn.options l.script.name.now (notes l.fn.options l.script.name.now l.script.text.now) l.fn.errors l.errors l.number l.rest l.run.machine;
  held : HoldsDevices l.run.machine l.run.devices l.fn.options.devices;
  numbered : l.number + length l.rest ≤ length l.script.text.now + 1;
}

abbrev pub decreases-lines : goal.decreases-lines
decreases-lines g l = length l.rest
