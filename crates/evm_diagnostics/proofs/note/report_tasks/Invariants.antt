use Rattle.evm_streams.specs.Diagnostic.{TellsAll}
use Rattle.evm_diagnostics.specs.Notes.{places_below}
use Rattle.evm_diagnostics.proofs.note.report_tasks.Given as goal

-- the tasks below t that ended by a fault are reported
abbrev pub invariant-loop-t : goal.invariant-loop-t
invariant-loop-t g l = TellsAll g.E.Sink.takes (places_below l.name l.t l.machine.board) l.fn.errors l.errors
