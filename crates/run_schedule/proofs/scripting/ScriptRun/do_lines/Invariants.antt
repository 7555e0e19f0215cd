use Rattle.std.proofs.Common.{length}
use Rattle.evm_model.specs.State.{State}
use Rattle.run_schedule.specs.Runs.{HasToldSome}
use Rattle.run_schedule.proofs.scripting.ScriptRun.do_lines.Given as goal

-- what was printed is told or kept
abbrev pub invariant-lines : goal.invariant-lines
invariant-lines g l =
    (start : g.row.W.Denot) (first : State) → HasToldSome {W = g.row.W.Denot} g.W.Sink.takes start first l.fn.self.machine l.fn.output l.fn.self.printer → HasToldSome {W = g.row.W.Denot} g.W.Sink.takes start first l.self.machine l.output l.self.printer

abbrev pub decreases-lines : goal.decreases-lines
decreases-lines g l = length l.text
