use Rattle.evm_model.specs.State.{State}
use Rattle.run_schedule.specs.Runs.{HasToldSome}
use Rattle.run_schedule.proofs.scripting.ScriptRun.make_steps.Given as goal

-- what was printed is told or kept
abbrev pub invariant-steps : goal.invariant-steps
invariant-steps g l =
    (start : g.row.W.Denot) (first : State) → HasToldSome {W = g.row.W.Denot} g.W.Sink.takes start first l.fn.self.machine l.fn.output l.fn.self.printer → HasToldSome {W = g.row.W.Denot} g.W.Sink.takes start first l.self.machine l.output l.self.printer
