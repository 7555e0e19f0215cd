use Rattle.std.proofs.Common.{◌≡◌, ◌+◌, length}
use Rattle.evm_model.specs.State.{State}
use Rattle.run_schedule.specs.Runs.{HasToldSome}
use Rattle.run_schedule.proofs.running.go.Given as goal

-- one event was made in each round of the loop
abbrev pub invariant-events : goal.invariant-events
invariant-events g l =
    (length l.machine.journal ≡ length l.fn.machine.journal + l.made)
    × (l.machine.boot ≡ l.fn.machine.boot)
    × ((start : g.row.W.Denot) (first : State) → HasToldSome {W = g.row.W.Denot} g.W.Sink.takes start first l.fn.machine l.fn.output l.fn.printer → HasToldSome {W = g.row.W.Denot} g.W.Sink.takes start first l.machine l.output l.printer)
