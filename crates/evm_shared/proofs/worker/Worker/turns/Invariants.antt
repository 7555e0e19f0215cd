use Rattle.std.proofs.Common.{◌≡◌, ◌+◌, ◌≤◌}
use Rattle.std.specs.Prelude.{None}
use Rattle.evm_shared.specs.Workers.{MakesTurns}
use Rattle.evm_shared.proofs.worker.Worker.turns.Given as goal

abbrev pub invariant-loop-turn : goal.invariant-loop-turn
invariant-loop-turn g l = record {
  cpu : l.self.cpu ≡ l.fn.self.cpu;
  bells : l.self.taker.bells ≡ l.fn.self.taker.bells;
  unrefused : l.self.refused ≡ None;
  made : MakesTurns g.O.Origin.machine l.bells.cpus l.turn l.fn.self l.self;
  steps : l.fn.self.port.share.steps + l.turn ≤ l.self.port.share.steps;
}
