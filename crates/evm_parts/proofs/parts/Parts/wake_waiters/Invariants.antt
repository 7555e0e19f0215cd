use Rattle.std.proofs.Common.{◌≡◌, ◌≤◌, ◌+◌}
use Rattle.evm_model.specs.Waits.{wake_below}
use Rattle.evm_parts.proofs.parts.Parts.wake_waiters.Given as goal

-- the tasks below t have woken
abbrev pub invariant-waking : goal.invariant-waking
invariant-waking l = record {
  woken : l.self ≡ wake_below l.c l.line l.t l.fn.self;
  stamps : l.self.stamps ≤ l.fn.self.stamps + l.t;
}
