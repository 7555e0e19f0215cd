use Rattle.std.proofs.Common.{◌≡◌, ◌≤◌, ◌+◌}
use Rattle.evm_model.specs.Events.{signal_rounds}
use Rattle.evm_parts.proofs.parts.Parts.signal_all.Given as goal

-- so many of them wait no more
abbrev pub invariant-signalling : goal.invariant-signalling
invariant-signalling l = record {
  signalled : l.self ≡ signal_rounds l.e l.round l.fn.self;
  stamps : l.self.stamps ≤ l.fn.self.stamps + l.round;
}
