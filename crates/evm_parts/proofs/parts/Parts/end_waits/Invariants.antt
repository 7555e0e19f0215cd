use Rattle.std.proofs.Common.{◌≡◌, ◌≤◌, ◌+◌}
use Rattle.evm_model.specs.Deadlines.{end_rounds}
use Rattle.evm_parts.proofs.parts.Parts.end_waits.Given as goal

-- so many waits have ended
abbrev pub invariant-ending : goal.invariant-ending
invariant-ending l = record {
  ended : l.self ≡ end_rounds l.c l.round l.fn.self;
  stamps : l.self.stamps ≤ l.fn.self.stamps + l.round;
}
