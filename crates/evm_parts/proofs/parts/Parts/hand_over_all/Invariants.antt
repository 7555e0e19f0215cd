use Rattle.std.proofs.Common.{◌≡◌, ◌≤◌, ◌+◌}
use Rattle.evm_model.specs.Passing.{hand_over_below}
use Rattle.evm_parts.proofs.parts.Parts.hand_over_all.Given as goal

-- the mutexes below m have passed on
abbrev pub invariant-passing : goal.invariant-passing
invariant-passing l = record {
  passed : l.self ≡ hand_over_below l.t l.m l.fn.self;
  stamps : l.self.stamps ≤ l.fn.self.stamps + l.m;
}
