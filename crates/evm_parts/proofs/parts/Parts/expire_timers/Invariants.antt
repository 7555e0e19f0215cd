use Rattle.std.proofs.Common.{◌≡◌, ◌≤◌, ◌+◌}
use Rattle.evm_model.specs.Timers.{expire_below}
use Rattle.evm_parts.proofs.parts.Parts.expire_timers.Given as goal

-- of the timers below n those that were due have expired
abbrev pub invariant-expiring : goal.invariant-expiring
invariant-expiring l = record {
  expired : l.self ≡ expire_below l.c l.n l.fn.self;
  stamps : l.self.stamps ≤ l.fn.self.stamps + l.n;
  ticks : l.self.ticks ≡ l.fn.self.ticks;
}
