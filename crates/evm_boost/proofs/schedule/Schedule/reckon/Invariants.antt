use Rattle.std.proofs.Common.{◌≡◌}
use Rattle.evm_boost.specs.Scatter.{filled}
use Rattle.evm_ready.specs.ListedRanks.{listed_rank}
use Rattle.evm_boost.proofs.schedule.Schedule.reckon.Given as goal

-- those below t have their ranks
abbrev pub invariant-loop-t : goal.invariant-loop-t
invariant-loop-t l = record {
  places : l.self.places ≡ l.fn.self.places;
  waiters : l.self.waiters ≡ l.fn.self.waiters;
  ranks : l.self.ranks ≡ filled (listed_rank l.ranks) l.fn.self.ranks l.t;
  sound : l.self.sound ≡ l.fn.self.sound;
}
