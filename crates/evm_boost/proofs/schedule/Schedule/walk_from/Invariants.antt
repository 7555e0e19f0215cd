use Rattle.std.proofs.Common.{◌≡◌, ℕ, Bool, Some}
use Rattle.evm_boost.specs.Settling.{IsSettling}
use Rattle.evm_model.specs.Mending.{with_task}
use Rattle.evm_model.specs.Mutexes.{boosts}
use Rattle.evm_model.specs.Boosts.{walk}
use Rattle.evm_boost.proofs.schedule.Schedule.walk_from.Given as goal

-- the task where the walk is, if it goes on, is left to be mended beside the rest
abbrev pub invariant-loop-link : goal.invariant-loop-link
invariant-loop-link l = record {
  settled : (rest : ℕ → Bool) → IsSettling (with_task (Some l.from) rest) l.fn.self l.mutexes l.tasks → IsSettling (with_task l.at rest) l.self l.mutexes l.tasks;
  way : (u : ℕ) → l.at ≡ Some u → walk (boosts l.mutexes l.tasks) l.link l.from ≡ Some u;
  sound : l.self.sound ≡ l.fn.self.sound;
}
