use Rattle.std.proofs.Common.{◌≡◌, ◌<◌, ℕ}
use Rattle.law_runs.specs.Timeless.{due}
use Rattle.hunt_states.proofs.timeless.has_no_timers.Given as goal

abbrev pub invariant-timers : goal.invariant-timers
invariant-timers g l = (j : ℕ) → j < l.n → due l.machine.board.parts.timers j ≡ 0
