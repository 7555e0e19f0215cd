use Rattle.std.proofs.Common.{◌≡◌, ◌<◌, ℕ, false}
use Rattle.std.specs.Prelude.{slice_get}
use Rattle.law_runs.specs.Ahead.{skips}
use Rattle.hunt_space.proofs.undebugged.none_skips.Given as goal

abbrev pub invariant-cpus : goal.invariant-cpus
invariant-cpus l = (c : ℕ) → c < l.cpu → skips (slice_get l.machine.board.parts.processors c) ≡ false
