use Rattle.std.proofs.Common.{◌≡◌, ℕ, ◌<◌, true}
use Rattle.std.specs.Prelude.{slice_get}
use Rattle.hunt_failures.specs.Failures.{is_quiet_pipe}
use Rattle.hunt_failures.proofs.looks.are_quiet.Given as goal

abbrev pub invariant-cpus : goal.invariant-cpus
invariant-cpus l = (d : ℕ) → d < l.c → is_quiet_pipe (slice_get l.machine.board.parts.pipes d) ≡ true
