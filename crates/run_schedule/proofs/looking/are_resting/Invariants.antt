use Rattle.std.proofs.Common.{◌≡◌, ℕ, ◌<◌, true}
use Rattle.std.specs.Prelude.{slice_get}
use Rattle.run_schedule.specs.Endings.{is_resting}
use Rattle.run_schedule.proofs.looking.are_resting.Given as goal

abbrev pub invariant-cpus : goal.invariant-cpus
invariant-cpus l = (d : ℕ) → d < l.c → is_resting (slice_get l.machine.board.parts.processors d) (slice_get l.machine.board.parts.pipes d) ≡ true
