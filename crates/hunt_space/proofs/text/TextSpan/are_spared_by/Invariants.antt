use Rattle.std.proofs.Common.{◌≡◌, ℕ, ◌<◌, Some, true}
use Rattle.std.specs.Prelude.{slice_get}
use Rattle.law_runs.specs.Ahead.{actor}
use Rattle.law_runs.specs.Sparing.{spares_text}
use Rattle.hunt_space.proofs.text.TextSpan.are_spared_by.Given as goal

abbrev pub invariant-cpus : goal.invariant-cpus
invariant-cpus l = (i c t : ℕ) → i < l.cpu-index → slice_get l.cpus i ≡ Some c → actor c l.machine.board ≡ Some t → spares_text l.self.low l.self.high l.machine.board.memory (slice_get l.machine.board.parts.harts t) ≡ true
