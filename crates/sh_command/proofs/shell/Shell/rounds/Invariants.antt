-- the image is that of the shell
use Rattle.std.proofs.Common.{◌≡◌}
use Rattle.sh_command.proofs.shell.Shell.rounds.Given as goal

abbrev pub invariant-loop-done : goal.invariant-loop-done
invariant-loop-done g l = l.self.scripted.image ≡ l.fn.self.scripted.image
