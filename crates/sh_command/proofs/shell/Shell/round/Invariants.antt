-- the image is that of the shell
use Rattle.std.proofs.Common.{◌≡◌}
use Rattle.sh_command.proofs.shell.Shell.round.Given as goal

abbrev pub invariant-loop-c : goal.invariant-loop-c
invariant-loop-c g l = l.self.scripted.image ≡ l.fn.self.scripted.image
