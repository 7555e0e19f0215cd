-- the image is that of the shell
use Rattle.std.proofs.Common.{◌≡◌}
use Rattle.sh_command.proofs.reading.serve_lines.Given as goal

abbrev pub invariant-loop : goal.invariant-loop
invariant-loop g l = l.shell.scripted.image ≡ l.fn.shell.scripted.image
