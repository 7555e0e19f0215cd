-- each line leaves fewer bytes, and the image is that of the shell
use Rattle.std.proofs.Common.{◌≡◌, length}
use Rattle.sh_command.proofs.reading.answer_whole.Given as goal

abbrev pub invariant-loop-line : goal.invariant-loop-line
invariant-loop-line g l = l.shell.scripted.image ≡ l.fn.shell.scripted.image

abbrev pub decreases-loop-line : goal.decreases-loop-line
decreases-loop-line g l = length l.rest
