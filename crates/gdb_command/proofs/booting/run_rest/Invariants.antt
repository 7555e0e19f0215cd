use Rattle.std.proofs.Common.{length}
use Rattle.gdb_command.proofs.booting.run_rest.Given as goal

abbrev pub decreases-lines : goal.decreases-lines
decreases-lines g l = length l.rest
