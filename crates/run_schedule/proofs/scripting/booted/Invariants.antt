use Rattle.std.proofs.Common.{length}
use Rattle.run_schedule.proofs.scripting.booted.Given as goal

abbrev pub decreases-lines : goal.decreases-lines
decreases-lines l = length l.rest.text.now
