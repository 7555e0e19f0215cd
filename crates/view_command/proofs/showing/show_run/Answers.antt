use Rattle.std.proofs.Common.{◌≡◌}
use Rattle.view_command.proofs.showing.show_run.Goals as goal

pub returns-in-Ok : goal.returns-in-Ok
returns-in-Ok g c picture done = (c.in-Ok.timeline, c.unwrap_or.result.now, c.in-Ok.ensures, c.show_timeline.ensures picture done)
