use Rattle.hunt_space.proofs.Unguarded.{searches_without_watchdog}
use Rattle.hunt_space.proofs.searches_without_watchdog.Goals as goal

pub returns : goal.returns
returns c = searches_without_watchdog
