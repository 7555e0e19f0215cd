use Rattle.hunt_space.proofs.Completing.{searches_are_complete}
use Rattle.hunt_space.proofs.searches_are_complete.Goals as goal

pub returns : goal.returns
returns c = searches_are_complete
