use Rattle.std.proofs.Common.{◌≡◌, List, Some, subst}
use Rattle.std.specs.Prelude.{slice_get}
use Rattle.hunt_space.specs.declared.visited.StatePlace.{StatePlace}
use Rattle.hunt_space.proofs.Progress.{known-by}
use Rattle.hunt_space.proofs.seeing.is_covered.Goals as goal

pub returns-in-Ok-true-clause-known : goal.returns-in-Ok-true-clause-known
returns-in-Ok-true-clause-known c same first starts =
    let place = c.in-Some-found.place in
    let at = c.in-Some-found.ensures in
    known-by c.args.going.now.bounds first c.args.frontier.now.paths.items c.args.visited.now.places.items place c.args.position.now.machine.now
    (at.0, subst (λ (xs : List StatePlace). slice_get xs at.0 ≡ Some place) c.candidates.invariant.same at.1) (c.in-Ok-true.ensures.alike c.in-Ok-true.field-0-test first starts)
