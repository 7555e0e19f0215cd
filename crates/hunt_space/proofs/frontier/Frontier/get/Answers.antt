use Rattle.std.proofs.Common.{◌≡◌, List, Some, subst, sym}
use Rattle.std.specs.Prelude.{slice_get}
use Rattle.hunt_space.specs.declared.path.Path.{Path}
use Rattle.hunt_space.proofs.Progress.{item-there}
use Rattle.hunt_space.proofs.frontier.Frontier.get.Goals as goal

pub returns-in-Ok : goal.returns-in-Ok
returns-in-Ok c =
    let path = c.in-Some.path.now in
    let there = item-there c.deref.result.now c.args.number path c.in-Some.ensures.lookup.0 c.in-Some.ensures.lookup.1 in
    (path, subst (λ (paths : List Path). slice_get paths c.args.number ≡ Some path) c.deref.ensures.value there, sym c.in-Ok.ensures.turns, sym c.in-Ok.ensures.cpu)
