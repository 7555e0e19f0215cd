use Rattle.std.proofs.Common.{◌≡◌, List, [], ◌∷◌, ◌++◌, refl, subst}
use Rattle.hunt_space.specs.declared.visited.StatePlace.{StatePlace}
use Rattle.hunt_space.proofs.Covering.{alike-same, stamps-below}
use Rattle.hunt_space.proofs.Progress.{visited-last}
use Rattle.hunt_space.proofs.seeing.enter.Goals as goal

pub returns-in-Ok-clause-comes : goal.returns-in-Ok-clause-comes
returns-in-Ok-clause-comes c =
    let s = c.args.position.now.machine.now in
    let place : StatePlace = record { path = c.args.going.now.number; steps = c.args.position.now.steps } in
    let added : c.add.new.self.places.items ≡ c.args.visited.now.places.items ++ place ∷ [] = subst (λ (xs : List StatePlace). c.add.new.self.places.items ≡ xs ++ place ∷ []) c.is_covered.ensures.same c.in-Ok.ensures.added in (
      added,
      (λ first starts. visited-last c.args.going.now.bounds first c.args.frontier.now.paths.items c.args.visited.now.places.items c.add.new.self.places.items c.args.going.now.number c.args.going.now.path.now.turns.items c.args.going.now.path.now.cpu c.args.position.now.steps s
          c.requires.there (c.requires.at first starts) added (alike-same c.args.going.now.bounds.ticks s s (stamps-below s c.rules.ensures.good) c.requires.fits refl)),
    )
