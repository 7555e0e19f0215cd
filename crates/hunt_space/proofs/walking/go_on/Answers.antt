use Rattle.std.proofs.Common.{◌≡◌, List, Some, subst, sym, ◌∙◌}
use Rattle.std.specs.Prelude.{slice_get}
use Rattle.hunt_space.specs.Passing.{IsVisiting}
use Rattle.hunt_space.specs.Space.{KeepsPaths}
use Rattle.hunt_space.specs.Standing.{IsStanding}
use Rattle.hunt_space.specs.declared.path.Path.{Path}
use Rattle.hunt_space.specs.declared.standing.Stand.{Stand}
use Rattle.hunt_space.specs.declared.visited.StatePlace.{StatePlace}
use Rattle.hunt_space.proofs.Progress.{path-still}
use Rattle.hunt_space.proofs.Walks.{begins-walk, comes-again, comes-first, leads-on, walks-on, walks-out}
use Rattle.hunt_space.proofs.walking.go_on.Goals as goal

pub states-init : goal.states-init
states-init c = record {
  keeps_paths = λ j path h. h;
  keeps_places = λ i place h. h;
  cut = λ none. none;
  replays = λ first h. h;
  first = c.requires.first;
  stands = c.requires.stands;
  there = c.requires.there;
  at = c.requires.at;
  goes = λ none. begins-walk c.args.going.now c.args.frontier.now.paths.items c.args.visited.now.places.items c.args.machine.now;
}

pub returns-in-Ok-Again-clause-goes : goal.returns-in-Ok-Again-clause-goes
returns-in-Ok-Again-clause-goes c alive none =
    let comes = rw c.in-Ok-Again.field-0-is at c.in-Ok-Again.ensures.comes in
    comes-again c.args.going.now c.args.frontier.now.paths.items c.states.frontier.paths.items c.visit.new.frontier.paths.items c.args.visited.now.places.items c.states.visited.places.items c.visit.new.visited.places.items c.states.steps
    c.visit.new.frontier.cut c.args.machine.now c.states.machine (c.states.invariant.goes (c.visit.ensures.cut none)) c.visit.ensures.paths comes

pub returns-in-Ok-Some-clause-goes : goal.returns-in-Ok-Some-clause-goes
returns-in-Ok-Some-clause-goes c alive none =
    let all = c.states.invariant in
    let g = c.args.going.now in
    let before = c.args.frontier.now.paths.items in
    let seen = c.args.visited.now.places.items in
    let paths = c.states.frontier.paths.items in
    let begun = c.args.machine.now in
    let comes = rw c.in-Ok-First.field-0-is at c.in-Ok-First.ensures.comes in
    let moved = rw c.in-Ok-Some.field-0-is at c.in-Ok-Some.ensures.moved in
    let keeps = subst (λ (paths : List Path). KeepsPaths paths c.explore.new.frontier.paths.items) c.visit.ensures.paths c.explore.ensures.keeps in
    let first = comes-first g before paths seen c.states.visited.places.items c.visit.new.visited.places.items c.states.steps c.visit.new.frontier.cut begun c.states.machine (all.goes (c.visit.ensures.cut (c.explore.ensures.cut none))) all.there all.at comes in
    walks-out g before paths c.explore.new.frontier.paths.items seen c.mark.new.visited.places.items c.in-Ok.last begun c.pass_rows.new.machine c.explore.new.machine c.explore.new.frontier.cut c.in-Ok-Some.outcome alive none moved
    (subst (λ (xs : List StatePlace). IsVisiting g before paths seen xs c.in-Ok.last begun c.pass_rows.new.machine) (sym c.mark.ensures.places) (c.in-Ok.ensures.passes before paths seen begun first)) keeps (c.in-Ok-Some.ensures.opens none)

pub states-preserved : goal.states-preserved
states-preserved c =
    let all = c.states.invariant in
    let g = c.args.going.now in
    let before = c.args.frontier.now.paths.items in
    let seen = c.args.visited.now.places.items in
    let paths = c.states.frontier.paths.items in
    let begun = c.args.machine.now in
    let comes = rw c.in-Ok-First.field-0-is at c.in-Ok-First.ensures.comes in
    let moved = rw c.in-Ok-None.field-0-is at c.in-Ok-None.ensures.moved in
    let keeps : KeepsPaths c.states.frontier.paths.items c.explore.new.frontier.paths.items =
    subst (λ (paths : List Path). KeepsPaths paths c.explore.new.frontier.paths.items) c.visit.ensures.paths c.explore.ensures.keeps in record {
      keeps_paths = λ j path h. keeps j path (all.keeps_paths j path h);
      keeps_places = λ i place h. subst (λ (xs : List StatePlace). slice_get xs i ≡ Some place) (sym c.mark.ensures.places) (c.pass_rows.ensures.keeps i place (c.visit.ensures.keeps i place (all.keeps_places i place h)));
      cut = λ none. all.cut (c.visit.ensures.cut (c.explore.ensures.cut none));
      replays = λ first h. c.explore.ensures.replays first (c.pass_rows.ensures.replays first (all.replays first h));
      first = all.first;
      stands = subst (λ (stand : Stand). IsStanding g.first.now stand) (sym (c.mark.ensures.seen ∙ c.pass_rows.ensures.seen)) c.in-Ok-First.ensures.stands;
      there = path-still c.states.frontier.paths.items c.explore.new.frontier.paths.items g.number g.path.now.turns.items g.path.now.cpu keeps all.there;
      at = leads-on g c.in-Ok.last c.pass_rows.new.machine c.explore.new.machine c.in-Ok.ensures.leads moved;
      goes = λ none.
          let first = comes-first g before paths seen c.states.visited.places.items c.visit.new.visited.places.items c.states.steps c.visit.new.frontier.cut begun c.states.machine (all.goes (c.visit.ensures.cut (c.explore.ensures.cut none))) all.there all.at comes in
          walks-on g before paths c.explore.new.frontier.paths.items seen c.mark.new.visited.places.items c.in-Ok.last begun c.pass_rows.new.machine c.explore.new.machine (subst (λ (xs : List StatePlace). IsVisiting g before paths seen xs c.in-Ok.last begun c.pass_rows.new.machine) (sym c.mark.ensures.places) (c.in-Ok.ensures.passes before paths seen begun first)) keeps
          (c.in-Ok-None.ensures.opens none) moved;
    }
