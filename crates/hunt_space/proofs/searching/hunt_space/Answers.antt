use Rattle.std.proofs.Common.{◌≡◌, [], subst, sym}
use Rattle.hunt_search.specs.Hunts.{AreFound}
use Rattle.hunt_space.proofs.Closing.{completes}
use Rattle.hunt_space.proofs.searching.hunt_space.Goals as goal

pub returns-clause-complete : goal.returns-clause-complete
returns-clause-complete g c empty uncut =
    let known = c.told.ensures.cut uncut in
    let same : c.search_all.new.report.rows.items ≡ [] = subst (λ rows. rows.items ≡ []) c.told.ensures.rows empty in
    completes c.args.target.now.image.now c.args.target.now.boot.now c.args.target.now.wanted.now c.args.bounds.now.events c.in-Ok.gone.search.frontier.paths.items c.in-Ok.gone.search.visited.places.items c.in-Ok.gone.count
    (c.in-Ok.ensures.searched same known.0) known.1

pub returns-clause-found : goal.returns-clause-found
returns-clause-found g c =
    subst (λ rows. AreFound c.args.target.now.image.now c.args.target.now.boot.now c.args.target.now.wanted.now.lines rows.items) (sym c.told.ensures.rows) c.in-Ok.ensures.found
