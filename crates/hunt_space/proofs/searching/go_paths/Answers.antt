use Rattle.std.proofs.Common.{◌≡◌, ℕ, List, inl, inr, refl, ap, subst, arith}
use Rattle.std.specs.Prelude.{slice_get}
use Rattle.hunt_space.specs.Searched.{IsSpaceSearched}
use Rattle.hunt_space.specs.declared.path.Path.{Path}
use Rattle.hunt_space.proofs.Closing.{none-searched, number-within, searched-more, searched-so-far}
use Rattle.hunt_space.proofs.Progress.{path-still}
use Rattle.hunt_space.proofs.searching.go_paths.Goals as goal

pub paths-init : goal.paths-init
paths-init g c = record {
  found = c.requires.found;
  begins = c.requires.begins;
  fresh = c.requires.fresh;
  stands = c.requires.stands;
  root = (c.requires.root.0, ap (λ (xs : List Path). slice_get xs 0) c.requires.root.1, c.requires.root.2);
  boots = inl refl;
  within = omega arith;
  guarded = c.requires.guarded;
  searched = λ empty uncut first begins. none-searched c.args.scope.now.text.low c.args.scope.now.text.high c.args.target.now.wanted.now c.args.scope.now.bounds first c.args.search.now.frontier.paths.items c.args.search.now.visited.places.items c.requires.none;
}

pub paths-preserved : goal.paths-preserved
paths-preserved g c =
    let all = c.paths.invariant in
    let here = rw c.in-Ok-Some.field-0-is at c.in-Ok-Some.ensures in
    let paths = c.paths.search.frontier.paths.items in
    let paths' = c.look.new.search.frontier.paths.items in
    let turns = c.in-Ok-Some.path.turns.items in
    let cpu = c.in-Ok-Some.path.cpu in record {
      found = c.in-Ok-true.ensures.found;
      begins = all.begins;
      fresh = all.fresh;
      stands = c.in-Ok-true.ensures.stands c.in-Ok-true.field-0-test;
      root = (all.root.0, c.look.ensures.keeps_paths 0 all.root.0 all.root.1, all.root.2);
      boots = inr c.in-Ok-true.ensures.boots;
      within = number-within paths paths' c.paths.number turns cpu c.look.ensures.keeps_paths here;
      guarded = all.guarded;
      searched = λ empty uncut first begins.
          let gone = c.in-Ok-true.ensures.goes empty uncut in
          searched-more c.args.scope.now.text.low c.args.scope.now.text.high c.args.target.now.wanted.now c.args.scope.now.bounds first paths paths' c.paths.search.visited.places.items c.look.new.search.visited.places.items c.paths.number turns cpu
          c.look.ensures.keeps_paths c.look.ensures.keeps_places all.within (path-still paths paths' c.paths.number turns cpu c.look.ensures.keeps_paths here) (gone.explored first begins) (gone.gone first begins)
          (all.searched (c.in-Ok-true.ensures.rows empty) (c.look.ensures.cut uncut) first begins);
    }

pub returns-then-not-goes_on-clause-searched : goal.returns-then-not-goes_on-clause-searched
returns-then-not-goes_on-clause-searched g c empty uncut =
    let all = c.paths.invariant in
    searched-so-far c.args.scope.now.text.low c.args.scope.now.text.high c.args.target.now.image.now c.args.target.now.boot.now c.args.target.now.wanted.now c.args.scope.now.bounds c.paths.search.frontier.paths.items c.paths.search.visited.places.items c.paths.number
    all.guarded all.root all.boots (all.searched empty uncut)

pub returns-then-search-clause-searched : goal.returns-then-search-clause-searched
returns-then-search-clause-searched g c empty uncut =
    let all = c.paths.invariant in
    searched-so-far c.args.scope.now.text.low c.args.scope.now.text.high c.args.target.now.image.now c.args.target.now.boot.now c.args.target.now.wanted.now c.args.scope.now.bounds c.paths.search.frontier.paths.items c.paths.search.visited.places.items c.paths.number
    all.guarded all.root all.boots (all.searched empty uncut)

pub returns-in-Ok-None-clause-searched : goal.returns-in-Ok-None-clause-searched
returns-in-Ok-None-clause-searched g c empty uncut =
    let all = c.paths.invariant in
    searched-so-far c.args.scope.now.text.low c.args.scope.now.text.high c.args.target.now.image.now c.args.target.now.boot.now c.args.target.now.wanted.now c.args.scope.now.bounds c.paths.search.frontier.paths.items c.paths.search.visited.places.items c.paths.number
    all.guarded all.root all.boots (all.searched empty uncut)

pub returns-clause-searched : goal.returns-clause-searched
returns-clause-searched g c empty uncut =
    let all = c.paths.invariant in
    let last : c.paths.number ≡ 4294967295 = omega arith in
    subst (λ (n : ℕ). IsSpaceSearched c.args.target.now.image.now c.args.target.now.boot.now c.args.target.now.wanted.now c.args.scope.now.bounds c.paths.search.frontier.paths.items c.paths.search.visited.places.items n) last
    (searched-so-far c.args.scope.now.text.low c.args.scope.now.text.high c.args.target.now.image.now c.args.target.now.boot.now c.args.target.now.wanted.now c.args.scope.now.bounds c.paths.search.frontier.paths.items c.paths.search.visited.places.items c.paths.number
    all.guarded all.root all.boots (all.searched empty uncut))
