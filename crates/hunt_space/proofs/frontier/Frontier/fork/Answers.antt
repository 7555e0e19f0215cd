use Rattle.std.proofs.Common.{◌≡◌, List, Some, length, ap, subst, sym, ◌∙◌}
use Rattle.std.specs.Prelude.{slice_get}
use Rattle.hunt_space.specs.declared.path.Path.{Path}
use Rattle.hunt_space.proofs.Progress.{last-path}
use Rattle.hunt_space.proofs.frontier.Frontier.fork.Goals as goal

pub returns-in-Ok-add-clause-forks : goal.returns-in-Ok-add-clause-forks
returns-in-Ok-add-clause-forks c none =
    let old = c.args.self.now.paths.items in
    (length old, (c.in-Ok.path, ap (λ (xs : List Path). slice_get xs (length old)) c.in-Ok-add.ensures.added ∙ last-path old c.in-Ok.path, c.in-Ok.ensures.turns, c.in-Ok.ensures.cpu))

pub returns-in-Err-add-clause-keeps : goal.returns-in-Err-add-clause-keeps
returns-in-Err-add-clause-keeps c j path there = subst (λ (paths : List Path). slice_get paths j ≡ Some path) (sym c.in-Err-add.ensures.same) there
