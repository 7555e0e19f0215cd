use Rattle.std.proofs.Common.{List, [], ◌∷◌, ◌++◌, ap, ◌∙◌}
use Rattle.hunt_space.specs.declared.path.Path.{Path}
use Rattle.hunt_space.proofs.frontier.Frontier.new.Goals as goal

pub returns-in-Ok : goal.returns-in-Ok
returns-in-Ok c = (c.root.result, c.in-Ok.ensures.items ∙ ap (λ (xs : List Path). xs ++ c.root.result ∷ []) c.new-paths.ensures.items, c.root.ensures)
