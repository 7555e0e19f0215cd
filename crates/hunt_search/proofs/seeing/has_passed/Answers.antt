use Rattle.std.proofs.Common.{◌≡◌, ◌<◌, ◌++◌, ◌∷◌, [], ℕ, Some, length, sym, subst, arith}
use Rattle.std.proofs.lemmas.Bool.Decides.{nat_tests}
use Rattle.std.specs.Prelude.{slice_get}
use Rattle.hunt_schedules.proofs.Going.{at-last}
use Rattle.hunt_search.proofs.seeing.has_passed.Goals as goal

pub returns-then-mark-walked : goal.returns-then-mark-walked
returns-then-mark-walked c less =
    let last = c.if-mark-walked.true in
    let place : c.args.mark.place ≡ length c.args.walked.now = grind (arith, nat_tests) in
    let before : c.args.mark.steps < c.args.steps = grind (arith, nat_tests) in
    (c.args.steps, subst (λ (i : ℕ). slice_get (c.args.walked.now ++ c.args.steps ∷ []) i ≡ Some c.args.steps) (sym place) (at-last c.args.walked.now c.args.steps), before)
