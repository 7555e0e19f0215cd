use Rattle.std.proofs.Common.{◌≡◌, ℕ, Option, Some, None, refl, sym, ◌∙◌}
use Rattle.hunt_failures.specs.Failures.{step_of}
use Rattle.hunt_failures.proofs.Failing.{seen-late}
use Rattle.hunt_failures.proofs.eve.looked.Goals as goal

none-left : (r : Option ℕ) → ((c : ℕ) → r ≡ Some c → ⊥) → r ≡ None
none-left None h = refl
none-left (Some c) h = absurd (h c refl)

pub returns-in_default : goal.returns-in_default
returns-in_default c before event eve =
    let none : step_of event ≡ None = sym eve.cpu ∙ none-left c.args.eve.now.cpu c.in_default.not-Some in
    c.outside.ensures before event c.args.answer none eve

pub returns : goal.returns
returns c before event eve =
    let is : step_of event ≡ Some c.in-Some.c = sym eve.cpu ∙ c.in-Some.is in
    seen-late c.args.wanted.now before c.args.machine.now event c.args.answer c.too_long.result (c.in-None.ensures before event is eve) (c.too_long.ensures before event)
