use Rattle.view_page.proofs.Runs.{five}
use Rattle.view_page.proofs.page.push_walk.Goals as goal

pub returns : goal.returns
returns g c =
    let told = c.in_ok-push_run.ensures in
    (told.0, told.1, told.2, five _ _ _ _ _ _ _ _ _ _ _ c.in_ok-push_text.ensures.ok c.in_ok-push_safe.ensures c.in_ok-push_text-2.ensures.ok told.3 c.in_ok-push_text-3.ensures.ok)
