use Rattle.view_page.proofs.Runs.{four}
use Rattle.view_page.proofs.telling.push_run.Goals as goal

pub returns : goal.returns
returns g c =
    let start = c.in_ok-push_start.ensures in
    let told = c.in_ok-push_entries.ensures in
    (start.0, told.0, told.1, four _ _ _ _ _ _ _ _ _ c.in_ok-push_text.ensures.ok start.1 told.2 c.in_ok-push_text-2.ensures.ok)
