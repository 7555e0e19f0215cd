use Rattle.view_page.proofs.Runs.{adds}
use Rattle.view_page.proofs.page.push_tail.Goals as goal

pub returns : goal.returns
returns c = adds _ _ _ _ _ _ _ _ _ _ c.in_ok-push_text.ensures.ok c.in_ok-push_text-2.ensures.ok c.in_ok-push_text-3.ensures.ok c.push_text-4.ensures.ok
