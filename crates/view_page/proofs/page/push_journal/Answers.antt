use Rattle.std.specs.String.{string_bytes}
use Rattle.view_page.proofs.Runs.{tells-journal}
use Rattle.view_page.proofs.page.push_journal.Goals as goal

pub returns : goal.returns
returns g c = tells-journal c.push_walk.result c.args.devices c.args.run.now.image.now c.args.run.now.journal.now c.as_bytes.result.now c.in_ok-walk.walk (string_bytes c.args.out.now) (string_bytes c.push_walk.new.out) c.in_ok-walk.ensures c.push_walk.ensures
