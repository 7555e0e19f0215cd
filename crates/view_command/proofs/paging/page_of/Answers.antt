use Rattle.std.specs.String.{string_bytes}
use Rattle.view_command.proofs.Pages.{whole}
use Rattle.view_command.proofs.paging.page_of.Goals as goal

pub returns-in-Ok-tell-clause-run : goal.returns-in-Ok-tell-clause-run
returns-in-Ok-tell-clause-run g c =
    whole (λ w. string_bytes w) c.with_rest.result c.args.devices c.args.input.now.image.now c.args.sides.0.journal.now (string_bytes c.in-Ok.page) (string_bytes c.tell.new.page)
    c.in-Ok-tell.ensures c.with_rest.ensures.adds
