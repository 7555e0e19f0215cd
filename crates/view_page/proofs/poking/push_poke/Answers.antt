use Rattle.std.specs.String.{string_bytes}
use Rattle.view_page.proofs.Poked.{passed, written}
use Rattle.view_page.proofs.poking.push_poke.Goals as goal

pub returns-in-None : goal.returns-in-None
returns-in-None c = λ lines. passed c.args.later c.args.line.now lines (string_bytes c.args.out.now) c.in-None.ensures

pub returns-in_ok-push_bytes-in-Some : goal.returns-in_ok-push_bytes-in-Some
returns-in_ok-push_bytes-in-Some c =
    λ lines.
    written c.args.later c.args.line.now c.in-Some.bytes.now lines (string_bytes c.args.out.now) (string_bytes c.push_bytes.new.out) c.in-Some.ensures c.in_ok-push_bytes-in-Some.ensures
