use Rattle.std.proofs.Common.{◌≡◌, rules, true}
use Rattle.hunt_states.proofs.AlikeBoards.{alike-clocks}
use Rattle.hunt_states.proofs.alike.are_alike.Goals as goal

pub returns : goal.returns
returns g c same kinds =
    let kept : c.same_kept_notices.result ≡ true = search rules in
    alike-clocks c.args.a.now.board c.args.b.now.board (c.are_alike_timeless.ensures same kinds) (search rules) (c.same_kept_notices.ensures kept)
