use Rattle.std.proofs.Common.{◌≡◌, rules, true, arith}
use Rattle.hunt_states.proofs.AlikeBoards.{alike-timeless}
use Rattle.hunt_states.proofs.alike.are_alike_timeless.Goals as goal

pub returns : goal.returns
returns g c same kinds =
    let boots : c.alike_boots.result ≡ true = search rules in
    let beside : c.alike_beside.result ≡ true = search rules in
    let lists : c.alike_lists.result ≡ true = search rules in
    let order : c.same_order.result ≡ true = search rules in
    alike-timeless c.args.a.now c.args.b.now c.rules.ensures.good c.rules-2.ensures.good (c.alike_boots.ensures boots) (grind arith) (grind arith)
    (c.alike_lists.ensures lists) (c.alike_beside.ensures beside) (c.same_order.ensures order) (c.same_memories.ensures same) kinds
