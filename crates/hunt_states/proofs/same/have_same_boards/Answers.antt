use Rattle.std.proofs.Common.{◌≡◌, rules, true, arith}
use Rattle.hunt_states.proofs.Boards.{same-boards}
use Rattle.hunt_states.proofs.same.have_same_boards.Goals as goal

pub returns-clause-board : goal.returns-clause-board
returns-clause-board g c same kinds =
    let boot : c.args.a.now.boot ≡ c.args.b.now.boot = search rules in
    let beside : c.same_beside.result ≡ true = search rules in
    let lists : c.same_lists.result ≡ true = search rules in
    same-boards c.args.a.now c.args.b.now c.rules.ensures.good c.rules-2.ensures.good boot (grind arith) (grind arith)
    (c.same_lists.ensures lists) (c.same_beside.ensures beside) (c.same_memories.ensures same) kinds
