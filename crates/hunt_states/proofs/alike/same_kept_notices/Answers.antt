use Rattle.std.proofs.Common.{arith}
use Rattle.hunt_states.proofs.Equal.{same-by-get}
use Rattle.hunt_states.proofs.alike.same_kept_notices.Goals as goal

pub returns : goal.returns
returns g c same =
    let first = c.notice_count-count.ensures in
    let second = c.notice_count.ensures in
    let counts = c.if-count-notice_count.false in
    let end = c.notices-test.false in
    same-by-get c.notices.i c.args.a.now.board.parts.notices.kept c.args.b.now.board.parts.notices.kept (omega arith) (omega arith) c.notices.invariant
