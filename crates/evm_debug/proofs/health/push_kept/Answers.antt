use Rattle.std.proofs.Common.{◌<◌, length, arith}
use Rattle.std.proofs.lemmas.Result.{err_from_is_err_and}
use Rattle.evm_journal.proofs.evm_text.Appending.{appends_none, appends_more, appends_front}
use Rattle.evm_debug.proofs.Below.{notices_below-none, notices_below-more, notices_below-longer}
use Rattle.evm_debug.proofs.health.push_kept.Goals as goal

pub loop-i-init : goal.loop-i-init
loop-i-init g c = appends_none _ _ (notices_below-none _)

pub loop-i-preserved : goal.loop-i-preserved
loop-i-preserved g c = appends_more _ _ _ _ _ _ c.loop-i.invariant c.in_ok-push_numbered_notice.ensures (notices_below-more c.loop-i.i _)

pub returns-in_err-push_numbered_notice : goal.returns-in_err-push_numbered_notice
returns-in_err-push_numbered_notice g c =
    let below : c.loop-i.i < length c.args.machine.now.board.parts.notices.kept = omega (arith, c.loop-i-test.true) in
    let p = err_from_is_err_and c.from_residual.result c.from_residual.ensures.1 in
    rw (p.1, p.2) (appends_front _ _ _ _ _ _ _ c.loop-i.invariant c.in_err-push_numbered_notice.ensures (notices_below-longer c.loop-i.i (length c.args.machine.now.board.parts.notices.kept) c.args.machine.now.board.parts.notices.kept below))
