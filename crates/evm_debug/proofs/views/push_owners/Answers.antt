use Rattle.std.proofs.Common.{◌<◌, length, arith}
use Rattle.std.proofs.lemmas.Result.{err_from_is_err_and}
use Rattle.evm_journal.proofs.evm_text.Appending.{appends_none, appends_more, appends_front}
use Rattle.evm_debug.proofs.Below.{owners_below-none, owners_below-more, owners_below-longer}
use Rattle.evm_debug.proofs.views.push_owners.Goals as goal

pub loop-m-init : goal.loop-m-init
loop-m-init g c = appends_none _ _ (owners_below-none _)

pub loop-m-preserved : goal.loop-m-preserved
loop-m-preserved g c = appends_more _ _ _ _ _ _ c.loop-m.invariant c.in_ok-push_numbered_mutex.ensures (owners_below-more c.loop-m.m _)

pub returns-in_err-push_numbered_mutex : goal.returns-in_err-push_numbered_mutex
returns-in_err-push_numbered_mutex g c =
    let below : c.loop-m.m < length c.args.machine.now.board.parts.mutexes = omega (arith, c.loop-m-test.true) in
    let p = err_from_is_err_and c.from_residual.result c.from_residual.ensures.1 in
    rw (p.1, p.2) (appends_front _ _ _ _ _ _ _ c.loop-m.invariant c.in_err-push_numbered_mutex.ensures (owners_below-longer c.loop-m.m (length c.args.machine.now.board.parts.mutexes) c.args.machine.now.board.parts.mutexes below))
