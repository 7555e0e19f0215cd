use Rattle.std.proofs.Common.{◌<◌, length, arith}
use Rattle.std.proofs.lemmas.Result.{err_from_is_err_and}
use Rattle.evm_journal.proofs.evm_text.Appending.{appends_none, appends_more, appends_front}
use Rattle.evm_debug.proofs.Below.{tasks_below-none, tasks_below-more, tasks_below-longer}
use Rattle.evm_debug.proofs.views.push_tasks.Goals as goal

pub loop-t-init : goal.loop-t-init
loop-t-init g c = appends_none _ _ (tasks_below-none _)

pub loop-t-preserved : goal.loop-t-preserved
loop-t-preserved g c = appends_more _ _ _ _ _ _ c.loop-t.invariant c.in_ok-push_numbered_task.ensures (tasks_below-more c.loop-t.t _)

pub returns-in_err-push_numbered_task : goal.returns-in_err-push_numbered_task
returns-in_err-push_numbered_task g c =
    let below : c.loop-t.t < length c.args.machine.now.board.parts.tasks = omega (arith, c.loop-t-test.true) in
    let p = err_from_is_err_and c.from_residual.result c.from_residual.ensures.1 in
    rw (p.1, p.2) (appends_front _ _ _ _ _ _ _ c.loop-t.invariant c.in_err-push_numbered_task.ensures (tasks_below-longer c.loop-t.t (length c.args.machine.now.board.parts.tasks) c.args.machine.now.board.parts below))
