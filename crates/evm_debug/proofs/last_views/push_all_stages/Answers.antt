use Rattle.std.proofs.Common.{◌<◌, length, arith}
use Rattle.std.proofs.lemmas.Result.{err_from_is_err_and}
use Rattle.evm_journal.proofs.evm_text.Appending.{appends_none, appends_more, appends_front}
use Rattle.evm_debug.proofs.Below.{stages_below-none, stages_below-more, stages_below-longer}
use Rattle.evm_debug.proofs.last_views.push_all_stages.Goals as goal

pub loop-c-init : goal.loop-c-init
loop-c-init g c = appends_none _ _ (stages_below-none _)

pub loop-c-preserved : goal.loop-c-preserved
loop-c-preserved g c = appends_more _ _ _ _ _ _ c.loop-c.invariant c.in_ok-push_stages_of.ensures (stages_below-more c.loop-c.c _)

pub returns-in_err-push_stages_of : goal.returns-in_err-push_stages_of
returns-in_err-push_stages_of g c =
    let below : c.loop-c.c < length c.args.machine.now.board.parts.processors = omega (arith, c.loop-c-test.true) in
    let p = err_from_is_err_and c.from_residual.result c.from_residual.ensures.1 in
    rw (p.1, p.2) (appends_front _ _ _ _ _ _ _ c.loop-c.invariant c.in_err-push_stages_of.ensures (stages_below-longer c.loop-c.c (length c.args.machine.now.board.parts.processors) c.args.machine.now.board.parts below))
